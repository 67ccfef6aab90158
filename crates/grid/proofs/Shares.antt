-- Laws of divisions, over any number of axes: where no length is negative, each axis has from 1 division to the full number; there are as many divisions as axes.
-- Assumes nothing.
use Prim.Native.Nat.{ℕ, zero, suc, ◌^◌, ◌≤◌, max}
use native.Mathlib.Omega.{arith}
use mathlib.Core.Path.{◌≡◌, refl, ap, ◌∙◌}
use mathlib.Core.Bool.{Bool, true, false, not, ◌&&◌, false≢true}
use mathlib.Core.List.{List, [], ◌∷◌}
use lib.Dec.{leb, eqb}
use lib.ListN.{length, take}
use lib.Ieee.{Float, nan, inf, fin, lt, le, is_nan}
use borrow.Author.Tests.{le-leb}
use Rattle.basics.proofs.Bools.{by_test, both, and_both}
use Rattle.basics.specs.Lists.{all, zip_with}
use Rattle.floats.specs.Rounded.{◌⊖◌, ◌⊗◌, ◌⊘◌, of_nat, truncate}
use Rattle.floats.proofs.Order.{lt_is_not_le, not_lt_le, lt-le, le_self, le_join}
use Rattle.floats.proofs.Upto.{unsigned, share-upto}
use Rattle.geometry.specs.Distances.{from}
use Rattle.grid.specs.declared.Longest.{Longest}
use Rattle.grid.specs.Divisions.{longer, longest_from, longest, share, shares, num_divisions}

unsigned_number : (x : Float) → unsigned x ≡ true → is_nan x ≡ false
unfolding is_nan
unsigned_number nan h = absurd (false≢true h)
unsigned_number (inf s) h = refl
unsigned_number (fin s m e) h = refl

-- ---- the longest is a length, and none is above it
pub record Top (r : Longest) (ds : List Float) : Type 0 where
  pub sign : unsigned r.delta ≡ true
  pub most : all (λ (d : Float). le d r.delta) ds ≡ true

module _ (best : Longest) (i : ℕ) (d : Float) (p : unsigned best.delta ≡ true) (q : unsigned d ≡ true) where
  longer_sign : unsigned (longer best i d).delta ≡ true
  unfolding longer
  longer_sign = by_test (lt best.delta d) (λ e. rw e q) (λ e. rw e p)

  longer_old : le best.delta (longer best i d).delta ≡ true
  unfolding longer
  longer_old = by_test (lt best.delta d) (λ e. rw e (lt-le best.delta d e)) (λ e. rw e (le_self best.delta (unsigned_number best.delta p)))

  longer_new : le d (longer best i d).delta ≡ true
  unfolding longer
  longer_new =
      by_test (lt best.delta d)
      (λ e. rw e (le_self d (unsigned_number d q)))
      (λ e. rw e (not_lt_le d best.delta (unsigned_number d q) (unsigned_number best.delta p) e))

longest_top : (best : Longest) (i : ℕ) (ds : List Float) → unsigned best.delta ≡ true → all unsigned ds ≡ true
    → Top (longest_from best i ds) ds × (le best.delta (longest_from best i ds).delta ≡ true)
unfolding longest_from all
longest_top best i [] p q = (record { sign = p; most = refl }, le_self best.delta (unsigned_number best.delta p))
longest_top best i (d ∷ ds) p q =
    let u = and_both (unsigned d) (all unsigned ds) q in
    let b = longer best i d in
    let r = (longest_from b (suc i) ds).delta in
    let t = longest_top b (suc i) ds (longer_sign best i d p u.0) u.1 in (
      record { sign = t.0.sign; most = both (le_join d b.delta r (longer_new best i d p u.0) t.1) t.0.most },
      le_join best.delta b.delta r (longer_old best i d p u.0) t.1,
    )

-- ---- each division
abbrev pub up_to_number : ℕ → ℕ → Bool
up_to_number number n = leb 1 n && leb n number

module _ (number : ℕ) (P : 1 ≤ number) (N : number ≤ 2 ^ 53) where
  raised : (t : ℕ) → t ≤ number → up_to_number number (max 1 t) ≡ true
  raised t h = both (le-leb 1 (max 1 t) (omega arith)) (le-leb (max 1 t) number (omega arith))

  share_range : (best : Longest) (i : ℕ) (d : Float) → unsigned d ≡ true → unsigned best.delta ≡ true → le d best.delta ≡ true → up_to_number number (share number best i d) ≡ true
  unfolding share
  share_range best i d p q h =
      by_test (eqb i best.axis)
      (λ e. rw e (both (le-leb 1 number P) (le-leb number number (omega arith))))
      (λ e. rw e (raised (truncate (d ⊘ best.delta ⊗ of_nat number))
      (share-upto d best.delta number N p q (lt_is_not_le best.delta d (unsigned_number best.delta q) (unsigned_number d p) ∙ ap not h))))

  shares_range : (best : Longest) (i : ℕ) (ds : List Float) → all unsigned ds ≡ true → Top best ds → all (up_to_number number) (shares number best i ds) ≡ true
  unfolding shares all
  shares_range best i [] u t = refl
  shares_range best i (d ∷ ds) u t =
      let a = and_both (unsigned d) (all unsigned ds) u in
      let b = and_both (le d best.delta) (all (λ (d : Float). le d best.delta) ds) t.most in
      both (share_range best i d a.0 t.sign b.0) (shares_range best (suc i) ds a.1 (record { sign = t.sign; most = b.1 }))

  pub divisions_range : (xmin xmax : List Float) → all unsigned (from xmin xmax) ≡ true → all (up_to_number number) (num_divisions number xmin xmax) ≡ true
  unfolding num_divisions longest all
  divisions_range xmin xmax u = shares_range (longest (from xmin xmax)) 0 (from xmin xmax) u (top (from xmin xmax) u)
    where
      top : (ds : List Float) → all unsigned ds ≡ true → Top (longest ds) ds
      top [] u = record { sign = refl; most = refl }
      top (d ∷ ds) u =
          let a = and_both (unsigned d) (all unsigned ds) u in
          let t = longest_top (record { axis = 0; delta = d }) 1 ds a.0 a.1 in
          record { sign = t.0.sign; most = both t.1 t.0.most }

-- ---- how many
shares-length : (number : ℕ) (best : Longest) (i : ℕ) (ds : List Float) → length (shares number best i ds) ≡ length ds
unfolding shares
shares-length number best i [] = refl
shares-length number best i (d ∷ ds) = ap suc (shares-length number best (suc i) ds)

pub divisions-length : (number : ℕ) (xmin xmax : List Float) → length xmax ≡ length xmin → length (num_divisions number xmin xmax) ≡ length xmin
unfolding num_divisions from
divisions-length number xmin xmax e = shares-length number (longest (from xmin xmax)) 0 (from xmin xmax) ∙ go xmax xmin e ∙ e
  where
    go : (ys xs : List Float) → length ys ≡ length xs → length (zip_with (λ (y x : Float). y ⊖ x) ys xs) ≡ length ys
    go [] xs e = refl
    go (y ∷ ys) [] e = absurd (omega arith)
    go (y ∷ ys) (x ∷ xs) e = ap suc (go ys xs (omega arith))

-- ---- those of the first n lengths
pub take-shares : (number : ℕ) (best : Longest) (n i : ℕ) (ds : List Float) → take n (shares number best i ds) ≡ shares number best i (take n ds)
unfolding shares
take-shares number best zero i ds = refl
take-shares number best (suc n) i [] = refl
take-shares number best (suc n) i (d ∷ ds) = rw (take-shares number best n (suc i) ds)
