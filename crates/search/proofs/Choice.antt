-- What is chosen of any rows whose computed distances are numbers: one of them, than which none is computed nearer, and none that is equally near has a lower id.
-- Assumes nothing.
use Prim.Native.Nat.{ℕ, ◌≤◌}
use native.Mathlib.Nat.{le_refl, le_trans, le_of_lt}
use mathlib.Core.Path.{◌≡◌, refl, sym}
use mathlib.Core.Logic.{⊎_elim}
use mathlib.Core.Bool.{true, false, ◌&&◌}
use mathlib.Core.Option.{Option, none, some, Option-elim, some-ne-none}
use mathlib.Core.List.Memᴰ
use mathlib.Core.List.{List, [], ◌∷◌, Memᴰ}
use lib.Dec.{ltb, eqb}
use lib.Ieee.{Float, lt, le, eq, is_nan}
use borrow.Author.Tests.{ltb-false, eqb-true}
use Rattle.basics.proofs.Bools.{by_test, and_both, or_left, or_right}
use Rattle.basics.specs.Lists.{keep}
use Rattle.floats.proofs.Order.{le_left, le_self, le_join, not_lt_le}
use Rattle.grid_search.specs.declared.GridSearch.{GridSearch}
use Rattle.table.specs.declared.Row.{Row}
use Rattle.table.specs.Rows.{key_in, id_in}
use Rattle.rows.specs.Insert.{container_of}
use Rattle.search.specs.Search.{is_near, near_rows, away, chosen_before, nearer_of, nearest, chosen}
use Rattle.search.proofs.Order.{no_farther, lower-id}

module _ (s : GridSearch) (x : List Float) where
  -- ---- which of two rows is chosen

  -- r is not farther than t, and where it is not nearer either, its id is not higher
  pub record Leads (r t : Row) : Type 0 where
    pub not_farther : le (away s x r) (away s x t) ≡ true
    pub not_higher : le (away s x t) (away s x r) ≡ true → id_in r ≤ id_in t

  leads_self : (r : Row) → is_nan (away s x r) ≡ false → Leads r r
  leads_self r n = record { not_farther = le_self (away s x r) n; not_higher = λ h. le_refl (id_in r) }

  leads-join : (r t u : Row) → Leads r t → Leads t u → Leads r u
  leads-join r t u a b =
      let d = away s x in
      record {
        not_farther = le_join (d r) (d t) (d u) a.not_farther b.not_farther;
        not_higher = λ h.
            le_trans (a.not_higher (le_join (d t) (d u) (d r) b.not_farther h)) (b.not_higher (le_join (d u) (d r) (d t) h a.not_farther));
      }

  before-leads : (r t : Row) → chosen_before s x r t ≡ true → Leads r t
  before-leads r t h = record { not_farther = no_farther s x r t h; not_higher = λ k. le_of_lt (lower-id s x r t h k) }

  -- of two distances that are numbers
  after_leads : (r t : Row) → is_nan (away s x r) ≡ false → is_nan (away s x t) ≡ false → chosen_before s x r t ≡ false → Leads t r
  unfolding chosen_before le
  after_leads r t m n h =
      let equal = eq (away s x r) (away s x t) && ltb (id_in r) (id_in t) in
      let f : lt (away s x r) (away s x t) ≡ false = or_left (lt (away s x r) (away s x t)) equal h in
      let g : equal ≡ false = or_right (lt (away s x r) (away s x t)) equal h in
      record {
        not_farther = not_lt_le (away s x t) (away s x r) n m f;
        not_higher = λ k. let e : eq (away s x r) (away s x t) ≡ true = rw f at k in ltb-false (id_in r) (id_in t) (rw e at g);
      }

  -- ---- which of many

  -- r is one of the rows, and leads them all
  pub record Choice (rows : List Row) (r : Row) : Type 0 where
    pub among : Memᴰ r rows
    pub leads : (t : Row) → Memᴰ t rows → Leads r t

  -- every row's computed distance is a number
  abbrev pub Measured : List Row → Type 0
  Measured rows = (t : Row) → Memᴰ t rows → is_nan (away s x t) ≡ false

  -- of no rows none, and else one
  abbrev pub Chosen : List Row → Option Row → Type 0
  Chosen rows none = rows ≡ []
  Chosen rows (some r) = Choice rows r

  first : (r : Row) (rows : List Row) → is_nan (away s x r) ≡ false → ((t : Row) → Memᴰ t rows → Leads r t) → Choice (r ∷ rows) r
  first r rows n a = record {
    among = Memᴰ.head refl;
    leads = λ t m. ⊎_elim (λ (e : t ≡ r). rw e (leads_self r n)) (λ (k : Memᴰ t rows). a t k) (Memᴰ.cases_cons m);
  }

  later : (r t : Row) (rows : List Row) → Leads t r → Choice rows t → Choice (r ∷ rows) t
  later r t rows a c = record {
    among = Memᴰ.tail c.among;
    leads = λ u m. ⊎_elim (λ (e : u ≡ r). rw e a) (λ (k : Memᴰ u rows). c.leads u k) (Memᴰ.cases_cons m);
  }

  pub nearest-is : (rows : List Row) → Measured rows → Chosen rows (nearest s x rows)
  unfolding nearest nearer_of
  nearest-is [] n = refl
  nearest-is (r ∷ rows) n = go (nearest s x rows) (nearest-is rows (λ t m. n t (Memᴰ.tail m)))
    where
      here : is_nan (away s x r) ≡ false
      here = n r (Memᴰ.head refl)

      go : (o : Option Row) → Chosen rows o → Chosen (r ∷ rows) (nearer_of s x r o)
      go none e = rw e (first r [] here (λ t m. absurd (Memᴰ.not-nil m)))
      go (some t) c =
          by_test (chosen_before s x r t)
          (λ b. rw b (first r rows here (λ u m. leads-join r t u (before-leads r t b) (c.leads u m))))
          (λ b. rw b (later r t rows (after_leads r t here (n t (Memᴰ.tail c.among)) b) c))

  -- ---- which of the near rows

  -- a near row is one of the rows, in the position's container, and its computed distance is at most tol_dist
  pub record Near (rows : List Row) (r : Row) : Type 0 where
    pub among : Memᴰ r rows
    pub there : key_in r ≡ container_of s x
    pub within : le (away s x r) s.tol_dist ≡ true

  near_first : (r : Row) (rows : List Row) → is_near s x r ≡ true → Near (r ∷ rows) r
  unfolding is_near away
  near_first r rows h =
      let d = and_both (eqb (key_in r) (container_of s x)) (le (away s x r) s.tol_dist) h in
      record { among = Memᴰ.head refl; there = eqb-true (key_in r) (container_of s x) d.0; within = d.1 }

  near-later : (r t : Row) (rows : List Row) → Near rows r → Near (t ∷ rows) r
  near-later r t rows n = record { among = Memᴰ.tail n.among; there = n.there; within = n.within }

  pub near_row : (rows : List Row) (r : Row) → Memᴰ r (near_rows s x rows) → Near rows r
  unfolding near_rows keep
  near_row [] r m = absurd (Memᴰ.not-nil m)
  near_row (t ∷ rows) r m =
      by_test (is_near s x t)
      (λ h. ⊎_elim (λ (e : r ≡ t). rw e (near_first t rows h)) (λ (k : Memᴰ r (near_rows s x rows)). near-later r t rows (near_row rows r k)) (Memᴰ.cases_cons (rw h at m)))
      (λ h. near-later r t rows (near_row rows r (rw h at m)))

  near_choice : (rows : List Row) → Chosen (near_rows s x rows) (nearest s x (near_rows s x rows))
  near_choice rows = nearest-is (near_rows s x rows) (λ t m. le_left (away s x t) s.tol_dist (near_row rows t m).within)

  -- the id that is chosen among them is that of a row that leads them all
  pub chosen_row : (rows : List Row) (j : ℕ) → chosen s x (near_rows s x rows) ≡ some j → (r : Row) × Choice (near_rows s x rows) r × (id_in r ≡ j)
  unfolding chosen Option-elim
  chosen_row rows j e = go (nearest s x (near_rows s x rows)) (near_choice rows) e
    where
      go : (o : Option Row) → Chosen (near_rows s x rows) o → Option-elim o none (λ (r : Row). some (id_in r)) ≡ some j → (r : Row) × Choice (near_rows s x rows) r × (id_in r ≡ j)
      go none c e = absurd (some-ne-none j (sym e))
      go (some r) c e = (r, c, cc)

  -- where none is chosen, there are none
  pub chosen_none : (rows : List Row) → chosen s x (near_rows s x rows) ≡ none → near_rows s x rows ≡ []
  unfolding chosen Option-elim
  chosen_none rows e = go (nearest s x (near_rows s x rows)) (near_choice rows) e
    where
      go : (o : Option Row) → Chosen (near_rows s x rows) o → Option-elim o none (λ (r : Row). some (id_in r)) ≡ none → near_rows s x rows ≡ []
      go none c e = c
      go (some r) c e = absurd (some-ne-none (id_in r) e)
