-- The walks that measure: the extent of the boxes passed, and the count of large ones among them.
-- Assumes nothing.
use Prim.Native.Nat.{ℕ, suc, ◌+◌, ◌≤◌, ◌<◌}
use native.Mathlib.Numerals.{add-one}
use native.Mathlib.Omega.{arith}
use mathlib.Core.Path.{◌≡◌, refl, sym, ap, ◌∙◌}
use mathlib.Core.Bool.{Bool, true, false, cond, not, false≢true}
use mathlib.Core.List.{List, [], ◌∷◌, map}
use lib.ListN.{length, drop}
use lib.Ieee.{Float, le}
use Rattle.std.specs.Prelude.{Option, Some, None, unwrap_or}
use Rattle.basics.proofs.Bools.{by_test}
use Rattle.basics.specs.Lists.{keep, zip_with, fold_from}
use Rattle.floats.specs.Rounded.{◌⊗◌, ◌⊘◌, of_nat, zero_f}
use Rattle.floats.specs.Tests.{min_of, max_of}
use Rattle.geometry.specs.Position.{coords}
use Rattle.grid_search.specs.Sheet.{largest}
use Rattle.mesh.specs.declared.BoundingBox.{BoundingBox}
use Rattle.mesh.specs.Mesh.{Mesh, Box, cell_count, box_of, boxed, joined_box, least, greatest, longest_side}
use Rattle.cell_sizes.specs.declared.Settings.{Settings}
use Rattle.cell_sizes.specs.declared.Extent.{Extent}
use Rattle.cell_sizes.specs.declared.Census.{Census}
use Rattle.cell_sizes.specs.Large.{boxes, longest_of, is_large, numbered, large_of, measure}
use Rattle.cell_sizes.specs.Steps.{Widened, Around, longer, counted, Counted, Sized}
use Rattle.cell_sizes.proofs.Boxes.{length-boxes, boxes-next, boxes_end}

-- ---- the extent

-- what is known once the boxes before number c are passed
pub record Passed (n : ℕ) (m : Mesh) (c : ℕ) (e : Extent) : Type 0 where
  pub low : least (map (λ (b : Box). b.low) (boxes n m)) ≡ fold_from (zip_with min_of) (coords n e.limits.low) (map (λ (b : Box). b.low) (drop c (boxes n m)))
  pub high : greatest (map (λ (b : Box). b.high) (boxes n m)) ≡ fold_from (zip_with max_of) (coords n e.limits.high) (map (λ (b : Box). b.high) (drop c (boxes n m)))
  pub largest : longest_of (boxes n m) ≡ fold_from max_of e.largest (map longest_side (drop c (boxes n m)))

module _ (n : ℕ) (m : Mesh) where
  pub extent_start : (b : BoundingBox) (l : Float) → 0 < cell_count n m → boxed n b ≡ box_of n m 0 → l ≡ longest_side (boxed n b) → Passed n m 1 (record { limits = b; largest = l })
  unfolding least greatest longest_of largest
  extent_start b l h e f =
      let g : boxes n m ≡ boxed n b ∷ drop 1 (boxes n m) = boxes-next n m 0 h ∙ rw e in
      record {
        low = ap (λ (bs : List Box). least (map (λ (b : Box). b.low) bs)) g;
        high = ap (λ (bs : List Box). greatest (map (λ (b : Box). b.high) bs)) g;
        largest = ap (λ (bs : List Box). longest_of bs) g ∙ rw f;
      }

  pub extent_next : (c : ℕ) (e r : Extent) (b : BoundingBox) → c < cell_count n m → Passed n m c e → boxed n b ≡ box_of n m c → Widened n e b r → Passed n m (c + 1) r
  unfolding fold_from joined_box
  extent_next c e r b h p f w =
      let g : drop c (boxes n m) ≡ boxed n b ∷ drop (c + 1) (boxes n m) = boxes-next n m c h ∙ rw f in
      record {
        low = p.low ∙ rw (g, ap (λ (x : Box). x.low) (w.limits n));
        high = p.high ∙ rw (g, ap (λ (x : Box). x.high) (w.limits n));
        largest = p.largest ∙ rw (g, w.largest);
      }

  pub extent_end : (c : ℕ) (e : Extent) → cell_count n m ≤ c → Passed n m c e → Around n m e
  unfolding fold_from
  extent_end c e h p = record {
    low = sym (p.low ∙ rw (boxes_end n m c h));
    high = sym (p.high ∙ rw (boxes_end n m c h));
    largest = sym (p.largest ∙ rw (boxes_end n m c h));
  }

-- ---- the census

-- the largest of those passed, if there are any, and of the rest
unfoldable pub after : Option Float → List Float → Float
after None xs = largest xs
after (Some v) xs = fold_from max_of v xs

abbrev pub is_small : Float → Box → Bool
is_small limit b = not (is_large limit b)

pub record Seen (n : ℕ) (m : Mesh) (limit : Float) (c : ℕ) (s : Census) : Type 0 where
  pub few : s.large ≤ c
  pub large : length (numbered (is_large limit) 0 (boxes n m)) ≡ s.large + length (numbered (is_large limit) c (drop c (boxes n m)))
  pub longest : longest_of (keep (is_small limit) (boxes n m)) ≡ after s.longest (map longest_side (keep (is_small limit) (drop c (boxes n m))))

further : (v : Option Float) (x : Float) (xs : List Float) → after v (x ∷ xs) ≡ after (Some (longer v x)) xs
unfolding after largest fold_from
further None x xs = refl
further (Some v) x xs = refl

last : (v : Option Float) → after v [] ≡ unwrap_or v zero_f
unfolding after largest fold_from
last None = refl
last (Some v) = refl

module _ (n : ℕ) (m : Mesh) (limit : Float) where
  pub census_start : Seen n m limit 0 (record { large = 0; longest = None })
  unfolding after longest_of
  census_start = record { few = omega arith; large = omega arith; longest = refl }

  module _ (c : ℕ) (s : Census) (b : Box) (rest : List Box) (k : Seen n m limit c s) (g : drop c (boxes n m) ≡ b ∷ rest) where
    next-large : is_large limit b ≡ true → length (numbered (is_large limit) 0 (boxes n m)) ≡ s.large + 1 + length (numbered (is_large limit) (c + 1) rest)
    unfolding numbered
    next-large e = k.large ∙ rw (g, e, add-one c) (omega arith)

    next-same : is_large limit b ≡ false → length (numbered (is_large limit) 0 (boxes n m)) ≡ s.large + length (numbered (is_large limit) (c + 1) rest)
    unfolding numbered
    next-same e = k.large ∙ rw (g, e, add-one c)

    next_passed : is_large limit b ≡ true → longest_of (keep (is_small limit) (boxes n m)) ≡ after s.longest (map longest_side (keep (is_small limit) rest))
    unfolding keep
    next_passed e = k.longest ∙ rw (g, e)

    next_kept : is_large limit b ≡ false → longest_of (keep (is_small limit) (boxes n m)) ≡ after s.longest (longest_side b ∷ map longest_side (keep (is_small limit) rest))
    unfolding keep
    next_kept e = k.longest ∙ rw (g, e)

    when_large : is_large limit b ≡ true → counted limit s b ≡ record { large = s.large + 1; longest = s.longest }
    unfolding counted
    when_large e = rw e

    when_small : is_large limit b ≡ false → counted limit s b ≡ record { large = s.large; longest = Some (longer s.longest (longest_side b)) }
    unfolding counted
    when_small e = rw e

    step : rest ≡ drop (c + 1) (boxes n m) → Seen n m limit (c + 1) (counted limit s b)
    step f =
        by_test (is_large limit b)
        (λ e. rw (when_large e) (record { few = omega (arith, k.few); large = rw (← f) (next-large e); longest = rw (← f) (next_passed e) }))
        (λ e.
        rw (when_small e)
        (record {
          few = omega (arith, k.few);
          large = rw (← f) (next-same e);
          longest = rw (← f) (next_kept e ∙ further s.longest (longest_side b) (map longest_side (keep (is_small limit) rest)));
        }))

  pub census_next : (c : ℕ) (s r : Census) (b : Box) → c < cell_count n m → Seen n m limit c s → b ≡ box_of n m c → r ≡ counted limit s b → Seen n m limit (c + 1) r
  census_next c s r b h k e f = rw f (step c s b (drop (c + 1) (boxes n m)) k (rw e (boxes-next n m c h)) refl)

  pub census_end : (c : ℕ) (s : Census) → cell_count n m ≤ c → Seen n m limit c s → Counted n m limit s
  unfolding numbered keep
  census_end c s h k = record {
    large = sym (k.large ∙ rw (boxes_end n m c h) (omega arith));
    longest = sym (k.longest ∙ rw (boxes_end n m c h) (last s.longest));
  }

-- ---- both together

module _ (n : ℕ) (m : Mesh) (t : Settings) where
  pub measured-limit : (measure n m t).limit ≡ t.large_cutoff ⊗ longest_of (boxes n m)
  unfolding measure
  measured-limit = refl

  measured-apart : (measure n m t).apart ≡ le (of_nat (length (numbered (is_large (measure n m t).limit) 0 (boxes n m))) ⊘ of_nat (length (boxes n m))) t.large_pct
  unfolding measure
  measured-apart = refl

  measured-large : (measure n m t).large ≡ cond (measure n m t).apart (numbered (is_large (measure n m t).limit) 0 (boxes n m)) []
  unfolding measure large_of
  measured-large = refl

  measured-longest : (measure n m t).longest ≡ cond (measure n m t).apart (longest_of (keep (is_small (measure n m t).limit) (boxes n m))) (longest_of (boxes n m))
  unfolding measure
  measured-longest = refl

  module _ (e : Extent) (limit : Float) (f : Census) (ncell : ℕ) (p : Float) (a : Around n m e) (l : limit ≡ t.large_cutoff ⊗ e.largest) (s : Counted n m limit f) (k : ncell ≡ cell_count n m)
      (q : p ≡ of_nat f.large ⊘ of_nat ncell) where
    same-limit : limit ≡ (measure n m t).limit
    same-limit = l ∙ ap (λ (x : Float). t.large_cutoff ⊗ x) a.largest ∙ sym measured-limit

    same_part : le p t.large_pct ≡ (measure n m t).apart
    same_part = rw (measured-apart, ← same-limit, q, s.large, k, ← length-boxes n m)

    pub sized_apart : le p t.large_pct ≡ true
        → Sized n m t (record {
          limits = e.limits;
          limit = limit;
          apart = Some (record { limit = limit; count = f.large });
          longest = unwrap_or f.longest zero_f;
        })
    sized_apart h =
        let z : (measure n m t).apart ≡ true = sym same_part ∙ h in
        record {
          low = a.low;
          high = a.high;
          told = same-limit;
          limit = λ _. same-limit;
          apart = sym z;
          large = s.large ∙ rw (measured-large, z, ← same-limit);
          longest = s.longest ∙ rw (measured-longest, z, ← same-limit);
        }

    pub sized_filed : le p t.large_pct ≡ false → Sized n m t (record { limits = e.limits; limit = limit; apart = None; longest = e.largest })
    sized_filed h =
        let z : (measure n m t).apart ≡ false = sym same_part ∙ h in
        record {
          low = a.low;
          high = a.high;
          told = same-limit;
          limit = λ f. absurd (false≢true f);
          apart = sym z;
          large = rw (measured-large, z);
          longest = a.largest ∙ rw (measured-longest, z);
        }

-- how many large cells there are at most
pub few-numbered : (p : Box → Bool) (i : ℕ) (bs : List Box) → length (numbered p i bs) ≤ length bs
unfolding numbered
few-numbered p i [] = omega arith
few-numbered p i (b ∷ bs) = by_test (p b) (λ e. rw e (omega (arith, few-numbered p (suc i) bs))) (λ e. rw e (omega (arith, few-numbered p (suc i) bs)))
