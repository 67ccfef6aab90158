-- The ids of the rows that count: which they are, their order and their number.
use Prim.Native.Nat.{ℕ, ◌≤◌}
use native.Mathlib.Omega.{arith}
use mathlib.Core.Path.{◌≡◌, refl, sym, ◌∙◌, ap}
use mathlib.Core.Bool.{Bool, true, false, ◌||◌, or_self_left}
use mathlib.Core.List.{List, [], ◌∷◌, map}
use lib.Dec.{ltb, eqb}
use lib.ListN.{length, length-map}
use borrow.Author.Tests.{eqb-true}
use Rattle.basics.proofs.Bools.{by_test, clash}
use Rattle.basics.specs.Lists.{keep, has, enter}
use Rattle.basics.proofs.Lists.{length-keep, keep-keep}
use Rattle.table.specs.declared.Row.{Row}
use Rattle.table.specs.Rows.{id_in, own}
use Rattle.table.proofs.Ids.{has-own}
use Rattle.sorting.specs.Ascent.{ascending}
use Rattle.sorting.specs.Sorted.{distinct}
use Rattle.sorting.proofs.Ascent.{distinct-ascending, distinct-length}
use Rattle.listing.specs.Listing.{ids_of, occupied}

or_left_comm : (a b c : Bool) → (a || (b || c)) ≡ (b || (a || c))
or_left_comm true true c = refl
or_left_comm true false c = refl
or_left_comm false b c = refl

has-enter : (i j : ℕ) (js : List ℕ) → has i (enter j js) ≡ (eqb j i || has i js)
unfolding has enter
has-enter i j [] = refl
has-enter i j (k ∷ ks) =
    by_test (ltb j k) (λ e. rw e)
    (λ e.
    by_test (eqb k j) (λ f. rw (e, f) (sym (ap (λ (n : ℕ). eqb n i || (eqb k i || has i ks)) (sym (eqb-true k j f)) ∙ or_self_left (eqb k i) (has i ks))))
    (λ f. rw (e, f, has-enter i j ks) (or_left_comm (eqb k i) (eqb j i) (has i ks))))

-- one of the rows is the id's
abbrev pub holds : ℕ → List Row → Bool
holds i rows = has i (map id_in rows)

has-distinct : (i : ℕ) (xs : List ℕ) → has i (distinct xs) ≡ has i xs
unfolding has distinct
has-distinct i [] = refl
has-distinct i (x ∷ xs) = has-enter i x (distinct xs) ∙ ap (λ (b : Bool). eqb x i || b) (has-distinct i xs)

-- an id is listed exactly if one of the rows that count is its own
pub has-ids : (i : ℕ) (p : Row → Bool) (rows : List Row) → has i (ids_of p rows) ≡ holds i (keep p rows)
unfolding ids_of
has-ids i p rows = has-distinct i (map id_in (keep p rows))

-- and so among its own rows
pub holds-own : (i : ℕ) (p : Row → Bool) (rows : List Row) → holds i (keep p rows) ≡ holds i (keep p (own i rows))
unfolding own
holds-own i p rows = has-own i (keep p rows) ∙ ap (holds i) (keep-keep (λ (r : Row). eqb (id_in r) i) p rows)

-- no id is there where there is no row, and where an id has a row, there is one
pub none_there : (i : ℕ) (p : Row → Bool) (rows : List Row) → occupied rows ≡ false → holds i (keep p rows) ≡ false
unfolding has keep occupied
none_there i p [] e = refl
none_there i p (r ∷ rows) e = clash refl e

pub occupied-own : (i : ℕ) (rows : List Row) → occupied (own i rows) ≡ true → occupied rows ≡ true
unfolding occupied own keep
occupied-own i [] e = e
occupied-own i (r ∷ rows) e = refl

-- they ascend strictly, and are at most as many as the rows
pub ids-ascend : (p : Row → Bool) (rows : List Row) → ascending (ids_of p rows) ≡ true
unfolding ids_of
ids-ascend p rows = distinct-ascending (map id_in (keep p rows))

pub ids-no_more : (p : Row → Bool) (rows : List Row) → length (ids_of p rows) ≤ length rows
unfolding ids_of
ids-no_more p rows = omega (arith, distinct-length (map id_in (keep p rows)), length-map (keep p rows) id_in, length-keep p rows)
