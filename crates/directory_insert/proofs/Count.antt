-- How many places a mark's rows will take, found before anything is written.
-- Assumes nothing.
use Prim.Native.Nat.{ℕ, ◌+◌, ◌≤◌, ◌<◌}
use native.Mathlib.Nat.{le_of_suc-le-suc, not-suc-le-zero}
use native.Mathlib.Numerals.{add-one}
use mathlib.Core.Path.{◌≡◌, refl, sym, ap, ◌∙◌}
use mathlib.Core.Bool.{true, false, ◌||◌, cond, or-true, or-false}
use mathlib.Core.List.{List, [], ◌∷◌, map}
use lib.Dec.{ltb, eqb}
use lib.ListN.{length, get_or, take, length-map}
use lib.Seq.{take_all}
use Rattle.std.specs.Prelude.{Result, Ok, Err, is_ok}
use Rattle.basics.proofs.Bools.{by_test}
use Rattle.basics.specs.Lists.{has}
use Rattle.geometry.specs.declared.Position.{Position}
use Rattle.table.specs.declared.Row.{Row}
use Rattle.table.specs.Rows.{slot_of, sorted, lead, key_in, row_in, put_row, put_in}
use Rattle.table.proofs.All.{all-next, sorted_all}
use Rattle.directory.specs.Entries.{key_of, directory_of}
use Rattle.directory_insert.specs.Posts.{FindsPlace, found, PlacesAfter}
use Rattle.directory_insert.proofs.Entered.{has-put, found-directory, length-directory}

-- ---- whether a key has a place, by the first key that is not lower

found_there : (key : ℕ) (ks : List ℕ) → lead key ks < length ks → found key ks ≡ eqb (get_or ks (lead key ks) 0) key
unfolding found lead
found_there key [] h = absurd (not-suc-le-zero h)
found_there key (k ∷ ks) h = by_test (ltb k key) (λ e. rw e (found_there key ks (le_of_suc-le-suc (rw e at h)))) (λ e. rw e)

found-past : (key : ℕ) (ks : List ℕ) → length ks ≤ lead key ks → found key ks ≡ false
unfolding found lead
found-past key [] h = refl
found-past key (k ∷ ks) h = by_test (ltb k key) (λ e. rw e (found-past key ks (le_of_suc-le-suc (rw e at h)))) (λ e. absurd (not-suc-le-zero (rw e at h)))

module _ (keys : List ℕ) (key at : ℕ) (e : at ≡ lead key keys) where
  pub key-there : at < length keys → found key keys ≡ eqb (get_or keys at 0) key
  key-there h = rw e (found_there key keys (rw e at h))

  pub key-past : length keys ≤ at → found key keys ≡ false
  key-past h = found-past key keys (rw e at h)

-- whether there is a place, as the look-up tells it
pub finds-found : (key : ℕ) (keys : List ℕ) (r : Result ℕ ℕ) → FindsPlace key keys r → found key keys ≡ is_ok r
finds-found key keys (Ok at) f = f.1
finds-found key keys (Err at) f = f.1

-- ---- a mark in several containers

has_all : (key id : ℕ) (at : Position) (ks : List ℕ) (rows : List Row) → has key (map key_in (put_in id at ks rows)) ≡ (has key ks || has key (map key_in rows))
unfolding put_in has
has_all key id at [] rows = refl
has_all key id at (k ∷ ks) rows =
    has_all key id at ks (put_row (row_in id at k) rows)
    ∙ by_test (has key ks) (λ e. rw (e, or-true)) (λ e. rw (e, or-false, has-put key (row_in id at k) rows))

-- one more container: one more place, unless it came before in the list or has one already
places-next : (id : ℕ) (at : Position) (ks : List ℕ) (i : ℕ) (rows : List Row) → sorted (map slot_of rows) ≡ true → i < length ks
    → length (directory_of (put_in id at (take (i + 1) ks) rows))
    ≡ cond (has (get_or ks i 0) (take i ks) || found (get_or ks i 0) (map key_of (directory_of rows)))
    (length (directory_of (put_in id at (take i ks) rows))) (length (directory_of (put_in id at (take i ks) rows)) + 1)
places-next id at ks i rows o h =
    ap (λ (r : List Row). length (directory_of r)) (all-next id at ks i rows h)
    ∙ length-directory (row_in id at (get_or ks i 0)) (put_in id at (take i ks) rows) (sorted_all id at (take i ks) rows o)
    ∙ rw (has_all, found-directory (get_or ks i 0) rows o, add-one) refl

module _ (keys into : List ℕ) where
  pub places-start : (n : ℕ) → length keys ≡ n → PlacesAfter keys (take 0 into) n
  unfolding put_in
  places-start n m id at rows o q = sym m ∙ ap length (sym q) ∙ length-map (directory_of rows) key_of

  module _ (i n : ℕ) (c : PlacesAfter keys (take i into) n) where
    pub places_more : (m : ℕ) → i < length into → m ≡ cond (has (get_or into i 0) (take i into) || found (get_or into i 0) keys) n (n + 1) → PlacesAfter keys (take (i + 1) into) m
    places_more m h e id at rows o q = e ∙ sym (places-next id at into i rows o h ∙ rw (← c id at rows o q, q))

    pub places_end : length into ≤ i → PlacesAfter keys into n
    places_end h = rw (take_all i into h) at c
