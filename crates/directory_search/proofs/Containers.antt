-- The rows of a container, by how many rows have a lower key and how many have its key: they end where these two together say, and up to there they
-- are all that a search in the container looks at.
-- Assumes nothing.
use Prim.Native.Nat.{ℕ, zero, suc, ◌+◌, ◌≤◌, ◌<◌}
use native.Mathlib.Omega.{arith}
use mathlib.Core.Path.{◌≡◌, refl, sym, ap, ◌∙◌}
use mathlib.Core.Logic.{inl, inr, ◌⊎◌}
use mathlib.Core.Bool.{true, false}
use mathlib.Core.List.{List, [], ◌∷◌, map}
use lib.Dec.{eqb}
use lib.ListN.{length, take}
use borrow.Author.Tests.{lt-ltb, le-ltb, eq-eqb, ne_eqb}
use Rattle.basics.specs.Lists.{keep, has}
use Rattle.basics.proofs.Bools.{clash, both, and_both, or_left, or_right}
use Rattle.basics.proofs.Numbers.{trichotomy}
use Rattle.table.specs.declared.Row.{Row}
use Rattle.table.specs.Rows.{Slot, slot_of, before, chain, sorted, lead, key_in}
use Rattle.table.proofs.Order.{chain-sorted}
use Rattle.table.proofs.First.{key-le}
use Rattle.directory.specs.Claims.{lower_rows, rows_within}

module _ (key : ℕ) where
  -- ---- one row more in front

  module _ (r : Row) (rows : List Row) where
    lower_more : key_in r < key → lower_rows key (r ∷ rows) ≡ suc (lower_rows key rows)
    unfolding lower_rows keep
    lower_more h = rw (lt-ltb (key_in r) key h)

    lower-same : key ≤ key_in r → lower_rows key (r ∷ rows) ≡ lower_rows key rows
    unfolding lower_rows keep
    lower-same h = rw (le-ltb (key_in r) key h)

    within_more : key_in r ≡ key → rows_within key (r ∷ rows) ≡ suc (rows_within key rows)
    unfolding rows_within keep
    within_more h = rw (eq-eqb (key_in r) key h)

    within_same : (key_in r ≡ key → ⊥) → rows_within key (r ∷ rows) ≡ rows_within key rows
    unfolding rows_within keep
    within_same h = rw (ne_eqb (key_in r) key h)

  -- ---- rows behind a slot whose key is no lower, or higher

  none-lower : (p : Slot) (rows : List Row) → key ≤ p.key → chain p (map slot_of rows) ≡ true → lower_rows key rows ≡ 0
  unfolding chain
  none-lower p [] h c = unfold lower_rows keep in refl
  none-lower p (r ∷ rows) h c =
      let d = and_both (before p (slot_of r)) (chain (slot_of r) (map slot_of rows)) c in
      let k : key ≤ key_in r = omega (arith, key-le p (slot_of r) d.0) in
      lower-same r rows k ∙ none-lower (slot_of r) rows k d.1

  none_within : (p : Slot) (rows : List Row) → key < p.key → chain p (map slot_of rows) ≡ true → rows_within key rows ≡ 0
  unfolding chain
  none_within p [] h c = unfold rows_within keep in refl
  none_within p (r ∷ rows) h c =
      let d = and_both (before p (slot_of r)) (chain (slot_of r) (map slot_of rows)) c in
      let k : key < key_in r = omega (arith, key-le p (slot_of r) d.0) in
      within_same r rows (λ e. omega arith) ∙ none_within (slot_of r) rows k d.1

  -- ---- the end of the container's rows

  abbrev pub ends : List Row → ℕ
  ends rows = lower_rows key rows + rows_within key rows

  -- by the first row's key
  module _ (r : Row) (rows : List Row) where
    ends-lower : key_in r < key → ends (r ∷ rows) ≡ suc (ends rows)
    ends-lower h = omega (arith, lower_more r rows h, within_same r rows (λ e. omega arith))

    ends_same : key_in r ≡ key → ends (r ∷ rows) ≡ suc (ends rows)
    ends_same h = omega (arith, lower-same r rows (omega arith), within_more r rows h)

    ends_above : key < key_in r → sorted (map slot_of (r ∷ rows)) ≡ true → ends (r ∷ rows) ≡ 0
    unfolding sorted
    ends_above h o =
        omega (arith, lower-same r rows (omega arith), within_same r rows (λ e. omega arith), none-lower (slot_of r) rows (omega arith) o, none_within (slot_of r) rows h o)

  pub ends-most : (rows : List Row) → sorted (map slot_of rows) ≡ true → ends rows ≤ length rows
  unfolding sorted
  ends-most [] o = unfold lower_rows rows_within keep in omega arith
  ends-most (r ∷ rows) o = go (ends-most rows (chain-sorted (slot_of r) (map slot_of rows) o)) (trichotomy (key_in r) key)
    where
      go : ends rows ≤ length rows → (key_in r < key) ⊎ ((key_in r ≡ key) ⊎ (key < key_in r)) → ends (r ∷ rows) ≤ length (r ∷ rows)
      go ih (inl h) = omega (arith, ends-lower r rows h)
      go ih (inr (inl h)) = omega (arith, ends_same r rows h)
      go ih (inr (inr h)) = omega (arith, ends_above r rows h o)

  -- those before it that are lower are as many as the rows that are
  pub leads-upto : (rows : List Row) → sorted (map slot_of rows) ≡ true → lead key (map key_in (take (ends rows) rows)) ≡ lower_rows key rows
  unfolding sorted lead
  leads-upto [] o = unfold lower_rows rows_within keep in refl
  leads-upto (r ∷ rows) o = go (leads-upto rows (chain-sorted (slot_of r) (map slot_of rows) o)) (trichotomy (key_in r) key)
    where
      at : {m n : ℕ} → m ≡ n → lead key (map key_in (take n (r ∷ rows))) ≡ lower_rows key (r ∷ rows) → lead key (map key_in (take m (r ∷ rows))) ≡ lower_rows key (r ∷ rows)
      at e g = rw e g

      first : key ≤ key_in r → 0 ≡ lower_rows key (r ∷ rows)
      first h = sym (lower-same r rows h ∙ none-lower (slot_of r) rows h o)

      go : lead key (map key_in (take (ends rows) rows)) ≡ lower_rows key rows → (key_in r < key) ⊎ ((key_in r ≡ key) ⊎ (key < key_in r))
          → lead key (map key_in (take (ends (r ∷ rows)) (r ∷ rows))) ≡ lower_rows key (r ∷ rows)
      go ih (inl h) = at (ends-lower r rows h) (rw (lt-ltb (key_in r) key h) (ap suc ih ∙ sym (lower_more r rows h)))
      go ih (inr (inl h)) = let k : key ≤ key_in r = omega arith in at (ends_same r rows h) (rw (le-ltb (key_in r) key k) (first k))
      go ih (inr (inr h)) = at (ends_above r rows h o) (first (omega arith))

  -- and those of the key are all of its rows
  abbrev pub theirs : List Row → List Row
  theirs rows = keep (λ (t : Row). eqb (key_in t) key) rows

  pub no_theirs : (rows : List Row) → rows_within key rows ≡ 0 → theirs rows ≡ []
  unfolding rows_within
  no_theirs rows e = no_length (theirs rows) e
    where
      no_length : (ts : List Row) → length ts ≡ 0 → ts ≡ []
      no_length [] e = refl
      no_length (t ∷ ts) e = absurd (omega arith)

  pub theirs_upto : (rows : List Row) → sorted (map slot_of rows) ≡ true → theirs (take (ends rows) rows) ≡ theirs rows
  unfolding sorted keep
  theirs_upto [] o = unfold lower_rows rows_within in refl
  theirs_upto (r ∷ rows) o = go (theirs_upto rows (chain-sorted (slot_of r) (map slot_of rows) o)) (trichotomy (key_in r) key)
    where
      at : {m n : ℕ} → m ≡ n → theirs (take n (r ∷ rows)) ≡ theirs (r ∷ rows) → theirs (take m (r ∷ rows)) ≡ theirs (r ∷ rows)
      at e g = rw e g

      go : theirs (take (ends rows) rows) ≡ theirs rows → (key_in r < key) ⊎ ((key_in r ≡ key) ⊎ (key < key_in r)) → theirs (take (ends (r ∷ rows)) (r ∷ rows)) ≡ theirs (r ∷ rows)
      go ih (inl h) = at (ends-lower r rows h) (rw (ne_eqb (key_in r) key (λ e. omega arith)) ih)
      go ih (inr (inl h)) = at (ends_same r rows h) (rw (eq-eqb (key_in r) key h) (ap (λ (ts : List Row). r ∷ ts) ih))
      go ih (inr (inr h)) = at (ends_above r rows h o) (sym (no_theirs (r ∷ rows) (within_same r rows (λ e. omega arith) ∙ none_within (slot_of r) rows h o)))

  -- a key that no row has
  pub none_has : (rows : List Row) → has key (map key_in rows) ≡ false → rows_within key rows ≡ 0
  unfolding has
  none_has [] e = unfold rows_within keep in refl
  none_has (r ∷ rows) e =
      let f : eqb (key_in r) key ≡ false = or_left (eqb (key_in r) key) (has key (map key_in rows)) e in
      within_same r rows (λ q. clash (eq-eqb (key_in r) key q) f) ∙ none_has rows (or_right (eqb (key_in r) key) (has key (map key_in rows)) e)

-- rows in order, up to any of them, are in order
chain-upto : (n : ℕ) (p : Slot) (rows : List Row) → chain p (map slot_of rows) ≡ true → chain p (map slot_of (take n rows)) ≡ true
unfolding chain
chain-upto zero p rows c = refl
chain-upto (suc n) p [] c = refl
chain-upto (suc n) p (r ∷ rows) c =
    let d = and_both (before p (slot_of r)) (chain (slot_of r) (map slot_of rows)) c in
    both d.0 (chain-upto n (slot_of r) rows d.1)

pub sorted-upto : (n : ℕ) (rows : List Row) → sorted (map slot_of rows) ≡ true → sorted (map slot_of (take n rows)) ≡ true
unfolding sorted
sorted-upto zero rows o = refl
sorted-upto (suc n) [] o = refl
sorted-upto (suc n) (r ∷ rows) o = chain-upto n (slot_of r) rows o
