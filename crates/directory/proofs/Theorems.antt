-- A proof of each claim of specs/Claims.antt.
-- Assumes nothing.
use Prim.Native.Nat.{ℕ, ◌≤◌, ◌<◌}
use native.Mathlib.Omega.{arith}
use mathlib.Core.Path.{◌≡◌, refl, sym, ap, ◌∙◌}
use mathlib.Core.Bool.{true, false, not}
use mathlib.Core.Option.{Option, none, some}
use mathlib.Core.List.{List, map}
use lib.ListN.{length, get_or, length-map}
use borrow.Author.Tests.{ltb-false}
use Rattle.basics.specs.Lists.{any, has}
use Rattle.basics.specs.Refusals.{fault, is_none, Answer, refused, success}
use Rattle.basics.proofs.Bools.{by_test, clash, or_left}
use Rattle.grid_search.specs.declared.GridSearch.{GridSearch}
use Rattle.table.specs.declared.Row.{Row}
use Rattle.table.specs.Rows.{key_in}
use Rattle.table.specs.Library.{Library, table, space, too_long}
use Rattle.table.proofs.Libraries.{length-table}
use Rattle.rows.proofs.Check.{not-long, whole}
use Rattle.directory.specs.declared.Entry.{Entry}
use Rattle.directory.specs.Entries.{key_of, directory_of, Looked, look_up}
use Rattle.directory.specs.Directory.{Directory, entries}
use Rattle.directory.specs.Calls.{directory_tests, asked_unless, asking, looking_up}
use Rattle.directory.specs.Claims.{Meant, Finding, LookUps, LookedRight, LookUpCalls}
use Rattle.directory.proofs.Entries.{directory-few, entries_have}
use Rattle.directory.proofs.Passing.{entries-count, Passing, passing, keys-room}
use Rattle.directory.proofs.Meaning.{keys-ascend, all_right, all-keys, ascend_at}
use Rattle.directory.proofs.Looks.{few-reads, found-has, is_found, has-index, index-has}

-- the keys of rows are those of their directory
pub directory-has : (key : ℕ) (rows : List Row) → has key (map key_of (directory_of rows)) ≡ has key (map key_in rows)
unfolding directory_of
directory-has key rows = entries_have key 0 (map key_in rows)

-- ---- 1.

pub meant : Meant
meant rows o = record {
  ascend = keys-ascend rows o;
  all_right = all_right rows o;
  none_missing = all-keys (λ (k : ℕ). has k (map key_of (directory_of rows))) rows (λ k e. directory-has k rows ∙ e);
}

-- ---- 2.

none_found : (o : Option ℕ) → ((p : ℕ) → o ≡ some p → ⊥) → is_none o ≡ true
unfolding is_none
none_found none h = refl
none_found (some p) h = absurd (h p refl)

pub look_ups : LookUps
unfolding look_up
look_ups key rows o = record {
  at_key = λ p e. let f = found-has count key keys 0 count p e in (omega (arith, f.most), f.key-is);
  exactly = by_test (has key keys) (λ h. there h ∙ sym (ap not (sym (directory-has key rows) ∙ h))) (λ h. nowhere h ∙ sym (ap not (sym (directory-has key rows) ∙ h)));
  few-reads = λ h. few-reads 17 count key keys 0 count (omega (arith, directory-few rows));
}
  where
    count : ℕ
    count = length (directory_of rows)

    keys : List ℕ
    keys = map key_of (directory_of rows)

    there : has key keys ≡ true → is_none (look_up key (directory_of rows)).place ≡ false
    there h =
        let i = has-index key keys h in
        is_found count key keys 0 count (omega arith) (ascend_at keys (keys-ascend rows o)) (omega (arith, length-map (directory_of rows) key_of)) i.at (omega arith)
        (omega (arith, i.within, length-map (directory_of rows) key_of)) i.key-is

    nowhere : has key keys ≡ false → is_none (look_up key (directory_of rows)).place ≡ true
    nowhere h =
        none_found _
        (λ p e. let f = found-has count key keys 0 count p e in
        let w : p < length keys = omega (arith, f.most, length-map (directory_of rows) key_of) in
        clash (sym (ap (λ (k : ℕ). has k keys) f.key-is) ∙ index-has keys p w) h)

-- the call that is not refused looks the key up in the directory of the rows
module _ (s : GridSearch) (l : Library) (d : Directory) (key : ℕ) (k : Looked) (e : looking_up s l d key ≡ success k) where
  not-refused : (fault (directory_tests s l d) ≡ none) × (look_up key (entries d) ≡ k)
  unfolding looking_up asking asked_unless
  not-refused = go (fault (directory_tests s l d)) refl
    where
      go : (o : Option ℕ) → fault (directory_tests s l d) ≡ o → (fault (directory_tests s l d) ≡ none) × (look_up key (entries d) ≡ k)
      go none f = let q : ◌≡◌ {A = Answer Looked} (success (look_up key (entries d))) (success k) = sym (ap (λ (o : Option ℕ). asked_unless o (success (look_up key (entries d)))) f) ∙ e in (f, cc)
      go (some n) f =
          let q : ◌≡◌ {A = Answer Looked} (refused n) (success k) = sym (ap (λ (o : Option ℕ). asked_unless o (success (look_up key (entries d)))) f) ∙ e in
          let z : ◌≡◌ {A = ℕ} 0 1 = cc in absurd (omega arith)

  p : Passing s l d
  p = passing s l d not-refused.0

  of_rows : Finding key (table l)
  of_rows = look_ups key (table l) (whole s l p.library-passes).order

  looked : look_up key (directory_of (table l)) ≡ k
  looked = ap (look_up key) (sym p.entries-are) ∙ not-refused.1

  few-rows : length (table l) ≤ 65536
  unfolding too_long space any
  few-rows =
      let a : length l.keys ≤ 65536 = ltb-false 65536 (length l.keys) (or_left _ _ (not-long s l p.library-passes)) in
      omega (arith, length-table l, keys-room s l p.library-passes)

  looked_right : LookedRight l d key k
  looked_right = record {
    at_key = λ q f.
        let g = of_rows.at_key q (ap (λ (x : Looked). x.place) looked ∙ f) in
        let n : length (directory_of (table l)) ≡ d.used = sym (ap length p.entries-are) ∙ entries-count d in
        (omega (arith, g.0), ap (λ (es : List Entry). get_or (map key_of es) q 0) p.entries-are ∙ g.1);
    exactly = ap (λ (x : Looked). is_none x.place) (sym looked) ∙ of_rows.exactly;
    few-reads = omega (arith, of_rows.few-reads few-rows, ap (λ (x : Looked). x.reads) looked);
  }

pub look_up_calls : LookUpCalls
look_up_calls = looked_right
