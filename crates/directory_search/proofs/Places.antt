-- A place of a matching directory: what a look-up finds there of a container's rows.
-- Assumes nothing.
use Prim.Native.Nat.{ℕ, ◌<◌}
use mathlib.Core.Path.{◌≡◌, sym, ap, ◌∙◌, subst}
use mathlib.Core.Bool.{true, not, ◌&&◌}
use mathlib.Core.Option.{none, some}
use mathlib.Core.List.{List, map}
use lib.Dec.{ltb, eqb}
use lib.ListN.{length, get_or}
use borrow.Author.Tests.{eqb-true, not-true}
use Rattle.basics.specs.Lists.{has}
use Rattle.basics.specs.Refusals.{is_none}
use Rattle.basics.proofs.Bools.{and_both}
use Rattle.basics.proofs.Lists.{get_or-tab, map-tab, all_at}
use Rattle.table.specs.declared.Row.{Row}
use Rattle.table.specs.Rows.{key_in}
use Rattle.directory.specs.declared.Entry.{Entry}
use Rattle.directory.specs.Entries.{entry, key_of, directory_of, look_up}
use Rattle.directory.specs.Directory.{Directory, entry_at, entries}
use Rattle.directory.specs.Claims.{lower_rows, rows_within, right, Listing, Finding}
use Rattle.directory.proofs.Passing.{entries-count}
use Rattle.directory_search.proofs.Containers.{none_has}

-- of a directory that matches
module _ (d : Directory) (rows : List Row) (m : entries d ≡ directory_of rows) (key : ℕ) (f : Finding key rows) where
  pub found_none : (look_up key (entries d)).place ≡ none → rows_within key rows ≡ 0
  unfolding is_none
  found_none e =
      let g : not (has key (map key_in rows)) ≡ true = sym f.exactly ∙ ap is_none (ap (λ (es : List Entry). (look_up key es).place) (sym m) ∙ e) in
      none_has key rows (not-true _ g)

  module _ (p : ℕ) (e : (look_up key (entries d)).place ≡ some p) where
    there : (p < length (directory_of rows)) × (get_or (map key_of (directory_of rows)) p 0 ≡ key)
    there = f.at_key p (ap (λ (es : List Entry). (look_up key es).place) (sym m) ∙ e)

    pub found-used : p < d.used
    found-used = rw (← entries-count d, m) there.0

    -- the entry there
    pub found-is : get_or (entries d) p (entry 0 0 0) ≡ entry_at d p
    unfolding entries
    found-is = get_or-tab d.used (entry_at d) p (entry 0 0 0) found-used

    found-key : get_or d.keys p 0 ≡ key
    unfolding entries
    found-key =
        sym (ap (λ (ks : List ℕ). get_or ks p 0) (map-tab key_of d.used (entry_at d)) ∙ get_or-tab d.used (λ i. get_or d.keys i 0) p 0 found-used)
        ∙ ap (λ (es : List Entry). get_or (map key_of es) p 0) m ∙ there.1

    module _ (g : Listing rows (directory_of rows)) where
      right_there : right rows (entry_at d p) ≡ true
      right_there = subst (λ (t : Entry). right rows t ≡ true) (ap (λ (es : List Entry). get_or es p (entry 0 0 0)) (sym m) ∙ found-is)
          (all_at (right rows) (directory_of rows) p (entry 0 0 0) there.0 g.all_right)

      pub found_right : (get_or d.firsts p 0 ≡ lower_rows key rows) × (get_or d.counts p 0 ≡ rows_within key rows)
      unfolding right
      found_right =
          let k = entry_at d p in
          let a = and_both (eqb k.first (lower_rows k.key rows)) (eqb k.count (rows_within k.key rows) && ltb 0 k.count) right_there in
          let b = and_both (eqb k.count (rows_within k.key rows)) (ltb 0 k.count) a.1 in (
            eqb-true k.first (lower_rows k.key rows) a.0 ∙ ap (λ (j : ℕ). lower_rows j rows) found-key,
            eqb-true k.count (rows_within k.key rows) b.0 ∙ ap (λ (j : ℕ). rows_within j rows) found-key,
          )
