-- What a striking answers and leaves: a law for each way out of the code.
-- Assumes nothing.
use Prim.Native.Nat.{ℕ, ◌-◌, ◌≤◌, ◌<◌}
use native.Mathlib.Omega.{arith}
use mathlib.Core.Path.{◌≡◌, refl, ap, ◌∙◌}
use mathlib.Core.Bool.{true, false}
use mathlib.Core.Option.{none, some}
use mathlib.Core.List.{List, [], ◌∷◌, map}
use lib.Dec.{eqb}
use lib.ListN.{length, take}
use Rattle.basics.proofs.Bools.{by_test}
use Rattle.basics.specs.Lists.{has}
use Rattle.basics.specs.Refusals.{fault, refused, success}
use Rattle.basics.proofs.Refusals.{fault_stop, fault-right}
use Rattle.grid_search.specs.declared.GridSearch.{GridSearch}
use Rattle.table.specs.Rows.{id_in, own, without}
use Rattle.basics.specs.Lists.{leading}
use Rattle.strike.specs.Posts.{Leaves, Strikes}
use Rattle.table.specs.Library.{Library, table, blank}
use Rattle.table.specs.Posts.{Room}
use Rattle.table.proofs.Ids.{length_parts}
use Rattle.table.proofs.Libraries.{length-table, table-ids, room-used, write-used}
use Rattle.rows.specs.Damage.{library_tests}
use Rattle.rows.specs.Turn.{settle, Gives}
use Rattle.rows.proofs.Check.{whole}
use Rattle.strike.specs.Strike.{id_tests, strike_tests, striking}

-- ---- the first row of an id tells whether it has one

leading-has : (v : ℕ) (s : List ℕ) → (leading v s < length s → has v s ≡ true) × (leading v s ≡ length s → has v s ≡ false)
unfolding leading has
leading-has v [] = ((λ h. absurd (omega arith)), (λ h. refl))
leading-has v (x ∷ s) =
    let ih = leading-has v s in
    by_test (eqb x v) (λ e. rw e ((λ h. refl), (λ h. absurd (omega arith)))) (λ e. rw e ((λ h. ih.0 (omega arith)), (λ h. ih.1 (omega arith))))

module _ (s : GridSearch) (l : Library) (i : ℕ) where
  -- 24 or 13
  pub refused-first : {n : ℕ} → fault (library_tests s l) ≡ some n → Gives (striking s l i) (refused n) l
  unfolding striking settle strike_tests
  refused-first {n} e = rw (fault_stop (library_tests s l) (id_tests i (table l)) n e) (record { answers = refl; library-is = refl })

  module _ (passes : fault (library_tests s l) ≡ none) where
    pub room : Room l l.used
    room = room-used l (whole s l passes).layout

    row_tests_lem : fault (strike_tests s l i) ≡ fault (id_tests i (table l))
    unfolding strike_tests
    row_tests_lem = fault-right (library_tests s l) (id_tests i (table l)) passes

    -- 26
    pub refused_none : leading i (take l.used l.ids) ≡ length (take l.used l.ids) → Gives (striking s l i) (refused 26) l
    unfolding striking settle id_tests fault
    refused_none h =
        let e : has i (map id_in (table l)) ≡ false = ap (has i) (table-ids l room.1.0) ∙ (leading-has i (take l.used l.ids)).1 h in
        let d : fault (strike_tests s l i) ≡ some 26 = row_tests_lem ∙ rw e in
        rw d (record { answers = refl; library-is = refl })

    module _ {first : ℕ} (f : leading i (take l.used l.ids) ≡ first) where
      pub strikes : Strikes i first l
      strikes = record { room = room; first = omega (arith, f) }

      module _ {after : Library} (d : Leaves (without i) l after) where
        left_is : after.used ≡ length (without i (table l))
        left_is = ap (λ (m : Library). m.used) d ∙ write-used (without i (table l)) (blank l)

        pub left_most : after.used ≤ l.used
        left_most = omega (arith, left_is, length_parts i (table l), length-table l)

        removed_is : l.used - after.used ≡ length (own i (table l))
        removed_is = omega (arith, left_is, length_parts i (table l), length-table l)

        -- how many went, and the library that is left
        pub accepted : first < length (take l.used l.ids) → Gives (striking s l i) (success (l.used - after.used)) after
        unfolding striking settle id_tests fault
        accepted h =
            let some_row : leading i (take l.used l.ids) < length (take l.used l.ids) = omega (arith, f) in
            let e : has i (map id_in (table l)) ≡ true = ap (has i) (table-ids l room.1.0) ∙ (leading-has i (take l.used l.ids)).0 some_row in
            let g : fault (strike_tests s l i) ≡ none = row_tests_lem ∙ rw e in
            rw g (record { answers = ap success removed_is; library-is = d })
