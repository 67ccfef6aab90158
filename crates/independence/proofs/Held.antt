-- A change of a library, with its directory or without one: what it answers and leaves goes by the tests of the holding, its own, and last the directory's room.
use Prim.Native.Nat.{ℕ}
use mathlib.Core.Path.{◌≡◌, refl, sym, ◌∙◌, ap, ap₂}
use mathlib.Core.Bool.{false}
use mathlib.Core.Option.{Option, none, some}
use mathlib.Core.List.{List, [], ◌∷◌, ◌++◌, append_assoc}
use Rattle.basics.specs.Refusals.{Test, refuse, fault}
use Rattle.basics.proofs.Refusals.{fault-right, fault_stop}
use Rattle.grid_search.specs.declared.GridSearch.{GridSearch}
use Rattle.table.specs.Library.{Library, table, fits}
use Rattle.rows.specs.Damage.{library_tests}
use Rattle.rows.specs.Turn.{Turn, settle}
use Rattle.directory.specs.Directory.{Directory}
use Rattle.directory.specs.Calls.{directory_tests, filing}
use Rattle.directory.proofs.Passing.{passing}
use Rattle.independence.specs.Holdings.{Holding, places_of, tests_by, holding_tests, held_by}
use Rattle.independence.proofs.Holdings.{fault_last, own_decide, settle_in, places_tests, refiled, leaving, By, Last, Filed, filed_first, filed_refused, filed_last}

module _ (s : GridSearch) (l : Library) (ts : List Test) (a : ℕ) (new : Library) where
  abbrev plain : Turn ℕ
  plain = settle (fault (library_tests s l ++ ts)) a new l

  bare-held : held_by s l none plain ≡ By l a new none (fault (tests_by s l none ++ (ts ++ places_tests none (table new))))
  unfolding held_by tests_by refiled places_tests places_of fits
  bare-held =
      go (fault (library_tests s l ++ ts)) refl
      ∙ ap (By l a new none) (sym (ap fault (sym (append_assoc (library_tests s l) ts (refuse 12 false ∷ []))) ∙ fault_last (library_tests s l ++ ts) (refuse 12 false) refl))
    where
      go : (o : Option ℕ) → fault (library_tests s l ++ ts) ≡ o → held_by s l none plain ≡ By l a new none (fault (library_tests s l ++ ts))
      go o e = ap (λ (v : Option ℕ). held_by s l none (settle v a new l)) e ∙ each o ∙ sym (ap (By l a new none) e)
        where
          each : (o : Option ℕ) → held_by s l none (settle o a new l) ≡ By l a new none o
          each none = unfold settle settle_in in refl
          each (some n) = unfold settle settle_in in refl

  module _ (d : Directory) where
    abbrev last : List Test
    last = Last l a new d

    filed_by_lem : (v : Option ℕ) → fault (directory_tests s l d) ≡ v → (o : Option ℕ) → fault ts ≡ o
        → Filed l a new d (fault (directory_tests s l d)) (fault (library_tests s l ++ ts)) ≡ By l a new (some d) (fault (directory_tests s l d ++ (ts ++ last)))
    filed_by_lem (some n) e o q =
        ap (λ (v : Option ℕ). Filed l a new d v (fault (library_tests s l ++ ts))) e ∙ filed_first l a new d n (fault (library_tests s l ++ ts))
        ∙ sym (ap (By l a new (some d)) (fault_stop (directory_tests s l d) (ts ++ last) n e))
    filed_by_lem none e o q =
        ap₂ (Filed l a new d) e (fault-right (library_tests s l) ts (passing s l d e).library-passes) ∙ go o q ∙ sym (ap (By l a new (some d)) (own_decide s l d (ts ++ last) e))
      where
        go : (o : Option ℕ) → fault ts ≡ o → Filed l a new d none (fault ts) ≡ By l a new (some d) (fault (ts ++ last))
        go none q = ap (Filed l a new d none) q ∙ filed_last l a new d ∙ sym (ap (By l a new (some d)) (fault-right ts last q))
        go (some n) q = ap (Filed l a new d none) q ∙ filed_refused l a new d n ∙ sym (ap (By l a new (some d)) (fault_stop ts last n q))

    listed-held : held_by s l (some d) plain ≡ By l a new (some d) (fault (tests_by s l (some d) ++ (ts ++ last)))
    unfolding held_by filing tests_by
    listed-held = filed_by_lem (fault (directory_tests s l d)) refl (fault ts) refl

  held_by_lem : (o : Option Directory) → held_by s l o plain ≡ By l a new o (fault (tests_by s l o ++ (ts ++ places_tests o (table new))))
  held_by_lem none = bare-held
  held_by_lem (some d) = listed-held d

-- a change, by the tests of the holding, its own, and the directory's room
pub held-is : (s : GridSearch) (h : Holding) (ts : List Test) (a : ℕ) (new : Library)
    → held_by s h.library h.directory (settle (fault (library_tests s h.library ++ ts)) a new h.library)
    ≡ settle_in (fault (holding_tests s h ++ (ts ++ places_tests h.directory (table new)))) a (leaving h new) h
unfolding holding_tests
held-is s h ts a new = held_by_lem s h.library ts a new h.directory
