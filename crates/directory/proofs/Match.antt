-- The walk over the places that tells whether they are the directory of the rows: a turn that stops it, one that goes on, and its end.
-- Assumes nothing.
use Prim.Native.Nat.{ℕ, suc, ◌+◌, ◌≤◌, ◌<◌}
use native.Mathlib.Numerals.{add-one}
use native.Mathlib.Omega.{arith}
use mathlib.Core.Path.{◌≡◌, refl, sym, ap, ap₂, ◌∙◌}
use mathlib.Core.Bool.{true, false}
use mathlib.Core.List.{List, [], ◌∷◌}
use lib.Dec.{eqb}
use lib.ListN.{length, get_or, drop, drop_of_length-le}
use borrow.Author.Tests.{eqb-true, eqb-false}
use Rattle.basics.proofs.Bools.{by_test}
use Rattle.basics.proofs.Lists.{length-tab, drop-tab}
use Rattle.directory.specs.declared.Entry.{Entry}
use Rattle.directory.specs.Entries.{entry, entries_from, same_entries}
use Rattle.directory.specs.Directory.{Directory, entry_at, entries}
use Rattle.directory.specs.Posts.{leads}
use Rattle.directory.proofs.Runs.{front, size-most, none-left, leads_what}

same_not : (e : Entry) (es fs : List Entry) → leads e fs ≡ false → same_entries (e ∷ es) fs ≡ false
unfolding leads same_entries
same_not e es [] h = refl
same_not e es (f ∷ fs) h = rw h

same_next : (e f : Entry) (es fs : List Entry) → leads e (f ∷ fs) ≡ true → same_entries (e ∷ es) (f ∷ fs) ≡ same_entries es fs
unfolding leads same_entries
same_next e f es fs h = rw h

module _ (keys : List ℕ) (d : Directory) where
  -- the entries of the rows from `next` on
  abbrev left : ℕ → List Entry
  left next = entries_from next (drop next keys)

  -- p places were looked at, and their rows end before `next`
  pub record Matching (next p : ℕ) : Type 0 where
    pub upto : next ≤ length keys
    pub places : p ≤ d.used
    pub same_left : same_entries (entries d) (entries_from 0 keys) ≡ same_entries (drop p (entries d)) (left next)

  pub match_start : Matching 0 0
  match_start = record { upto = omega arith; places = omega arith; same_left = refl }

  module _ {next p : ℕ} (w : Matching next p) where
    module _ (h : p < d.used) where
      this_place : drop p (entries d) ≡ entry_at d p ∷ drop (suc p) (entries d)
      unfolding entries
      this_place = drop-tab d.used (entry_at d) p h

      pub match_stop : leads (entry_at d p) (left next) ≡ false → same_entries (entries d) (entries_from 0 keys) ≡ false
      match_stop e = w.same_left ∙ ap (λ (es : List Entry). same_entries es (left next)) this_place ∙ same_not (entry_at d p) (drop (suc p) (entries d)) (left next) e

      module _ (e : leads (entry_at d p) (left next) ≡ true) where
        pub match_within : next + get_or d.counts p 0 ≤ length keys
        match_within =
            let l = leads_what keys next (entry_at d p) e in
            omega (arith, l.count-is, size-most keys next l.some)

        pub match_next : Matching (next + get_or d.counts p 0) (p + 1)
        match_next =
            let l = leads_what keys next (entry_at d p) e in
            let f = front keys next l.some in
            record {
              upto = match_within;
              places = omega arith;
              same_left =
                  w.same_left
                  ∙ ap₂ same_entries this_place f
                  ∙ same_next (entry_at d p) _ (drop (suc p) (entries d)) _ (sym (ap (leads (entry_at d p)) f) ∙ e)
                  ∙ ap₂ (λ (i n : ℕ). same_entries (drop i (entries d)) (left (next + n))) (sym (add-one p)) (sym l.count-is);
            }

    pub match_end : d.used ≤ p → same_entries (entries d) (entries_from 0 keys) ≡ eqb next (length keys)
    unfolding entries same_entries
    match_end h =
        w.same_left
        ∙ ap (λ (es : List Entry). same_entries es (left next)) past
        ∙ by_test (eqb next (length keys)) (λ e. rw e (all_told (eqb-true next (length keys) e))) (λ e. rw e (some_left (eqb-false next (length keys) e)))
      where
        past : drop p (entries d) ≡ []
        past = let m : length (entries d) ≤ p = omega (arith, length-tab d.used (entry_at d)) in drop_of_length-le (entries d) m

        all_told : next ≡ length keys → same_entries [] (left next) ≡ true
        all_told e = ap (same_entries []) (none-left keys next (entry 0 0 0) (omega arith))

        some_left : (next ≡ length keys → ⊥) → same_entries [] (left next) ≡ false
        some_left n = ap (same_entries []) (front keys next (omega (arith, w.upto)))
