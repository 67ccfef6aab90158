-- Marks one after the other, whatever a turn is and what it is taken of.
-- Assumes nothing.
use Prim.Native.Nat.{ℕ, suc, ◌+◌, ◌≤◌, ◌<◌}
use native.Mathlib.Numerals.{add-one}
use native.Mathlib.Omega.{arith}
use mathlib.Core.Path.{◌≡◌, refl, sym, ap, ◌∙◌}
use mathlib.Core.Option.{none}
use mathlib.Core.List.{List, [], ◌∷◌}
use lib.ListN.{drop, drop_of_length-le}
use Rattle.basics.specs.Lists.{tab}
use Rattle.basics.proofs.Lists.{length-tab, drop-tab}
use Rattle.basics.specs.Refusals.{Answer, refused, success, fault}
use Rattle.grid_search.specs.declared.GridSearch.{GridSearch}
use Rattle.table.specs.Library.{Library}
use Rattle.rows.specs.Damage.{library_tests}
use Rattle.rows.specs.Turn.{Turn, Gives}
use Rattle.rows.proofs.Kept.{insertion-passes}
use Rattle.records.specs.declared.Record.{Record}
use Rattle.loading.specs.Loading.{place_of, insert_one, and_then, insert_all}

-- ---- turns

then-refused : (t next : Turn ℕ) (n : ℕ) → t.answer ≡ refused n → and_then t t.answer next ≡ t
unfolding and_then
then-refused t next n e = rw e

pub then-success : (t next : Turn ℕ) (n : ℕ) → t.answer ≡ success n → and_then t t.answer next ≡ next
unfolding and_then
then-success t next n e = rw e

pub no : {A : Type 0} (n m : ℕ) → ◌≡◌ {A = Answer ℕ} (refused n) (success m) → A
no n m e = absurd (let z : ◌≡◌ {A = ℕ} 0 1 = cc in omega arith)

module _ {A : Type 0} (one : Library → A → Turn ℕ) where
  all_cons : (l : Library) (a : A) (rest : List A) → insert_all one l (a ∷ rest) ≡ and_then (one l a) (one l a).answer (insert_all one (one l a).library rest)
  unfolding insert_all
  all_cons l a rest = refl

  pub all_none : (l : Library) → insert_all one l [] ≡ record { library = l; answer = success l.used }
  unfolding insert_all
  all_none l = refl

  -- ---- where all were taken

  -- the rows in use are then as many as the answer says
  pub all-used : (l : Library) (rest : List A) (n : ℕ) → (insert_all one l rest).answer ≡ success n → (insert_all one l rest).library.used ≡ n
  unfolding insert_all and_then
  all-used l [] n e = cc
  all-used l (a ∷ rest) n e = let t = one l a in go t (insert_all one t.library rest) t.answer refl (all-used t.library rest n) e
    where
      go : (t u : Turn ℕ) (o : Answer ℕ) → t.answer ≡ o → (u.answer ≡ success n → u.library.used ≡ n) → (and_then t o u).answer ≡ success n → (and_then t o u).library.used ≡ n
      go t u (refused m) a ih f = no m n (sym a ∙ f)
      go t u (success m) a ih f = ih f

  -- a library that passes its tests passes them after each turn, and so at the end
  module _ (s : GridSearch) (sound : (l : Library) → fault (library_tests s l) ≡ none → (a : A) → fault (library_tests s (one l a).library) ≡ none) where
    pub all_sound : (l : Library) → fault (library_tests s l) ≡ none → (rest : List A) → fault (library_tests s (insert_all one l rest).library) ≡ none
    unfolding insert_all and_then
    all_sound l v [] = v
    all_sound l v (a ∷ rest) = let t = one l a in go t (insert_all one t.library rest) t.answer (sound l v a) (all_sound t.library (sound l v a) rest)
      where
        go : (t u : Turn ℕ) (o : Answer ℕ) → fault (library_tests s t.library) ≡ none → fault (library_tests s u.library) ≡ none → fault (library_tests s (and_then t o u).library) ≡ none
        go t u (refused m) a b = a
        go t u (success m) a b = b

-- ---- the walk over a list: l is the library before those that are left, the first of which is a

module _ {A : Type 0} (one : Library → A → Turn ℕ) (all : List A) (l₀ l : Library) (a : A) (left : List A) (g : insert_all one l₀ all ≡ insert_all one l (a ∷ left)) where
  head_now : insert_all one l₀ all ≡ and_then (one l a) (one l a).answer (insert_all one (one l a).library left)
  head_now = g ∙ all_cons one l a left

  -- what its turn gives
  module _ {after : Library} where
    -- it is stored: go on
    pub next_stored : (n : ℕ) → Gives (one l a) (success n) after → insert_all one l₀ all ≡ insert_all one after left
    next_stored n u =
        head_now ∙ then-success (one l a) (insert_all one (one l a).library left) n (sym u.answers) ∙ rw (sym u.library-is)

    -- it is turned away: that is the answer
    pub next_stops : (n : ℕ) → Gives (one l a) (refused n) after → Gives (insert_all one l₀ all) (refused n) after
    next_stops n u =
        let whole : insert_all one l₀ all ≡ one l a = head_now ∙ then-refused (one l a) (insert_all one (one l a).library left) n (sym u.answers) in
        rw whole u

-- ---- the same by number: l is the library after the first i of so many

pub record Going {A : Type 0} (one : Library → A → Turn ℕ) (count : ℕ) (item : ℕ → A) (l₀ l : Library) (i : ℕ) : Type 0 where
  pub upto : i ≤ count
  pub ahead : insert_all one l₀ (tab count item) ≡ insert_all one l (drop i (tab count item))

module _ {A : Type 0} (one : Library → A → Turn ℕ) (count : ℕ) (item : ℕ → A) where
  pub starts : (l : Library) → Going one count item l l 0
  starts l = record { upto = omega arith; ahead = refl }

  module _ (l₀ l : Library) (i : ℕ) (g : Going one count item l₀ l i) (h : i < count) where
    item_left : insert_all one l₀ (tab count item) ≡ insert_all one l (item i ∷ drop (suc i) (tab count item))
    item_left = g.ahead ∙ ap (insert_all one l) (drop-tab count item i h)

    -- what its turn gives
    module _ {after : Library} where
      -- it is stored: go on
      pub goes_on : (n : ℕ) → Gives (one l (item i)) (success n) after → Going one count item l₀ after (i + 1)
      goes_on n u =
          record {
            upto = omega arith;
            ahead = next_stored one (tab count item) l₀ l (item i) (drop (suc i) (tab count item)) item_left n u ∙ rw add-one;
          }

      -- it is turned away: that is the answer
      pub stops : (n : ℕ) → Gives (one l (item i)) (refused n) after → Gives (insert_all one l₀ (tab count item)) (refused n) after
      stops n u = next_stops one (tab count item) l₀ l (item i) (drop (suc i) (tab count item)) item_left n u

  -- all are stored
  pub all-taken : (l₀ l : Library) {i : ℕ} → Going one count item l₀ l i → count ≤ i → insert_all one l₀ (tab count item) ≡ record { library = l; answer = success l.used }
  all-taken l₀ l {i} g h = g.ahead ∙ ap (insert_all one l) (drop_of_length-le (tab count item) {i = i} (rw (length-tab count item) h)) ∙ all_none one l

-- ---- a mark

-- an insertion leaves a library that passes its tests
pub one-sound : (s : GridSearch) (l : Library) → fault (library_tests s l) ≡ none → (m : Record) → fault (library_tests s (insert_one s l m).library) ≡ none
one-sound s l v m = insertion-passes s l m.id (place_of s.ndim m) v
