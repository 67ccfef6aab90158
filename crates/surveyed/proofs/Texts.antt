-- What is printed of the marks that an import left in the lists.
-- Assumes nothing.
use Prim.Native.Nat.{ℕ, ◌≤◌}
use native.Mathlib.Omega.{arith}
use mathlib.Core.Path.{◌≡◌, refl, sym, ap, ◌∙◌, subst}
use mathlib.Core.Bool.{true}
use mathlib.Core.Option.{Option, none, some}
use mathlib.Core.List.{List, [], ◌∷◌, map}
use lib.ListN.{length, take, length-map}
use lib.Ieee.{Float, nan}
use borrow.Author.Tests.{not-false}
use Rattle.basics.specs.Lists.{tab}
use Rattle.basics.proofs.Lists.{map-tab, tab-take}
use Rattle.basics.specs.Refusals.{Answer, refused, success, fault}
use Rattle.basics.proofs.Refusals.{unrefused}
use Rattle.grid_search.specs.declared.GridSearch.{GridSearch}
use Rattle.grid_search.specs.Sheet.{new_sheet, sheet_ok}
use Rattle.grid_search.proofs.Remade.{made-good}
use Rattle.std.specs.Prelude.{Result, Ok, Err, None}
use Rattle.basics.specs.declared.Refusal.{Refusal}
use Rattle.basics.specs.Answers.{refusal_number}
use Rattle.table.specs.Library.{Library}
use Rattle.rows.specs.Turn.{Gives}
use Rattle.rows.specs.Insert.{inserted}
use Rattle.records.specs.declared.Record.{Record}
use Rattle.loading.specs.Loading.{insert_one, insert_all, Inserts}
use Rattle.text.specs.Text.{refusal}
use Rattle.outcome.specs.Outcome.{empty_library, outcome_text}
use Rattle.outcome.proofs.Reading.{of_turn, marks-sound}
use Rattle.mark_lists.specs.MarkLists.{MarkList, mark_at, marks_in, write_marks, same_lengths, holds}
use Rattle.mark_lists.specs.Posts.{Room}
use Rattle.mark_lists.proofs.Laws.{room, used-written, lengths-written}
use Rattle.table.specs.Posts.{Long}
use Rattle.lines.specs.Lines.{lines}
use Rattle.survey_import.specs.declared.ImportError.TheVariants.{Malformed, Refused}
use Rattle.survey_import.specs.Marks.{mark_of, bad_line}
use Rattle.survey_import.specs.Import.{Import, Imports, importing, import_lines, import_tests, settle_import}
use Rattle.surveyed.specs.Surveyed.{empty_marks, lowest_of, highest_of, sheet_over, sheet_of_marks, on_sheet, of_marks, refused_at, after_import, of_text}

-- ---- the sheet

module _ (l : MarkList) where
  -- one field of the marks in use
  along : (g : Record → Float) (values : List Float) → tab l.used (λ i. g (mark_at l i)) ≡ take l.used values → map g (marks_in l) ≡ take l.used values
  unfolding marks_in
  along g values e = map-tab g l.used (mark_at l) ∙ e

  pub sheet-is : l.used ≤ length l.xs → l.used ≤ length l.ys → l.used ≤ length l.zs
      → sheet_over (take l.used l.xs) (take l.used l.ys) (take l.used l.zs) ≡ sheet_of_marks (marks_in l)
  unfolding sheet_of_marks
  sheet-is hx hy hz =
      rw (
        along (λ (m : Record). m.x) l.xs (tab-take l.used l.xs nan hx),
        along (λ (m : Record). m.y) l.ys (tab-take l.used l.ys nan hy),
        along (λ (m : Record). m.z) l.zs (tab-take l.used l.zs nan hz),
      )

-- from extremes that were found
pub of_extremes : (xs ys zs : List Float) {a b c d e f : Float} → a ≡ lowest_of xs → b ≡ lowest_of ys → c ≡ lowest_of zs → d ≡ highest_of xs → e ≡ highest_of ys → f ≡ highest_of zs
    → new_sheet (a ∷ b ∷ c ∷ []) (d ∷ e ∷ f ∷ []) None None None ≡ sheet_over xs ys zs
unfolding sheet_over
of_extremes xs ys zs p q r u v w = rw (p, q, r, u, v, w)

-- one that was not refused passes its check
pub sheet-good : (marks : List Record) (s : GridSearch) → sheet_of_marks marks ≡ success s → sheet_ok s ≡ true
unfolding sheet_of_marks sheet_over
sheet-good marks s e =
    let xs = map (λ (m : Record). m.x) marks in
    let ys = map (λ (m : Record). m.y) marks in
    let zs = map (λ (m : Record). m.z) marks in
    made-good (lowest_of xs ∷ lowest_of ys ∷ lowest_of zs ∷ []) (highest_of xs ∷ highest_of ys ∷ highest_of zs ∷ []) None None None s e

-- ---- the marks

-- the turn of a mark that was read
pub of_mark : {m n : Record} → m ≡ n → (s : GridSearch) (l : Library) {a : Answer ℕ} {after : Library} → Gives (insert_one s l m) a after → Gives (insert_one s l n) a after
of_mark e s l {a} {after} t = subst (λ (r : Record). Gives (insert_one s l r) a after) e t

-- ---- the text

-- of the outcome of the marks on a good sheet
pub on-sheet : (s : GridSearch) → sheet_ok s ≡ true → (marks : List Record) (l : Library) (r : Result ℕ Refusal) → Inserts (insert_all (insert_one s) empty_library marks) r l
    → outcome_text s l (inserted r) ≡ on_sheet (success s) marks
unfolding on_sheet
on-sheet s good marks l r g = of_turn s (insert_all (insert_one s) empty_library marks) (marks-sound s good marks) l r g

pub of_sheet_lem : (a : Answer GridSearch) (marks : List Record) → a ≡ sheet_of_marks marks → on_sheet a marks ≡ of_marks marks
unfolding of_marks
of_sheet_lem a marks e = ap (λ (o : Answer GridSearch). on_sheet o marks) e

pub no_sheet : (n : ℕ) (marks : List Record) → refused n ≡ sheet_of_marks marks → refusal (n ∷ []) ≡ of_marks marks
unfolding of_marks on_sheet
no_sheet n marks e = ap (λ (o : Answer GridSearch). on_sheet o marks) e

-- ---- an import

abbrev after : Import → List ℕ
after i = after_import i.lists i.answer i.line

of_marks_lem : (i : Import) (n : ℕ) (l : MarkList) → Imports i (Ok n) l → of_marks (marks_in l) ≡ after i
unfolding after_import
of_marks_lem i n l g = ap (λ (p : MarkList). of_marks (marks_in p)) g.lists-are ∙ ap (λ (a : Answer ℕ). after_import i.lists a i.line) g.answers

of_line : (i : Import) (line : ℕ) (l : MarkList) → Imports i (Err (Malformed line)) l → refusal (27 ∷ line ∷ []) ≡ after i
unfolding after_import refused_at
of_line i line l g = ap (refused_at 27) g.line-is ∙ ap (λ (a : Answer ℕ). after_import i.lists a i.line) g.answers

of_refusal : (i : Import) (e : Refusal) (l : MarkList) → Imports i (Err (Refused e)) l → refusal (refusal_number e ∷ []) ≡ after i
unfolding after_import refused_at
of_refusal i e l g = ap (refused_at (refusal_number e)) g.line-is ∙ ap (λ (a : Answer ℕ). after_import i.lists a i.line) g.answers

-- marks that were taken have room
took : (l : MarkList) (bytes : List ℕ) (n : ℕ) → (importing l bytes).answer ≡ success n → Room (importing l bytes).lists (importing l bytes).lists.used
unfolding importing import_lines settle_import import_tests
took l bytes n e = go (fault (import_tests l (lines bytes))) refl e
  where
    go : (o : Option ℕ) → fault (import_tests l (lines bytes)) ≡ o → (settle_import o (bad_line (lines bytes)) (write_marks (map mark_of (lines bytes)) l) l).answer ≡ success n
        → let i = settle_import o (bad_line (lines bytes)) (write_marks (map mark_of (lines bytes)) l) l in Room i.lists i.lists.used
    go (some k) f q = absurd (let z : ◌≡◌ {A = ℕ} 0 1 = cc in omega arith)
    go none f q =
        let marks = map mark_of (lines bytes) in
        let tests = unrefused (import_tests l (lines bytes)) f in
        let level : same_lengths l ≡ true = not-false (same_lengths l) tests.1.0 in
        let fit : holds l (length (lines bytes)) ≡ true = not-false (holds l (length (lines bytes))) tests.1.1.1.0 in
        let many : length marks ≡ length (lines bytes) = length-map (lines bytes) mark_of in
        let lent_room : Room l (length marks) = rw many (room l (length (lines bytes)) level fit) in
        rw used-written (subst (λ (ns : List ℕ). Long ns (length marks)) (sym (lengths-written marks l lent_room)) lent_room)

-- into the empty lists, with this answer
module _ (bytes : List ℕ) (l : MarkList) where
  pub few : (n : ℕ) → Imports (importing empty_marks bytes) (Ok n) l → Room l l.used
  few n g = subst (λ (p : MarkList). Room p p.used) (sym g.lists-are) (took empty_marks bytes n (sym g.answers))

  pub marks_text : (n : ℕ) → Imports (importing empty_marks bytes) (Ok n) l → of_marks (marks_in l) ≡ of_text bytes
  unfolding of_text
  marks_text n g = of_marks_lem (importing empty_marks bytes) n l g

  pub line_text_lem : (line : ℕ) → Imports (importing empty_marks bytes) (Err (Malformed line)) l → refusal (27 ∷ line ∷ []) ≡ of_text bytes
  unfolding of_text
  line_text_lem line g = of_line (importing empty_marks bytes) line l g

  pub refusal_text : (e : Refusal) → Imports (importing empty_marks bytes) (Err (Refused e)) l → refusal (refusal_number e ∷ []) ≡ of_text bytes
  unfolding of_text
  refusal_text e g = of_refusal (importing empty_marks bytes) e l g
