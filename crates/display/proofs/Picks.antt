-- The ids that are picked: the rows are numbered, and one is selected for each id.
-- Assumes nothing.
use Prim.Native.Nat.{ℕ, ◌+◌, ◌<◌}
use native.Mathlib.Omega.{arith}
use mathlib.Core.Path.{◌≡◌, sym, ap, ◌∙◌}
use mathlib.Core.List.{List, ◌++◌, map, append_assoc}
use lib.ListN.{length, get_or, take, length-map, length-append}
use lib.Seq.{length-take-le, get_or-take, ext_get_or}
use Rattle.sorting.specs.Sorted.{distinct}
use Rattle.sorting.specs.Posts.{mark_id, Indices, Selected}
use Rattle.std.proofs.lemmas.List.{get_or-map}
use Rattle.display.specs.declared.Contents.{Contents}
use Rattle.text.specs.Text.{ascii, entries, list_text}
use Rattle.display.specs.Contents.{slots, ids_line}
use Rattle.display.specs.Display.{ids_in, named}
use Rattle.display.specs.Posts.{Picked, Numbered}
use Rattle.display.proofs.Runs.{pairs_ids}

numbered_ids : (ids order : List ℕ) → length order ≡ length ids → Numbered order → map (mark_id ids) order ≡ ids
numbered_ids ids order e f =
    ext_get_or 0 (map (mark_id ids) order) ids (length-map order (mark_id ids) ∙ e)
    λ i h.
    let short : i < length order = omega (arith, length-map order (mark_id ids)) in
    get_or-map (mark_id ids) order i 0 0 short ∙ ap (mark_id ids) (f i short)

pub numbered_indices : (ids order : List ℕ) → length order ≡ length ids → Numbered order → Indices (length ids) (length order) order
numbered_indices ids order e f = λ i h. omega (arith, f i h)

pub picked : (ids order after : List ℕ) (m : ℕ) → length order ≡ length ids → length after ≡ length order → Numbered order → Selected ids order m after → Picked ids (take m after)
picked ids order after m e same f s =
    let long : length (take m after) ≡ m = length-take-le m after (omega (arith, s.upto)) in
    record {
      by_id = s.by_key ∙ ap distinct (numbered_ids ids order e f);
      below = λ i h. let short : i < m = omega arith in rw (get_or-take m after i 0 short) (s.indices i short);
    }

-- the ids that the text lists
module _ (c : Contents) where
  abbrev pub listed : List ℕ
  listed = map (mark_id c.ids.now) c.order.now

  pub ids_listed : ids_in (slots c) ≡ map (mark_id c.ids.now) c.order.now
  unfolding ids_in
  ids_listed = ap distinct (pairs_ids c.keys.now c.ids.now (sym c.level)) ∙ sym c.each_once.by_id

  pub listed_length : length (map (mark_id c.ids.now) c.order.now) ≡ length c.order.now
  listed_length = length-map c.order.now (mark_id c.ids.now)

  pub listed_at : (i : ℕ) → i < length c.order.now → get_or (map (mark_id c.ids.now) c.order.now) i 0 ≡ get_or c.ids.now (get_or c.order.now i 0) 0
  listed_at i h = get_or-map (mark_id c.ids.now) c.order.now i 0 0 h

  pub ids_count : length (ids_in (slots c)) ≡ length c.order.now
  ids_count = ap length ids_listed ∙ listed_length

  -- their line
  pub ids_text : ids_line c ≡ ascii "ids = [" ++ (entries (ascii ", ") 0 (map (mark_id c.ids.now) c.order.now) ++ ascii "]\n")
  unfolding named list_text
  ids_text = rw ids_listed (ap (λ (l : List ℕ). ascii "ids = [" ++ l) (append_assoc (entries (ascii ", ") 0 (map (mark_id c.ids.now) c.order.now)) (ascii "]") (ascii "\n")))

  pub ids_length : length (ids_line c) ≡ 9 + length (entries (ascii ", ") 0 (map (mark_id c.ids.now) c.order.now))
  ids_length = rw ids_text (simp length-append (omega arith))
