-- The walk over the containers in use: each turn puts one line, and what is left makes the other lines.
-- Assumes nothing.
use Prim.Native.Nat.{ℕ, suc, ◌+◌, ◌^◌, ◌≤◌, ◌<◌}
use native.Mathlib.Omega.{arith}
use mathlib.Core.Path.{◌≡◌, refl, sym, ap, ◌∙◌, subst}
use mathlib.Core.List.{List, [], ◌∷◌, ◌++◌, append-nil, append_assoc}
use lib.Dec.{eqb}
use lib.ListN.{length, get_or, take, drop, length-append, take-append-drop}
use Rattle.std.specs.List.{IsChunkByPrefix}
use Rattle.std.proofs.lemmas.List.{length-take, length-drop}
use Rattle.sorting.specs.Sorted.{distinct}
use Rattle.table.specs.Rows.{slots_of}
use Rattle.table.specs.Posts.{Ordered}
use Rattle.text.specs.declared.Writer.{Writer}
use Rattle.text.specs.Writers.{Puts}
use Rattle.text.proofs.Laws.{puts_nothing, puts_both}
use Rattle.display.specs.Display.{keys_in, line, lines_of}
use Rattle.display.proofs.Runs.{pairs, lines_turn, keys_turn, others}
use Rattle.display.proofs.Texts.{line_length}

-- the lines of the containers of these keys, and how many there are
abbrev pub lines_for : List ℕ → List ℕ → List ℕ
lines_for keys ids = lines_of (pairs keys ids) (keys_in (pairs keys ids))

abbrev pub count_for : List ℕ → List ℕ → ℕ
count_for keys ids = length (keys_in (pairs keys ids))

-- n lines were put, and those of the keys and ids that are left make the rest
pub record Walking (keys ids : List ℕ) (before : Writer) (n : ℕ) (keys_left ids_left : List ℕ) (out : Writer) : Type 0 where
  pub done : List ℕ
  pub puts : Puts done before out
  pub text : done ++ lines_for keys_left ids_left ≡ lines_for keys ids
  pub count : n + count_for keys_left ids_left ≡ count_for keys ids
  pub few : n ≤ length done
  pub level : length ids_left ≡ length keys_left
  pub order : Ordered keys_left ids_left (length keys_left)

-- what is left begins with the line of the first container
record Turn (run keys_left ids_left : List ℕ) : Type 0 where
  lines : lines_for (run ++ keys_left) ids_left ≡ line (get_or run 0 0) (take (length run) ids_left) ++ lines_for keys_left (drop (length run) ids_left)
  count : count_for (run ++ keys_left) ids_left ≡ suc (count_for keys_left (drop (length run) ids_left))
  order : Ordered keys_left (drop (length run) ids_left) (length keys_left)

turn : (run keys_left ids_left : List ℕ) → 0 < length run → length ids_left ≡ length (run ++ keys_left) → Ordered (run ++ keys_left) ids_left (length (run ++ keys_left))
    → IsChunkByPrefix eqb (run ++ keys_left) (length run) → Turn run keys_left ids_left
turn [] keys_left ids_left h e o p = absurd (omega arith)
turn (k ∷ run) keys_left [] h e o p = absurd (omega arith)
turn (k ∷ run) keys_left (i ∷ ids_left) h e o p =
    let front : List ℕ = take (length run) ids_left in
    let back : List ℕ = drop (length run) ids_left in
    let parts : front ++ back ≡ ids_left = take-append-drop (length run) ids_left in
    let long : length front ≡ length run = omega (arith, length-take (length run) ids_left, length-append run keys_left) in
    let o' : Ordered ((k ∷ run) ++ keys_left) ((i ∷ front) ++ back) (length ((k ∷ run) ++ keys_left)) = rw parts o in
    record {
      lines = ap (λ (l : List ℕ). lines_for ((k ∷ run) ++ keys_left) (i ∷ l)) (sym parts) ∙ lines_turn k run keys_left i front back long o' p;
      count = ap (λ (l : List ℕ). count_for ((k ∷ run) ++ keys_left) (i ∷ l)) (sym parts) ∙ keys_turn k run keys_left i front back long o' p;
      order = others k run keys_left i front back long o' p;
    }

module _ (keys ids : List ℕ) (before : Writer) where
  pub walk-start : length ids ≡ length keys → Ordered keys ids (length keys) → Walking keys ids before 0 keys ids before
  walk-start e o = record {
    done = [];
    puts = puts_nothing before;
    text = refl;
    count = omega arith;
    few = omega arith;
    level = e;
    order = o;
  }

  -- a turn: the keys of one container, and as many ids
  module _ (n : ℕ) (run keys_left ids_left : List ℕ) (out : Writer) (w : Walking keys ids before n (run ++ keys_left) ids_left out) (h : 0 < length run)
      (p : IsChunkByPrefix eqb (run ++ keys_left) (length run)) where
    abbrev front : List ℕ
    front = take (length run) ids_left

    abbrev back : List ℕ
    back = drop (length run) ids_left

    abbrev this : List ℕ
    this = line (get_or run 0 0) front

    turned : Turn run keys_left ids_left
    turned = turn run keys_left ids_left h w.level w.order p

    pub walk_more : {out' : Writer} → Puts this out out' → Walking keys ids before (n + 1) keys_left back out'
    walk_more q = record {
      done = w.done ++ this;
      puts = puts_both w.puts q;
      text = append_assoc w.done this (lines_for keys_left back) ∙ ap (λ (l : List ℕ). w.done ++ l) (sym turned.lines) ∙ w.text;
      count = omega (arith, w.count, turned.count);
      few = omega (arith, w.few, length-append w.done this, line_length (get_or run 0 0) front);
      level = omega (arith, w.level, length-drop (length run) ids_left, length-append run keys_left);
      order = turned.order;
    }

    -- the line has room where all have
    pub walk_room : before.at + length (lines_for keys ids) < 2 ^ 64 → out.at + length this < 2 ^ 64
    walk_room r =
        omega (
          arith,
          w.puts.put.past,
          simp length-append at (ap length w.text),
          simp length-append at (ap length turned.lines),
        )

    -- and so has their count
    pub walk_count : before.at + length (lines_for keys ids) < 2 ^ 64 → n + 1 < 2 ^ 64
    walk_count r = omega (arith, w.few, line_length (get_or run 0 0) front, simp length-append at (ap length w.text), simp length-append at (ap length turned.lines))

-- no keys are left
pub walk_end : (keys ids : List ℕ) (before : Writer) (n : ℕ) (keys_left ids_left : List ℕ) (out : Writer) → Walking keys ids before n keys_left ids_left out → length keys_left ≡ 0
    → Puts (lines_for keys ids) before out × (n ≡ count_for keys ids)
unfolding slots_of lines_of keys_in distinct
walk_end keys ids before n [] ids_left out w e =
    let all : w.done ≡ lines_for keys ids = sym (append-nil w.done) ∙ w.text in
    (subst (λ (l : List ℕ). Puts l before out) all w.puts, omega (arith, w.count))
walk_end keys ids before n (k ∷ keys_left) ids_left out w e = absurd (omega arith)
