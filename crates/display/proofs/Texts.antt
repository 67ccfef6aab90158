-- How long the texts are.
-- Assumes nothing.
use Prim.Native.Nat.{ℕ, ◌+◌}
use native.Mathlib.Omega.{arith}
use mathlib.Core.Path.{◌≡◌}
use mathlib.Core.Bool.{true}
use mathlib.Core.List.{List, [], ◌∷◌}
use lib.ListN.{length, length-append}
use lib.Seq.{length-take-le}
use Rattle.geometry.specs.Position.{dimension}
use Rattle.geometry.proofs.Axes.{few-axes}
use Rattle.grid.specs.declared.Divisions.{Divisions}
use Rattle.grid.specs.Divisions.{counts}
use Rattle.table.specs.Rows.{Slot}
use Rattle.text.specs.Text.{ascii, decimal, list_text}
use Rattle.display.specs.Display.{keys_in, ids_in, line, lines_of, named, summary, slots_text}

pub line_length : (k : ℕ) (ids : List ℕ) → length (line k ids) ≡ length (decimal k) + length (list_text ids) + 3
unfolding line
line_length k ids = simp length-append (omega arith)

pub named_length : (name text : List ℕ) → length (named name text) ≡ length name + length text + 4
unfolding named
named_length name text = simp length-append (omega arith)

pub counts-length : (n : ℕ) (d : Divisions) → dimension n ≡ true → length (counts n d) ≡ n
counts-length n d e = length-take-le n (d.x ∷ d.y ∷ d.z ∷ []) (few-axes n e).1

-- the summary's four lines, one after the other
pub summary_length : (slots : List Slot) (divisions : List ℕ)
    → length (summary slots divisions)
    ≡ length (named (ascii "ids") (list_text (ids_in slots)))
    + (length (named (ascii "nitem") (decimal (length (ids_in slots))))
    + (length (named (ascii "ncontainer") (decimal (length (keys_in slots)))) + length (named (ascii "ndiv") (list_text divisions))))
unfolding summary
summary_length slots divisions = simp length-append

pub whole_length : (divisions : List ℕ) (slots : List Slot) → length (slots_text divisions slots) ≡ length (lines_of slots (keys_in slots)) + length (summary slots divisions)
unfolding slots_text
whole_length divisions slots = length-append (lines_of slots (keys_in slots)) (summary slots divisions)
