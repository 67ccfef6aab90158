-- What a program knows of a file or of standard input once it is read: the bytes that came, and what reading on after them
-- answered, or that it cannot be opened. From these alone it is decided what it holds.
-- Assumes nothing.
use Rattle.std.specs.Prelude.{ℕ, ◌*◌, ◌/◌, Bool, false, cond, List, ltb, eqb, length, Result, Ok, Err}
use Rattle.std.proofs.Math.Option.{Option, none, some}
use Rattle.basics.specs.Refusals.{Answer, refused, success}
use Rattle.basics.specs.declared.Refusal.{Refusal}
use Rattle.files.specs.declared.ReadError.{ReadError}
use Rattle.files.specs.declared.InputError.{InputError}
use Rattle.files.specs.declared.InputError.TheVariants.{Longer, Unreadable}
use Rattle.files.specs.declared.Part.{Part}
use Rattle.files.specs.declared.Part.TheVariants.{More, Last}

-- reading on answers 0 at the end, the number of bytes where more follow, and an error where it fails
unfoldable pub is_end : Result ℕ ReadError → Bool
is_end (Ok n) = eqb n 0
is_end (Err e) = false

-- the bytes that came are all of the file: it was opened, and it ends after them
unfoldable pub all_came : Result ℕ ReadError → Bool
unfolding is_end
all_came after = is_end after

-- what the file holds; none: it is missing, cannot be read, or does not end where it has to
unfoldable pub content : List ℕ → Result ℕ ReadError → Option (List ℕ)
unfolding all_came
content bytes after = cond (all_came after) (some bytes) none

-- how many bytes are asked for at a time: whole records, as many as 65,536 bytes hold
unfoldable pub part_length : ℕ → ℕ
part_length width = 65536 / width * width

-- what comes after a part of the marks that gave this answer: a refusal is handed on, and a part of fewer bytes than were asked for is
-- the last
unfoldable pub part_of : ℕ → ℕ → Result ℕ Refusal → Result Part Refusal
part_of came asked (Ok rows) = Ok (cond (ltb came asked) Last More)
part_of came asked (Err e) = Err e

-- the answer to a file whose marks were all taken: they have to be all of the file
unfoldable pub marks_answer : Result ℕ ReadError → ℕ → Answer ℕ
unfolding all_came
marks_answer after rows = cond (all_came after) (success rows) (refused 13)

-- What standard input holds, where so many bytes came of those that were asked for. Bytes that follow fewer than those say that
-- reading failed before.
unfoldable pub input_of : ℕ → ℕ → Result ℕ ReadError → Result ℕ InputError
input_of came asked (Ok n) = cond (eqb n 0) (Ok came) (Err (cond (eqb came asked) Longer Unreadable))
input_of came asked (Err e) = Err Unreadable

-- document 01's number for each answer: more bytes than are held are 12, and input that cannot be read is 13, as a file is
abbrev pub input_answer : Result ℕ InputError → Answer ℕ
input_answer (Ok n) = success n
input_answer (Err Longer) = refused 12
input_answer (Err Unreadable) = refused 13

-- how much of a complaint is said: all of it where the text was not written whole, and else nothing
unfoldable pub said : Bool → List ℕ → ℕ
said written line = cond written 0 (length line)
