-- What is printed of standard input, from what reading it answered.
-- Assumes nothing.
use Prim.Native.Nat.{ℕ, ◌≤◌, zero-le}
use mathlib.Core.Path.{◌≡◌, refl, ◌∙◌}
use mathlib.Core.Option.{none, some}
use mathlib.Core.List.{List, [], ◌∷◌}
use lib.Dec.{lit<}
use lib.ListN.{length, replicate, length-replicate}
use borrow.Author.Tests.{lt-ltb, le-ltb}
use Rattle.text.specs.Text.{refusal}
use Rattle.std.specs.Prelude.{Result, Ok, Err}
use Rattle.std.specs.Result.{result_unwrap_or}
use Rattle.files.specs.declared.InputError.{InputError}
use Rattle.files.specs.declared.InputError.TheVariants.{Longer, Unreadable}
use Rattle.files.specs.Counts.{IsPrefixLen}
use Rattle.files.specs.Files.{input_answer}
use Rattle.files.specs.Read.{Came}
use Rattle.surveyed.specs.Surveyed.{most_bytes, of_text, surveyed, input_text}
use Rattle.survey.specs.Printed.{Printed}

-- a text that is held
of_text_lem : (bytes : List ℕ) → length bytes ≤ most_bytes → of_text bytes ≡ surveyed (some bytes)
unfolding surveyed
of_text_lem bytes h = rw (le-ltb most_bytes (length bytes) h)

-- one that is not: as if it were zeros
zeros : List ℕ
zeros = replicate 131073 0

zeros-length : length zeros ≡ 131073
unfolding zeros
zeros-length = length-replicate {A = ℕ} 131073 0

too_long : refusal (12 ∷ []) ≡ surveyed (some zeros)
unfolding surveyed
too_long = rw (lt-ltb most_bytes (length zeros) (rw zeros-length (lit< tt)))

-- ---- what came

-- what was counted stands at the front, and so does nothing
pub came_front : (input : Result ℕ InputError) (bytes : List ℕ) → Came input bytes → IsPrefixLen (result_unwrap_or input 0) bytes
came_front (Ok n) bytes c = c.front n refl
came_front (Err e) bytes c = (zero-le, refl)

-- ---- by the answer

pub of_whole : (input : Result ℕ InputError) (n : ℕ) (bytes : List ℕ) → input ≡ Ok n
    → of_text bytes ≡ input_text (input_answer input) bytes
unfolding input_text
of_whole input n bytes e = rw e

pub of_longer : (input : Result ℕ InputError) (bytes : List ℕ) → input ≡ Err Longer
    → refusal (12 ∷ []) ≡ input_text (input_answer input) bytes
unfolding input_text
of_longer input bytes e = rw e

pub of_unreadable : (input : Result ℕ InputError) (bytes : List ℕ) → input ≡ Err Unreadable
    → refusal (13 ∷ []) ≡ input_text (input_answer input) bytes
unfolding input_text
of_unreadable input bytes e = rw e

-- ---- of some content

pub of_input : (input : Result ℕ InputError) (bytes : List ℕ) → length bytes ≤ most_bytes → (text : List ℕ)
    → text ≡ input_text (input_answer input) bytes → Printed text
unfolding input_text surveyed
of_input (Ok n) bytes h text e = record { input = some bytes; is = e ∙ of_text_lem bytes h }
of_input (Err Longer) bytes h text e = record { input = some zeros; is = e ∙ too_long }
of_input (Err Unreadable) bytes h text e = record { input = none; is = e }
