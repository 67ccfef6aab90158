-- What is known of files that were read. The contract of `read` says nothing of the bytes, so each says that the answer is the
-- definition's for some content of the file: the bytes that were read, or none where it cannot be read.
-- Assumes nothing.
use Rattle.std.specs.Prelude.{ℕ, ◌%◌, ◌≡◌, List, length, Result, Ok, Err}
use Rattle.std.proofs.Math.Option.{Option, none, some}
use Rattle.basics.specs.Refusals.{refused, success}
use Rattle.basics.specs.declared.Refusal.{Refusal}
use Rattle.grid_search.specs.declared.GridSearch.{GridSearch}
use Rattle.grid_search.specs.Sheet.{made}
use Rattle.table.specs.Library.{Library, space}
use Rattle.rows.specs.Insert.{inserted}
use Rattle.loading.specs.Loading.{sheet_in, insert_bytes, Inserts}
use Rattle.files.specs.Counts.{IsPrefixLen}
use Rattle.files.specs.declared.InputError.{InputError}
use Rattle.files.specs.declared.Part.{Part}

-- the sheet of a file
pub record SheetRead (r : Result GridSearch Refusal) : Type 0 where
  pub file : Option (List ℕ)
  pub is : made r ≡ sheet_in file

-- the bytes of standard input that came stand at the front of a buffer of 131,072: what lending them asks for
pub record Came (r : Result ℕ InputError) (bytes : List ℕ) : Type 0 where
  pub room : 131072 ≡ length bytes
  pub front : (n : ℕ) → r ≡ Ok n → IsPrefixLen n bytes

-- ---- marks

-- 13: the lists are as long as before, and the rows in use are as many
pub record Unread (l : Library) (r : Result ℕ Refusal) (after : Library) : Type 0 where
  pub answers : inserted r ≡ refused 13
  pub used : after.used ≡ l.used
  pub room : space after ≡ space l

-- the marks of the bytes are inserted into l, with this answer, and this is the library at exit
abbrev pub MarksIn : ℕ → GridSearch → Library → Option (List ℕ) → Result ℕ Refusal → Library → Type 0
MarksIn width s l none r after = Unread l r after
MarksIn width s l (some bytes) r after = Inserts (insert_bytes width s l bytes) r after

pub record MarksRead (width : ℕ) (s : GridSearch) (l : Library) (r : Result ℕ Refusal) (after : Library) : Type 0 where
  pub file : Option (List ℕ)
  pub is : MarksIn width s l file r after

-- those of whole records, all of them taken, and this is the library then
pub record MoreRead (width : ℕ) (s : GridSearch) (l after : Library) : Type 0 where
  pub bytes : List ℕ
  pub whole : length bytes % width ≡ 0
  pub is : insert_bytes width s l bytes ≡ record { library = after; answer = success after.used }

-- those of bytes that were turned away: a mark among them, or bytes that are left over
pub record StopRead (width : ℕ) (s : GridSearch) (l : Library) (e : Refusal) (after : Library) : Type 0 where
  pub bytes : List ℕ
  pub is : Inserts (insert_bytes width s l bytes) (Err e) after

-- a part of the file: its marks were all taken, or it was turned away
abbrev pub PartRead : ℕ → GridSearch → Library → Result Part Refusal → Library → Type 0
PartRead width s l (Ok p) after = MoreRead width s l after
PartRead width s l (Err e) after = StopRead width s l e after
