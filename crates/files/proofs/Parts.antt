-- A part after the parts before it: the marks go into the library as those left it.
-- Assumes nothing.
use Prim.Native.Nat.{ℕ, zero, suc, ◌<◌}
use native.Mathlib.Omega.{arith}
use native.Mathlib.Nat.{zero-div, zero-mod}
use mathlib.Core.Path.{◌≡◌, refl, sym, ap, ◌∙◌, subst}
use mathlib.Core.Bool.{Bool, true, false, cond}
use mathlib.Core.Option.{none, some}
use mathlib.Core.List.{List, [], ◌++◌}
use Rattle.std.specs.Prelude.{Result, Ok, Err, is_err}
use Rattle.basics.specs.Refusals.{refused, success}
use Rattle.basics.specs.declared.Refusal.{Refusal}
use Rattle.basics.proofs.Answers.{Raised}
use Rattle.grid_search.specs.declared.GridSearch.{GridSearch}
use Rattle.table.specs.Library.{Library, space}
use Rattle.rows.specs.Turn.{Turn, Gives}
use Rattle.rows.specs.Insert.{inserted}
use Rattle.loading.specs.Loading.{records_of, leftover, insert_bytes, Inserts}
use Rattle.loading.proofs.Chunks.{in_parts, stored_whole, whole_append}
use Rattle.loading.proofs.InOrder.{no, then-success}
use Rattle.loading.proofs.Marks.{bytes-used}
use Rattle.files.specs.declared.ReadError.{ReadError}
use Rattle.files.specs.Files.{all_came, part_length, part_of, marks_answer}
use Rattle.files.specs.Read.{MarksRead, MoreRead, StopRead, PartRead}
use Rattle.files.proofs.Room.{bytes-space}

-- the result that `?` gives back for an error
pub raised : {A : Type 0} (e : Refusal) (r : Result A Refusal) → Raised e r → r ≡ Err e
raised e (Ok a) h = absurd h.1
raised e (Err d) h = ap Err h.1

-- a part that is not empty has records of some width
pub some_width : (width : ℕ) → (part_length width ≡ 0 → ⊥) → 0 < width
unfolding part_length
some_width zero e = absurd (e refl)
some_width (suc n) e = omega arith

module _ (width : ℕ) (s : GridSearch) where
  no_bytes : (l : Library) → insert_bytes width s l [] ≡ record { library = l; answer = success l.used }
  unfolding insert_bytes records_of leftover
  no_bytes l = rw (zero-div width, zero-mod width)

  -- nothing was read yet
  pub start : (l : Library) → MoreRead width s l l
  start l = record { bytes = []; whole = zero-mod width; is = no_bytes l }

  module _ (not-zero : 0 < width) (l : Library) {k : Library} (m : MoreRead width s l k) where
    after : (bytes : List ℕ) → insert_bytes width s k bytes ≡ insert_bytes width s l (m.bytes ++ bytes)
    after bytes =
        let t = insert_bytes width s l m.bytes in
        sym (in_parts s width not-zero l m.bytes bytes m.whole
        ∙ then-success t (insert_bytes width s t.library bytes) k.used (ap (λ (u : Turn ℕ). u.answer) m.is)
        ∙ ap (λ (u : Turn ℕ). insert_bytes width s u.library bytes) m.is)

    -- and then another part, whose marks are all taken
    pub more : {next : Library} → MoreRead width s k next → MoreRead width s l next
    more q = record {
      bytes = m.bytes ++ q.bytes;
      whole = whole_append width not-zero m.bytes q.bytes m.whole q.whole;
      is = sym (after q.bytes) ∙ q.is;
    }

    -- or one that is turned away
    pub stopped : {next : Library} (e : Refusal) → StopRead width s k e next → MarksRead width s l (Err e) next
    stopped {next} e r = record { file = some (m.bytes ++ r.bytes); is = subst (λ (t : Turn ℕ). Inserts t (Err e) next) (after r.bytes) r.is }

  -- the file cannot be read to its end: the rows in use are as many as before
  pub unread : (l k : Library) → MoreRead width s l k → (r : Result ℕ Refusal) → inserted r ≡ refused 13
      → MarksRead width s l r (record { keys = k.keys; ids = k.ids; xs = k.xs; ys = k.ys; zs = k.zs; used = l.used })
  unfolding space
  unread l k m r e = record {
    file = none;
    is = record { answers = e; used = refl; room = ap (λ (t : Turn ℕ). space t.library) (sym m.is) ∙ bytes-space width s l m.bytes };
  }

  -- the end of the file, or none
  module _ (l k : Library) (m : MoreRead width s l k) (next : Result ℕ ReadError) where
    pub ended : (r : Result ℕ Refusal) → inserted r ≡ marks_answer next k.used → is_err r ≡ false → MarksRead width s l r k
    unfolding marks_answer
    ended (Err x) e h = absurd cc
    ended (Ok n) e h = go (all_came next) e
      where
        go : (b : Bool) → inserted (Ok n) ≡ cond b (success k.used) (refused 13) → MarksRead width s l (Ok n) k
        go true f = record { file = some m.bytes; is = record { answers = f ∙ ap (λ (t : Turn ℕ). t.answer) (sym m.is); library-is = ap (λ (t : Turn ℕ). t.library) (sym m.is) } }
        go false f = no 13 n (sym f)

    pub not-ended : (r : Result ℕ Refusal) → inserted r ≡ marks_answer next k.used → is_err r ≡ true → inserted r ≡ refused 13
    unfolding marks_answer
    not-ended (Ok n) e h = absurd cc
    not-ended (Err x) e h = go (all_came next) e
      where
        go : (b : Bool) → inserted (Err x) ≡ cond b (success k.used) (refused 13) → inserted (Err x) ≡ refused 13
        go true f = no _ _ f
        go false f = f

  -- a part whose marks were all taken
  pub part : (l k : Library) (bytes : List ℕ) (n : ℕ) → Gives (insert_bytes width s l bytes) (success n) k → MoreRead width s l k
  part l k bytes n g = record {
    bytes = bytes;
    whole = stored_whole s width l bytes n (sym g.answers);
    is = same (insert_bytes width s l bytes) g (bytes-used width s l bytes n (sym g.answers));
  }
    where
      same : (t : Turn ℕ) → Gives t (success n) k → t.library.used ≡ n → t ≡ record { library = k; answer = success k.used }
      same t q u = rw (q.library-is, u, q.answers)

  -- a part, whatever inserting its marks answered
  pub parted : (l k : Library) (bytes : List ℕ) (came asked : ℕ) (r : Result ℕ Refusal)
      → Inserts (insert_bytes width s l bytes) r k → PartRead width s l (part_of came asked r) k
  unfolding part_of
  parted l k bytes came asked (Ok n) g = part l k bytes n g
  parted l k bytes came asked (Err e) g = record { bytes = bytes; is = g }
