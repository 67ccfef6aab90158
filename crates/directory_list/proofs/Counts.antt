-- The counts of a directory that matches the rows are those of the rows' containers.
-- Assumes nothing.
use Prim.Native.Nat.{ℕ, zero, suc, ◌+◌, ◌≤◌}
use native.Mathlib.Omega.{arith}
use mathlib.Core.Path.{◌≡◌, refl, sym, ap, ◌∙◌, subst}
use mathlib.Core.List.{List, [], ◌∷◌, map}
use lib.ListN.{length, take, drop, length-drop}
use Rattle.basics.proofs.Lists.{map-tab, tab-take}
use Rattle.grid_search.specs.declared.GridSearch.{GridSearch}
use Rattle.table.specs.Rows.{run, key_in}
use Rattle.table.specs.Library.{Library, table}
use Rattle.table.proofs.Libraries.{table-keys}
use Rattle.rows.proofs.Check.{whole, checked}
use Rattle.listing.specs.Posts.{Runs}
use Rattle.directory.specs.declared.Entry.{Entry}
use Rattle.directory.specs.Entries.{count_of, entries_from, directory_of}
use Rattle.directory.specs.Directory.{Directory, entry_at, entries}
use Rattle.directory.proofs.Entries.{entries-front}
use Rattle.directory.proofs.Passing.{Passing, place-room}

-- of the entries of rows with these keys, the first of which is row n: by the rows behind the first container's
abbrev Follow : ℕ → List ℕ → Type 0
Follow n ks = Runs (map count_of (entries_from n ks)) ks

follow_none : (n : ℕ) → Follow n []
unfolding entries_from
follow_none n = refl

follow_next : (m : ℕ) → ((n : ℕ) (ks : List ℕ) → length ks ≤ m → Follow n ks) → (n : ℕ) (ks : List ℕ) → length ks ≤ suc m → Follow n ks
follow_next m rest n [] h = follow_none n
follow_next m rest n (k ∷ ks) h =
    subst (λ (es : List Entry). Runs (map count_of es) (k ∷ ks)) (sym (entries-front n k ks))
    (refl, rest (n + suc (run k ks)) (drop (run k ks) ks) (omega (arith, length-drop (run k ks) ks)))

follow : (m n : ℕ) (ks : List ℕ) → length ks ≤ m → Follow n ks
follow zero n [] h = follow_none n
follow zero n (k ∷ ks) h = absurd (omega arith)
follow (suc m) n ks h = follow_next m (follow m) n ks h

of_directory : (l : Library) → Runs (map count_of (directory_of (table l))) (map key_in (table l))
unfolding directory_of
of_directory l = follow (length (map key_in (table l))) 0 (map key_in (table l)) (omega arith)

entries-counts : (d : Directory) → d.used ≤ length d.counts → map count_of (entries d) ≡ take d.used d.counts
unfolding entries
entries-counts d h = map-tab count_of d.used (entry_at d) ∙ tab-take d.used d.counts 0 h

pub counted : {s : GridSearch} {l : Library} {d : Directory} → Passing s l d → Runs (take d.used d.counts) (take l.used l.keys)
counted {s} {l} {d} p =
    let room = (place-room d p.places-sound).1.1.0 in
    let counts : map count_of (directory_of (table l)) ≡ take d.used d.counts = ap (map count_of) (sym p.entries-are) ∙ entries-counts d room in
    let keys : map key_in (table l) ≡ take l.used l.keys = table-keys l (checked (whole s l p.library-passes)).room.0 in
    subst (λ (ks : List ℕ). Runs (take d.used d.counts) ks) keys (subst (λ (cs : List ℕ). Runs cs (map key_in (table l))) counts (of_directory l))
