-- Laws of a directory as it is lent: the entries that the lists hold, and what writing entries leaves in them.
-- Assumes nothing.
use Prim.Native.Nat.{ℕ, suc, ◌+◌, ◌^◌, ◌≤◌, ◌<◌}
use native.Mathlib.Numerals.{add-one}
use native.Mathlib.Omega.{arith}
use mathlib.Core.Path.{◌≡◌, refl, sym, ap, ap₂, ◌∙◌}
use mathlib.Core.Bool.{Bool, true, false}
use mathlib.Core.List.{List, [], ◌∷◌, ◌++◌, map}
use lib.ListN.{length, get_or, take, set, length-map}
use lib.Seq.{take-append_seam}
use Rattle.basics.specs.Lists.{over}
use Rattle.basics.proofs.Lists.{map-tab, tab-take}
use Rattle.table.specs.Rows.{lead}
use Rattle.table.specs.Posts.{opened}
use Rattle.table.proofs.Libraries.{length_over, over-front, over-over}
use Rattle.directory.specs.declared.Entry.{Entry}
use Rattle.directory.specs.Entries.{key_of, first_of, count_of}
use Rattle.directory.specs.Directory.{Directory, directory, entry_at, entries}
use Rattle.directory.specs.Posts.{PlaceRoom, Fronted, Written}
use Rattle.directory.proofs.Passing.{entries-count, entries-keys}
use Rattle.directory_insert.specs.Posts.{entered, found, stepped, write_places, Enters}
use Rattle.directory_insert.proofs.Places.{place-most, new_length, new_keys, new_firsts, new_counts, place_there, old_length, old_keys, old_firsts, old_counts}

-- ---- the entries that the lists hold: each field of them is the front of its list

module _ (d : Directory) where
  entries-firsts : d.used ≤ length d.firsts → map first_of (entries d) ≡ take d.used d.firsts
  unfolding entries
  entries-firsts h = map-tab first_of d.used (entry_at d) ∙ tab-take d.used d.firsts 0 h

  entries-counts : d.used ≤ length d.counts → map count_of (entries d) ≡ take d.used d.counts
  unfolding entries
  entries-counts h = map-tab count_of d.used (entry_at d) ∙ tab-take d.used d.counts 0 h

-- ---- what writing entries leaves

entries_over : (es : List Entry) (a b c : List ℕ) → entries (directory (map key_of es ++ a) (map first_of es ++ b) (map count_of es ++ c) (length es)) ≡ es
unfolding entries
entries_over [] a b c = refl
entries_over (e ∷ es) a b c = ap (λ (r : List Entry). e ∷ r) (entries_over es a b c)

-- what is written is what is then in use
pub entries-write : (es : List Entry) (d : Directory) → entries (write_places es d) ≡ es
unfolding write_places over
entries-write es d = entries_over es _ _ _

pub places-used : (es : List Entry) (d : Directory) → (write_places es d).used ≡ length es
unfolding write_places
places-used es d = refl

-- the entries that stand there
pub write_same : (d : Directory) → PlaceRoom d d.used → write_places (entries d) d ≡ d
unfolding write_places
write_same d h = λ i. record {
  keys = front key_of d.keys (entries-keys d h.0) i;
  firsts = front first_of d.firsts (entries-firsts d h.1.0) i;
  counts = front count_of d.counts (entries-counts d h.1.1.0) i;
  used = entries-count d i;
}
  where
    front : (f : Entry → ℕ) (l : List ℕ) → map f (entries d) ≡ take d.used l → over (map f (entries d)) l ≡ l
    front f l e = over-front (map f (entries d)) l (e ∙ ap (λ (n : ℕ). take n l) (sym (length-map (entries d) f ∙ entries-count d)))

-- and again, as many or more
pub write-write : (es more : List Entry) (d : Directory) → length es ≤ length more → write_places more (write_places es d) ≡ write_places more d
unfolding write_places
write-write es more d h = λ i. record { keys = again key_of d.keys i; firsts = again first_of d.firsts i; counts = again count_of d.counts i; used = length more }
  where
    again : (f : Entry → ℕ) (l : List ℕ) → over (map f more) (over (map f es) l) ≡ over (map f more) l
    again f l = over-over (map f es) (map f more) l (omega (arith, length-map es f, length-map more f))

-- in as many places, where there is room
abbrev pub AsLong : Directory → Directory → Type 0
AsLong d after = (length after.keys ≡ length d.keys) × (length after.firsts ≡ length d.firsts) × (length after.counts ≡ length d.counts)

pub as-long : (es : List Entry) (d : Directory) → PlaceRoom d (length es) → AsLong d (write_places es d)
unfolding write_places
as-long es d h = (kept key_of d.keys h.0, kept first_of d.firsts h.1.0, kept count_of d.counts h.1.1.0)
  where
    kept : (f : Entry → ℕ) (l : List ℕ) → length es ≤ length l → length (over (map f es) l) ≡ length l
    kept f l h = length_over (map f es) l (omega (arith, length-map es f))

-- they stand at the front of the lists
pub write-written : (es : List Entry) (d : Directory) → PlaceRoom d (length es) → Written es d (write_places es d)
unfolding write_places over
write-written es d h = record { count = refl; keys = front key_of d.keys h.0; firsts = front first_of d.firsts h.1.0; counts = front count_of d.counts h.1.1.0 }
  where
    front : (f : Entry → ℕ) (l : List ℕ) → length es ≤ length l → Fronted (map f es) l (over (map f es) l)
    front f l h = record { front = sym (take-append_seam (map f es) _); long = length_over (map f es) l (omega (arith, length-map es f)) }

-- ---- one more row

module _ (key n : ℕ) (d : Directory) (x : Enters key n d) {at : ℕ} (e : at ≡ lead key (take d.used d.keys)) where
  keys_in_lem : map key_of (entries d) ≡ take d.used d.keys
  keys_in_lem = entries-keys d x.room.0

  at_place : lead key (map key_of (entries d)) ≡ at
  at_place = rw keys_in_lem (sym e)

  found-is : {b : Bool} → found key (take d.used d.keys) ≡ b → found key (map key_of (entries d)) ≡ b
  found-is y = rw keys_in_lem y

  pub enter-most : at ≤ d.used
  enter-most = omega (arith, place-most key n d.used (entries d) (entries-count d), at_place)

  -- firsts and counts are small enough for one more
  pub enter-small : (i : ℕ) → i < d.used → get_or d.firsts i 0 + 1 < 2 ^ 64
  enter-small i h = omega (arith, (x.small i h).0, x.few)

  -- its container has a place
  module _ (y : found key (take d.used d.keys) ≡ true) where
    pub enter_there : at < d.used
    enter_there = omega (arith, place_there key n d.used (entries d) (entries-count d) (found-is y), at_place)

    pub enter-count : get_or d.counts at 0 + 1 < 2 ^ 64
    enter-count = omega (arith, (x.small at enter_there).1, x.few)

    pub entered_there : {firsts : List ℕ} → firsts ≡ stepped (at + 1) d.used d.firsts
        → directory d.keys firsts (set d.counts at (get_or d.counts at 0 + 1)) d.used ≡ write_places (entered key n (entries d)) d
    unfolding write_places
    entered_there g = sym (λ i. record {
      keys = old_keys key n d.used (entries d) (entries-count d) (found-is y) d.keys keys_in_lem x.room.0 i;
      firsts = (old_firsts key n d.used (entries d) (entries-count d) (found-is y) d.firsts (entries-firsts d x.room.1.0) x.room.1.0
          ∙ ap (λ (p : ℕ). stepped (p + 1) d.used d.firsts) at_place ∙ sym g) i;
      counts = (old_counts key n d.used (entries d) (entries-count d) (found-is y) d.counts (entries-counts d x.room.1.1.0) x.room.1.1.0
          ∙ ap (λ (p : ℕ). set d.counts p (get_or d.counts p 0 + 1)) at_place) i;
      used = old_length key n d.used (entries d) (entries-count d) (found-is y) i;
    })

  -- it has none
  module _ (y : found key (take d.used d.keys) ≡ false) where
    longer : length (entered key n (entries d)) ≡ suc d.used
    longer = new_length key n d.used (entries d) (entries-count d) (found-is y)

    pub enter-room : PlaceRoom d (d.used + 1)
    enter-room = omega (arith, longer, x.enough)

    pub entered_new_place : {first : ℕ} {moved keys firsts counts : List ℕ} → first ≡ get_or (take d.used d.firsts) at n → moved ≡ stepped at d.used d.firsts
        → keys ≡ opened at d.used key d.keys → firsts ≡ opened at d.used first moved → counts ≡ opened at d.used 1 d.counts
        → directory keys firsts counts (d.used + 1) ≡ write_places (entered key n (entries d)) d
    unfolding write_places
    entered_new_place v m k f c = sym (λ i. record {
      keys = (new_keys key n d.used (entries d) (entries-count d) (found-is y) d.keys keys_in_lem (omega (arith, enter-room))
          ∙ ap (λ (p : ℕ). opened p d.used key d.keys) at_place ∙ sym k) i;
      firsts = (new_firsts key n d.used (entries d) (entries-count d) (found-is y) d.firsts (entries-firsts d x.room.1.0) (omega (arith, enter-room))
          ∙ ap (λ (p : ℕ). opened p d.used (get_or (take d.used d.firsts) p n) (stepped p d.used d.firsts)) at_place
          ∙ ap₂ (λ (w : ℕ) (l : List ℕ). opened at d.used w l) (sym v) (sym m) ∙ sym f) i;
      counts = (new_counts key n d.used (entries d) (entries-count d) (found-is y) d.counts (entries-counts d x.room.1.1.0) (omega (arith, enter-room))
          ∙ ap (λ (p : ℕ). opened p d.used 1 d.counts) at_place ∙ sym c) i;
      used = (longer ∙ sym (add-one d.used)) i;
    })
