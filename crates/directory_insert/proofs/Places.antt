-- The three lists of a directory: firsts that move up by one, one more row in each list, and the entries that the lists hold.
-- Assumes nothing.
use Prim.Native.Nat.{ℕ, zero, suc, ◌+◌, ◌-◌, ◌≤◌, ◌<◌}
use native.Mathlib.Nat.{le_of_suc-le-suc, not-suc-le-zero, suc-add, zero-add}
use native.Mathlib.Numerals.{add-one}
use borrow.Rule.Slice.PartMut.{put_mid}
use native.Mathlib.Omega.{arith}
use mathlib.Core.Path.{◌≡◌, refl, sym, ap, ap₂, ◌∙◌}
use mathlib.Core.Bool.{true, false}
use mathlib.Core.List.{List, [], ◌∷◌, ◌++◌, map}
use lib.Dec.{ltb}
use lib.ListN.{length, get_or, take, drop, set, length-map, length-set}
use lib.Seq.{get_or-take, get_or-set_other, set-get_or}
use borrow.Author.Tests.{eqb-true}
use Rattle.basics.specs.Lists.{over}
use Rattle.basics.proofs.Bools.{by_test, clash}
use Rattle.basics.proofs.Lists.{map-drop}
use Rattle.table.specs.Rows.{lead}
use Rattle.table.specs.Posts.{opened}
use Rattle.table.proofs.First.{lead-most}
use Rattle.table.proofs.Stores.{opened_parts, set_parts}
use Rattle.directory.specs.declared.Entry.{Entry}
use Rattle.directory.specs.Entries.{entry, key_of, first_of, count_of}
use Rattle.directory_insert.specs.Posts.{later, entered, found, stepped}
use Rattle.directory_insert.proofs.Entered.{length-entered}

-- ---- entries of a list from an index on, each one more

stepped-front : (n : ℕ) (l : List ℕ) → n ≤ length l → map suc (take n l) ++ drop n l ≡ stepped 0 n l
unfolding stepped
stepped-front zero [] k = refl
stepped-front (suc n) [] k = absurd (not-suc-le-zero k)
stepped-front zero (x ∷ l) k = refl
stepped-front (suc n) (x ∷ l) k = ap (λ (r : List ℕ). suc x ∷ r) (stepped-front n l (le_of_suc-le-suc k))

pub stepped-all : (l : List ℕ) → stepped 0 (length l) l ≡ map suc l
unfolding stepped
stepped-all [] = refl
stepped-all (x ∷ l) = ap (λ (r : List ℕ). suc x ∷ r) (stepped-all l)

-- after the part from an index up to another has moved up
stepped-part : (at m : ℕ) (l : List ℕ) → at + m ≤ length l → put_mid at m l (map suc (take m (drop at l))) ≡ stepped at (at + m) l
unfolding stepped
stepped-part zero m l k = rw zero-add (stepped-front m l (omega arith))
stepped-part (suc at) m [] k = absurd (omega arith)
stepped-part (suc at) m (x ∷ l) k = rw suc-add (ap (λ (r : List ℕ). x ∷ r) (stepped-part at m l (omega arith)))

pub moved_up : (at n : ℕ) (l : List ℕ) {s : List ℕ} → at ≤ n → n ≤ length l → s ≡ map suc (take (n - at) (drop at l)) → put_mid at (n - at) l s ≡ stepped at n l
moved_up at n l h k e =
    let all : at + (n - at) ≡ n = omega arith in
    rw e (stepped-part at (n - at) l (omega arith)) ∙ ap (λ (m : ℕ). stepped at m l) all

-- those after an index, by parts
stepped_after : (at n : ℕ) (l : List ℕ) → at < n → n ≤ length l → (take at (take n l) ++ get_or (take n l) at 0 ∷ map suc (drop (suc at) (take n l))) ++ drop n l ≡ stepped (suc at) n l
unfolding stepped
stepped_after at zero l h k = absurd (not-suc-le-zero h)
stepped_after at (suc n) [] h k = absurd (not-suc-le-zero k)
stepped_after zero (suc n) (x ∷ l) h k = ap (λ (r : List ℕ). x ∷ r) (stepped-front n l (le_of_suc-le-suc k))
stepped_after (suc at) (suc n) (x ∷ l) h k = ap (λ (r : List ℕ). x ∷ r) (stepped_after at n l (le_of_suc-le-suc h) (le_of_suc-le-suc k))

-- those from an index on, and one put in before them
stepped-opened : (at n v : ℕ) (l : List ℕ) → at ≤ n → n < length l → (take at (take n l) ++ v ∷ map suc (drop at (take n l))) ++ drop (suc n) l ≡ opened at n v (stepped at n l)
unfolding stepped opened
stepped-opened at n v [] h k = absurd (not-suc-le-zero k)
stepped-opened zero zero v (x ∷ l) h k = refl
stepped-opened zero (suc n) v (x ∷ l) h k = ap (λ (r : List ℕ). v ∷ r) (stepped-opened zero n (suc x) l (omega arith) (le_of_suc-le-suc k))
stepped-opened (suc at) zero v (x ∷ l) h k = absurd (not-suc-le-zero h)
stepped-opened (suc at) (suc n) v (x ∷ l) h k = ap (λ (r : List ℕ). x ∷ r) (stepped-opened at n v l (le_of_suc-le-suc h) (le_of_suc-le-suc k))

stepped-set : (i n : ℕ) (s : List ℕ) → i < n → stepped (suc i) n (set s i (suc (get_or s i 0))) ≡ stepped i n s
unfolding stepped
stepped-set i n [] h = refl
stepped-set i zero (x ∷ s) h = absurd (not-suc-le-zero h)
stepped-set zero (suc n) (x ∷ s) h = refl
stepped-set (suc i) (suc n) (x ∷ s) h = ap (λ (r : List ℕ). x ∷ r) (stepped-set i n s (le_of_suc-le-suc h))

stepped-next : (i n : ℕ) (s : List ℕ) → i < n → stepped (i + 1) n (set s i (get_or s i 0 + 1)) ≡ stepped i n s
stepped-next i n s h = rw (add-one, add-one) (stepped-set i n s h)

stepped_end : (i n : ℕ) (s : List ℕ) → n ≤ i → stepped i n s ≡ s
unfolding stepped
stepped_end i n [] h = refl
stepped_end zero zero (x ∷ s) h = refl
stepped_end zero (suc n) (x ∷ s) h = absurd (not-suc-le-zero h)
stepped_end (suc i) zero (x ∷ s) h = refl
stepped_end (suc i) (suc n) (x ∷ s) h = ap (λ (r : List ℕ). x ∷ r) (stepped_end i n s (le_of_suc-le-suc h))

-- the loop: those below i are done, and the others are as they were
pub record Stepping (from n i : ℕ) (first s : List ℕ) : Type 0 where
  pub long : length s ≡ length first
  pub rest : (j : ℕ) → i ≤ j → get_or s j 0 ≡ get_or first j 0
  pub same_in_the_end : stepped i n s ≡ stepped from n first

pub stepping_start : {from n : ℕ} (s : List ℕ) → Stepping from n from s s
stepping_start s = record { long = refl; rest = λ j h. refl; same_in_the_end = refl }

module _ {from n i : ℕ} {first s : List ℕ} (g : Stepping from n i first s) where
  pub stepping_next : i < n → Stepping from n (i + 1) first (set s i (get_or s i 0 + 1))
  stepping_next h = record {
    long = length-set s i (get_or s i 0 + 1) ∙ g.long;
    rest = λ j k. get_or-set_other s i j (get_or s i 0 + 1) 0 (λ e. omega arith) ∙ g.rest j (omega arith);
    same_in_the_end = stepped-next i n s h ∙ g.same_in_the_end;
  }

  pub stepping_end : n ≤ i → s ≡ stepped from n first
  stepping_end h = sym (stepped_end i n s h) ∙ g.same_in_the_end

-- ---- one more row of a key, by the place of its container

found_at : (k : ℕ) (ks : List ℕ) → found k ks ≡ true → (lead k ks < length ks) × (get_or ks (lead k ks) 0 ≡ k)
unfolding found lead
found_at k [] h = clash h refl
found_at k (j ∷ ks) h =
    by_test (ltb j k)
    (λ e. rw e (let d = found_at k ks (rw e at h) in (omega (arith, d.0), d.1)))
    (λ e. rw e (omega arith, eqb-true j k (rw e at h)))

entered_new : (k n : ℕ) (es : List Entry) → found k (map key_of es) ≡ false
    → entered k n es ≡ take (lead k (map key_of es)) es ++ entry k (get_or (map first_of es) (lead k (map key_of es)) n) 1 ∷ map later (drop (lead k (map key_of es)) es)
unfolding entered found lead
entered_new k n [] h = refl
entered_new k n (e ∷ es) h =
    by_test (ltb e.key k) (λ l. rw l (ap (λ (r : List Entry). e ∷ r) (entered_new k n es (rw l at h))))
    (λ l. rw (l, (rw l at h)))

entered_old : (k n : ℕ) (es : List Entry) → found k (map key_of es) ≡ true
    → entered k n es ≡ take (lead k (map key_of es)) es
    ++ entry k (get_or (map first_of es) (lead k (map key_of es)) 0) (suc (get_or (map count_of es) (lead k (map key_of es)) 0)) ∷ map later (drop (suc (lead k (map key_of es))) es)
unfolding entered found lead
entered_old k n [] h = clash h refl
entered_old k n (e ∷ es) h =
    by_test (ltb e.key k) (λ l. rw l (ap (λ (r : List Entry). e ∷ r) (entered_old k n es (rw l at h))))
    (λ l. rw (l, (rw l at h)))

-- each field of entries around one, and of those after it, which are one later
around : (f : Entry → ℕ) (i : ℕ) (e : Entry) (es rest : List Entry) → map f (take i es ++ e ∷ rest) ≡ take i (map f es) ++ f e ∷ map f rest
around f zero e es rest = refl
around f (suc i) e [] rest = refl
around f (suc i) e (x ∷ es) rest = ap (λ (r : List ℕ). f x ∷ r) (around f i e es rest)

keys-later : (es : List Entry) → map key_of (map later es) ≡ map key_of es
keys-later [] = refl
keys-later (e ∷ es) = ap (λ (r : List ℕ). e.key ∷ r) (keys-later es)

counts-later : (es : List Entry) → map count_of (map later es) ≡ map count_of es
counts-later [] = refl
counts-later (e ∷ es) = ap (λ (r : List ℕ). e.count ∷ r) (counts-later es)

firsts-later : (es : List Entry) → map first_of (map later es) ≡ map suc (map first_of es)
firsts-later [] = refl
firsts-later (e ∷ es) = ap (λ (r : List ℕ). suc e.first ∷ r) (firsts-later es)

-- ---- what one more row leaves in a list whose front holds a field of the entries

module _ (k n used : ℕ) (es : List Entry) (len : length es ≡ used) where
  abbrev pub place : ℕ
  place = lead k (map key_of es)

  pub place-most : place ≤ used
  place-most = omega (arith, lead-most k (map key_of es), length-map es key_of)

  -- a place is opened
  module _ (h : found k (map key_of es) ≡ false) where
    pub new_length : length (entered k n es) ≡ suc used
    new_length = length-entered k n es ∙ rw h (ap suc len)

    field_new : (f : Entry → ℕ) (l : List ℕ) → map f es ≡ take used l
        → over (map f (entered k n es)) l ≡ (take place (take used l) ++ f (entry k (get_or (map first_of es) place n) 1) ∷ map f (map later (drop place es))) ++ drop (suc used) l
    unfolding over
    field_new f l m =
        ap₂ (λ (a b : List ℕ). a ++ b)
        (ap (map f) (entered_new k n es h) ∙ around f place _ es (map later (drop place es))
        ∙ ap (λ (a : List ℕ). take place a ++ f (entry k (get_or (map first_of es) place n) 1) ∷ map f (map later (drop place es))) m)
        (ap (λ (i : ℕ). drop i l) (length-map (entered k n es) f ∙ new_length))

    pub new_keys : (l : List ℕ) → map key_of es ≡ take used l → used < length l → over (map key_of (entered k n es)) l ≡ opened place used k l
    new_keys l m r =
        field_new key_of l m
        ∙ ap (λ (a : List ℕ). (take place (take used l) ++ k ∷ a) ++ drop (suc used) l) (keys-later (drop place es) ∙ map-drop key_of place es ∙ ap (drop place) m)
        ∙ opened_parts place used k l place-most r

    pub new_counts : (l : List ℕ) → map count_of es ≡ take used l → used < length l → over (map count_of (entered k n es)) l ≡ opened place used 1 l
    new_counts l m r =
        field_new count_of l m
        ∙ ap (λ (a : List ℕ). (take place (take used l) ++ 1 ∷ a) ++ drop (suc used) l) (counts-later (drop place es) ∙ map-drop count_of place es ∙ ap (drop place) m)
        ∙ opened_parts place used 1 l place-most r

    pub new_firsts : (l : List ℕ) → map first_of es ≡ take used l → used < length l → over (map first_of (entered k n es)) l ≡ opened place used (get_or (take used l) place n) (stepped place used l)
    new_firsts l m r =
        field_new first_of l m
        ∙ ap₂ (λ (a : List ℕ) (w : ℕ). (take place (take used l) ++ w ∷ a) ++ drop (suc used) l)
        (firsts-later (drop place es) ∙ ap (map suc) (map-drop first_of place es ∙ ap (drop place) m)) (ap (λ (a : List ℕ). get_or a place n) m)
        ∙ stepped-opened place used (get_or (take used l) place n) l place-most r

  -- the container has a place
  module _ (h : found k (map key_of es) ≡ true) where
    pub place_there : place < used
    place_there = omega (arith, (found_at k (map key_of es) h).0, length-map es key_of)

    pub old_length : length (entered k n es) ≡ used
    old_length = length-entered k n es ∙ rw h len

    abbrev grown : Entry
    grown = entry k (get_or (map first_of es) place 0) (suc (get_or (map count_of es) place 0))

    field_old : (f : Entry → ℕ) (l : List ℕ) → map f es ≡ take used l
        → over (map f (entered k n es)) l ≡ (take place (take used l) ++ f grown ∷ map f (map later (drop (suc place) es))) ++ drop used l
    unfolding over
    field_old f l m =
        ap₂ (λ (a b : List ℕ). a ++ b)
        (ap (map f) (entered_old k n es h) ∙ around f place grown es (map later (drop (suc place) es)) ∙ ap (λ (a : List ℕ). take place a ++ f grown ∷ map f (map later (drop (suc place) es))) m)
        (ap (λ (i : ℕ). drop i l) (length-map (entered k n es) f ∙ old_length))

    pub old_keys : (l : List ℕ) → map key_of es ≡ take used l → used ≤ length l → over (map key_of (entered k n es)) l ≡ l
    old_keys l m r =
        let at_place : get_or l place 0 ≡ k = sym (get_or-take used l place 0 place_there) ∙ ap (λ (a : List ℕ). get_or a place 0) (sym m) ∙ (found_at k (map key_of es) h).1 in
        field_old key_of l m
        ∙ ap (λ (a : List ℕ). (take place (take used l) ++ k ∷ a) ++ drop used l) (keys-later (drop (suc place) es) ∙ map-drop key_of (suc place) es ∙ ap (drop (suc place)) m)
        ∙ set_parts place used k l place_there r
        ∙ ap (set l place) (sym at_place) ∙ set-get_or l place 0

    pub old_counts : (l : List ℕ) → map count_of es ≡ take used l → used ≤ length l → over (map count_of (entered k n es)) l ≡ set l place (get_or l place 0 + 1)
    old_counts l m r =
        let here : suc (get_or (map count_of es) place 0) ≡ get_or l place 0 + 1 =
        ap suc (ap (λ (a : List ℕ). get_or a place 0) m ∙ get_or-take used l place 0 place_there)
        ∙ sym (add-one (get_or l place 0)) in
        field_old count_of l m
        ∙ ap₂ (λ (a : List ℕ) (w : ℕ). (take place (take used l) ++ w ∷ a) ++ drop used l) (counts-later (drop (suc place) es) ∙ map-drop count_of (suc place) es ∙ ap (drop (suc place)) m) here
        ∙ set_parts place used (get_or l place 0 + 1) l place_there r

    pub old_firsts : (l : List ℕ) → map first_of es ≡ take used l → used ≤ length l → over (map first_of (entered k n es)) l ≡ stepped (place + 1) used l
    old_firsts l m r =
        field_old first_of l m
        ∙ ap₂ (λ (a : List ℕ) (w : ℕ). (take place (take used l) ++ w ∷ a) ++ drop used l)
        (firsts-later (drop (suc place) es) ∙ ap (map suc) (map-drop first_of (suc place) es ∙ ap (drop (suc place)) m)) (ap (λ (a : List ℕ). get_or a place 0) m)
        ∙ stepped_after place used l place_there r
        ∙ ap (λ (i : ℕ). stepped i used l) (sym (add-one place))
