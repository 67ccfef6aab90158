-- A file of marks can be read in parts: where a part is whole records, the marks of the file are those of the part and then those
-- of the rest, and what is left over is the rest's.
-- Assumes nothing.
use Prim.Native.Nat.{ℕ, zero, suc, ◌+◌, ◌*◌, ◌/◌, ◌%◌, ◌≤◌, ◌<◌}
use native.Mathlib.Nat.{zero-add, suc-add, add-zero, suc-mul, add-mul, mul-le-mul_right, zero-mul, div_self, mod_self, div-mul-le_self, div-add-mod', mul-add-div_right, mul-add-mod_self_right}
use native.Mathlib.Omega.{arith}
use mathlib.Core.Path.{◌≡◌, refl, sym, ap, ap₂, ◌∙◌, subst}
use mathlib.Core.Bool.{true, false, not}
use mathlib.Core.Logic.{◌⊎◌, inl, inr}
use mathlib.Core.Option.{Option, none, some, some-ne-none}
use mathlib.Core.List.{List, [], ◌∷◌, ◌++◌}
use lib.Dec.{eqb}
use lib.ListN.{length, take, drop, length-append, length-drop}
use lib.Seq.{take-length, drop-append-le, take-append-le, drop-append-add}
use borrow.Author.Tests.{eq-eqb, eqb-true}
use Rattle.basics.proofs.Bools.{which}
use Rattle.basics.specs.Lists.{tab}
use Rattle.basics.specs.Refusals.{Answer, refused, success, refuse, fault}
use Rattle.grid_search.specs.declared.GridSearch.{GridSearch}
use Rattle.table.specs.Library.{Library}
use Rattle.rows.specs.Turn.{Turn}
use Rattle.loading.specs.Loading.{unless, records_of, insert_record, and_then, insert_all, leftover, finish, insert_bytes}

-- ---- tables

tab-same : {A : Type 0} (n : ℕ) (f g : ℕ → A) → ((i : ℕ) → i < n → f i ≡ g i) → tab n f ≡ tab n g
tab-same zero f g e = refl
tab-same (suc n) f g e = ap₂ (λ (x : _) (l : List _). x ∷ l) (e 0 (omega arith)) (tab-same n (λ i. f (suc i)) (λ i. g (suc i)) λ i h. e (suc i) (omega arith))

tab-append : {A : Type 0} (m n : ℕ) (f : ℕ → A) → tab (m + n) f ≡ tab m f ++ tab n (λ i. f (m + i))
tab-append zero n f = rw zero-add (tab-same n f (λ i. f (0 + i)) λ i h. rw zero-add)
tab-append {A} (suc m) n f =
    rw suc-add
    (ap (λ (l : List A). f 0 ∷ l)
    (tab-append m n (λ i. f (suc i)) ∙ ap (λ (l : List A). tab m (λ i. f (suc i)) ++ l) (tab-same n (λ i. f (suc (m + i))) (λ i. f (suc m + i)) λ i h. ap f (sym (suc-add m i)))))

-- ---- records

-- a whole record ends where the bytes end, or before
pub record_inside : (width n i : ℕ) → i < n / width → i * width + width ≤ n
record_inside width n i h =
    let all : n / width * width ≤ n = div-mul-le_self n width in
    let upto : suc i * width ≤ n / width * width = mul-le-mul_right width h in
    rw (sym (suc-mul i width)) (omega arith)

-- bytes that are whole records
whole_length : (width : ℕ) (a : List ℕ) → length a % width ≡ 0 → length a ≡ length a / width * width
whole_length width a e = sym (div-add-mod' (length a) width) ∙ ap (λ (r : ℕ). length a / width * width + r) e ∙ add-zero (length a / width * width)

module _ (width : ℕ) (some_width : 0 < width) (a b : List ℕ) (e : length a % width ≡ 0) where
  record_front : (i : ℕ) → i < length a / width → take width (drop (i * width) (a ++ b)) ≡ take width (drop (i * width) a)
  record_front i h =
      let inside : i * width + width ≤ length a = record_inside width (length a) i h in
      let start : i * width ≤ length a = omega arith in
      let long : width ≤ length (drop (i * width) a) = rw length-drop (omega arith) in
      rw (drop-append-le (i * width) a b start, take-append-le width (drop (i * width) a) b long)

  record_back : (i : ℕ) → take width (drop ((length a / width + i) * width) (a ++ b)) ≡ take width (drop (i * width) b)
  record_back i =
      let past : (length a / width + i) * width ≡ length a + i * width = add-mul (length a / width) i width ∙ ap (λ (n : ℕ). n + i * width) (sym (whole_length width a e)) in
      ap (λ (n : ℕ). take width (drop n (a ++ b))) past ∙ ap (take width) (drop-append-add a b (i * width))

  records_append : records_of width (a ++ b) ≡ records_of width a ++ records_of width b
  unfolding records_of
  records_append =
      let n = length a / width in
      let many : length (a ++ b) / width ≡ n + length b / width =
      ap (λ (k : ℕ). k / width) (length-append a b ∙ ap (λ (k : ℕ). k + length b) (whole_length width a e)) ∙ mul-add-div_right some_width n (length b)
      in
      rw (many, tab-append n (length b / width) (λ i. take width (drop (i * width) (a ++ b))))
      (ap₂ (λ (l m : List (List ℕ)). l ++ m)
      (tab-same n (λ i. take width (drop (i * width) (a ++ b))) (λ i. take width (drop (i * width) a)) record_front)
      (tab-same (length b / width) (λ i. take width (drop ((n + i) * width) (a ++ b))) (λ i. take width (drop (i * width) b)) λ i h. record_back i))

  leftover-rest : leftover width (a ++ b) ≡ leftover width b
  unfolding leftover
  leftover-rest =
      let rest : length (a ++ b) % width ≡ length b % width =
      ap (λ (k : ℕ). k % width) (length-append a b ∙ ap (λ (k : ℕ). k + length b) (whole_length width a e)) ∙ mul-add-mod_self_right (length a / width) width (length b)
      in
      ap (λ (n : ℕ). fault (refuse 13 (not (eqb n 0)) ∷ [])) rest

  pub whole_append : length b % width ≡ 0 → length (a ++ b) % width ≡ 0
  whole_append f =
      ap (λ (k : ℕ). k % width) (length-append a b ∙ ap (λ (k : ℕ). k + length b) (whole_length width a e)) ∙ mul-add-mod_self_right (length a / width) width (length b) ∙ f

-- the first record, and those that are left
one_record : (width : ℕ) → 0 < width → (a : List ℕ) → length a ≡ width → records_of width a ≡ a ∷ []
unfolding records_of
one_record width w a e =
    rw (e, div_self w, zero-mul) (ap (λ (r : List ℕ). r ∷ []) (take_whole width a e))
  where
    take_whole : (n : ℕ) (b : List ℕ) → length b ≡ n → take n b ≡ b
    take_whole n b f = subst (λ (k : ℕ). take k b ≡ b) f (take-length b)

pub record_first : (width : ℕ) → 0 < width → (a left : List ℕ) → length a ≡ width → records_of width (a ++ left) ≡ a ∷ records_of width left
record_first width w a left e =
    records_append width w a left (ap (λ (k : ℕ). k % width) e ∙ mod_self width) ∙ ap (λ (l : List (List ℕ)). l ++ records_of width left) (one_record width w a e)

-- too few bytes for a record, or no width
pub no_more : (width : ℕ) (left : List ℕ) → length left / width ≡ 0 → records_of width left ≡ []
unfolding records_of
no_more width left e = rw e refl

-- ---- bytes left over

pub leftover-none : (width : ℕ) (a : List ℕ) → length a % width ≡ 0 → leftover width a ≡ none
unfolding leftover fault
leftover-none width a e = rw (eq-eqb (length a % width) 0 e)

leftover-whole : (width : ℕ) (a : List ℕ) → leftover width a ≡ none → length a % width ≡ 0
unfolding leftover fault
leftover-whole width a e = go (which (eqb (length a % width) 0))
  where
    go : (eqb (length a % width) 0 ≡ true) ⊎ (eqb (length a % width) 0 ≡ false) → length a % width ≡ 0
    go (inl t) = eqb-true (length a % width) 0 t
    go (inr f) = absurd (some-ne-none 13 (rw f at e))

-- ---- turns

-- a turn, then another, then a third: the first that is turned away is the last
then-then : (t u : Turn ℕ) (f : Library → Turn ℕ) (whole : Turn ℕ) (o : Answer ℕ) → t.answer ≡ o → whole ≡ and_then u u.answer (f u.library)
    → and_then t o whole ≡ and_then (and_then t o u) (and_then t o u).answer (f (and_then t o u).library)
unfolding and_then
then-then t u f whole (refused n) e w = rw e
then-then t u f whole (success n) e w = w

finish-none : (t : Turn ℕ) (o : Answer ℕ) → t.answer ≡ o → and_then t o (record { library = t.library; answer = t.answer }) ≡ t
unfolding and_then
finish-none t (refused n) e = refl
finish-none t (success n) e = refl

finish-then : (left : Option ℕ) (t u : Turn ℕ) (o : Answer ℕ) → t.answer ≡ o → finish left (and_then t o u) ≡ and_then t o (finish left u)
unfolding and_then finish
finish-then left t u (refused n) e = rw e
finish-then left t u (success n) e = refl

none_left : (left : Option ℕ) (t : Turn ℕ) (o : Answer ℕ) (n : ℕ) → t.answer ≡ o
    → (and_then t o (record { library = t.library; answer = unless left t.answer })).answer ≡ success n → left ≡ none
unfolding and_then unless
none_left left t (refused m) n a e = absurd (let z : ◌≡◌ {A = ℕ} 0 1 = cc in omega arith)
none_left none t (success m) n a e = refl
none_left (some k) t (success m) n a e = absurd (let z : ◌≡◌ {A = ℕ} 0 1 = cc in omega arith)

pub insert-append : {A : Type 0} (one : Library → A → Turn ℕ) (l : Library) (rs qs : List A)
    → insert_all one l (rs ++ qs) ≡ and_then (insert_all one l rs) (insert_all one l rs).answer (insert_all one (insert_all one l rs).library qs)
unfolding insert_all
insert-append {A} one l [] qs = none_then l qs
  where
    none_then : (k : Library) (ps : List A) → insert_all one k ps ≡ and_then (record { library = k; answer = success k.used }) (success k.used) (insert_all one k ps)
    none_then k ps = refl
insert-append one l (r ∷ rs) qs =
    let t = one l r in
    then-then t (insert_all one t.library rs) (λ k. insert_all one k qs) (insert_all one t.library (rs ++ qs)) t.answer refl (insert-append one t.library rs qs)

module _ (s : GridSearch) where
  pub bytes-are : (width : ℕ) (l : Library) (a : List ℕ) → insert_bytes width s l a ≡ finish (leftover width a) (insert_all (insert_record s) l (records_of width a))
  unfolding insert_bytes
  bytes-are width l a = refl

  -- no bytes are left over: the turn is that of the marks
  whole_records : (width : ℕ) (l : Library) (a : List ℕ) → length a % width ≡ 0 → insert_bytes width s l a ≡ insert_all (insert_record s) l (records_of width a)
  unfolding insert_bytes finish unless
  whole_records width l a e = rw (leftover-none width a e) (finish-none (insert_all (insert_record s) l (records_of width a)) (insert_all (insert_record s) l (records_of width a)).answer refl)

  -- bytes whose marks were all taken, with none left over, are whole records
  pub stored_whole : (width : ℕ) (l : Library) (a : List ℕ) (n : ℕ) → (insert_bytes width s l a).answer ≡ success n → length a % width ≡ 0
  unfolding insert_bytes finish
  stored_whole width l a n e =
      let t = insert_all (insert_record s) l (records_of width a) in
      leftover-whole width a (none_left (leftover width a) t t.answer n refl e)

  -- a part that is whole records, then the rest of the file
  pub in_parts : (width : ℕ) → 0 < width → (l : Library) (a b : List ℕ) → length a % width ≡ 0
      → insert_bytes width s l (a ++ b) ≡ and_then (insert_bytes width s l a) (insert_bytes width s l a).answer (insert_bytes width s (insert_bytes width s l a).library b)
  in_parts width w l a b e =
      let t = insert_all (insert_record s) l (records_of width a) in
      rw (
        bytes-are width l (a ++ b),
        leftover-rest width w a b e,
        records_append width w a b e,
        insert-append (insert_record s) l (records_of width a) (records_of width b),
        whole_records width l a e,
        bytes-are width t.library b,
      )
      (finish-then (leftover width b) t (insert_all (insert_record s) t.library (records_of width b)) t.answer refl)
