-- Laws of lists that the kit lacks: `tab`, `keep`, `zip_with`, `map` of a part of a list, and tests of every entry.
-- Assumes nothing.
use Prim.Native.Nat.{ℕ, zero, suc, ◌+◌, ◌≤◌, ◌<◌, zero-le, suc-le-suc}
use native.Mathlib.Nat.{le_of_suc-le-suc, not-suc-le-zero}
use native.Mathlib.Omega.{arith}
use mathlib.Core.Path.{◌≡◌, refl, ap}
use mathlib.Core.Bool.{Bool, true, false, not, ◌&&◌, ◌||◌}
use mathlib.Core.List.{List, [], ◌∷◌, ◌++◌, map, map-append}
use lib.Dec.{eqb}
use lib.ListN.{length, get_or, take, drop}
use Rattle.basics.proofs.Bools.{by_test, clash, both, and_left, and_right}
use Rattle.std.specs.List.{list_all, list_any}
use Rattle.basics.specs.Lists.{all, any, keep, leading, tab, zip_with}

-- ---- f 0, f 1, ..

module _ {A : Type 0} where
  pub length-tab : (n : ℕ) (f : ℕ → A) → length (tab n f) ≡ n
  length-tab zero f = refl
  length-tab (suc n) f = ap suc (length-tab n (λ i. f (suc i)))

  pub get_or-tab : (n : ℕ) (f : ℕ → A) (i : ℕ) (d : A) → i < n → get_or (tab n f) i d ≡ f i
  get_or-tab zero f i d h = absurd (not-suc-le-zero h)
  get_or-tab (suc n) f zero d h = refl
  get_or-tab (suc n) f (suc i) d h = get_or-tab n (λ j. f (suc j)) i d (le_of_suc-le-suc h)

  pub drop-tab : (n : ℕ) (f : ℕ → A) (i : ℕ) → i < n → drop i (tab n f) ≡ f i ∷ drop (suc i) (tab n f)
  drop-tab zero f i h = absurd (not-suc-le-zero h)
  drop-tab (suc n) f zero h = refl
  drop-tab (suc n) f (suc i) h = drop-tab n (λ j. f (suc j)) i (le_of_suc-le-suc h)

  pub tab-take : (n : ℕ) (l : List A) (d : A) → n ≤ length l → tab n (λ i. get_or l i d) ≡ take n l
  tab-take zero l d h = refl
  tab-take (suc n) [] d h = absurd (not-suc-le-zero h)
  tab-take (suc n) (x ∷ l) d h = ap (λ (r : List A). x ∷ r) (tab-take n l d (le_of_suc-le-suc h))

  -- ---- those that pass a test

  pub length-keep : (p : A → Bool) (l : List A) → length (keep p l) ≤ length l
  unfolding keep
  length-keep p [] = omega arith
  length-keep p (x ∷ l) = by_test (p x) (λ e. rw e (omega (arith, length-keep p l))) (λ e. rw e (omega (arith, length-keep p l)))

-- ---- lists whose every entry passes a test

module _ {A : Type 0} where
  pub all_at : (p : A → Bool) (l : List A) (i : ℕ) (d : A) → i < length l → all p l ≡ true → p (get_or l i d) ≡ true
  unfolding all
  all_at p [] i d h e = absurd (not-suc-le-zero h)
  all_at p (x ∷ l) zero d h e = and_left (p x) (all p l) e
  all_at p (x ∷ l) (suc i) d h e = all_at p l i d (le_of_suc-le-suc h) (and_right (p x) (all p l) e)

-- ---- the same tests in std's words

module _ {A : Type 0} where
  pub all_listed : (p : A → Bool) (l : List A) → all p l ≡ list_all p l
  unfolding all
  all_listed p [] = refl
  all_listed p (x ∷ l) = ap (λ (b : Bool). p x && b) (all_listed p l)

  pub any-list : (p : A → Bool) (l : List A) → any p l ≡ list_any p l
  unfolding any
  any-list p [] = refl
  any-list p (x ∷ l) = ap (λ (b : Bool). p x || b) (any-list p l)

-- ---- how many stand before the first v

pub leading-most : (v : ℕ) (l : List ℕ) → leading v l ≤ length l
unfolding leading
leading-most v [] = omega arith
leading-most v (x ∷ l) = by_test (eqb x v) (λ e. rw e (omega arith)) (λ e. rw e (omega (arith, leading-most v l)))

-- ---- map

module _ {A B : Type 0} where
  pub map-tab : (g : A → B) (n : ℕ) (f : ℕ → A) → map g (tab n f) ≡ tab n (λ i. g (f i))
  map-tab g zero f = refl
  map-tab g (suc n) f = ap (λ (r : List B). g (f 0) ∷ r) (map-tab g n (λ i. f (suc i)))

  pub map-take : (f : A → B) (n : ℕ) (l : List A) → map f (take n l) ≡ take n (map f l)
  map-take f zero l = refl
  map-take f (suc n) [] = refl
  map-take f (suc n) (x ∷ l) = ap (λ (r : List B). f x ∷ r) (map-take f n l)

  pub map-drop : (f : A → B) (n : ℕ) (l : List A) → map f (drop n l) ≡ drop n (map f l)
  map-drop f zero l = refl
  map-drop f (suc n) [] = refl
  map-drop f (suc n) (x ∷ l) = map-drop f n l

  pub map_around : (f : A → B) (i j : ℕ) (r : A) (l : List A) → map f (take i l ++ r ∷ drop j l) ≡ take i (map f l) ++ f r ∷ drop j (map f l)
  map_around f i j r l = simp (map-append, map-take, map-drop)

-- ---- tests of every entry

module _ {A : Type 0} where
  -- every entry by its index
  pub all-tab : (p : A → Bool) (n : ℕ) (f : ℕ → A) → ((i : ℕ) → i < n → p (f i) ≡ true) → all p (tab n f) ≡ true
  unfolding all
  all-tab p zero f h = refl
  all-tab p (suc n) f h = both (h 0 (suc-le-suc zero-le)) (all-tab p n (λ i. f (suc i)) (λ i l. h (suc i) (suc-le-suc l)))

-- ---- the first n of two lists joined, and an entry that is there

-- the first n of two lists joined entry by entry
pub take_zip : {A B C : Type 0} (f : A → B → C) (n : ℕ) (xs : List A) (ys : List B) → take n (zip_with f xs ys) ≡ zip_with f (take n xs) (take n ys)
unfolding zip_with
take_zip f zero xs ys = refl
take_zip f (suc n) [] ys = refl
take_zip f (suc n) (x ∷ xs) [] = refl
take_zip f (suc n) (x ∷ xs) (y ∷ ys) = rw (take_zip f n xs ys)

module _ {A : Type 0} where
  -- an entry before the end is not the default
  pub get_or-any : (xs : List A) (i : ℕ) (d e : A) → i < length xs → get_or xs i d ≡ get_or xs i e
  get_or-any [] i d e h = absurd (not-suc-le-zero h)
  get_or-any (x ∷ xs) zero d e h = refl
  get_or-any (x ∷ xs) (suc i) d e h = get_or-any xs i d e (le_of_suc-le-suc h)

-- ---- those that pass a test, among those that pass another

module _ {A : Type 0} (p : A → Bool) where
  pub all_keep : (good : A → Bool) (l : List A) → all good l ≡ true → all good (keep p l) ≡ true
  unfolding all keep
  all_keep good [] a = refl
  all_keep good (x ∷ l) a =
      let ih = all_keep good l (and_right (good x) (all good l) a) in
      by_test (p x) (λ e. rw e (both (and_left (good x) (all good l) a) ih)) (λ e. rw e ih)

  -- those that pass and those that do not are all there are
  pub length_both : (l : List A) → length (keep p l) + length (keep (λ (x : A). not (p x)) l) ≡ length l
  unfolding keep
  length_both [] = refl
  length_both (x ∷ l) = let ih = length_both l in by_test (p x) (λ e. rw e (omega (arith, ih))) (λ e. rw e (omega (arith, ih)))

module _ {A : Type 0} (p q : A → Bool) where
  pub keep-keep : (l : List A) → keep p (keep q l) ≡ keep q (keep p l)
  unfolding keep
  keep-keep [] = refl
  keep-keep (x ∷ l) =
      let ih = keep-keep l in
      by_test (p x) (λ e. by_test (q x) (λ f. rw (e, f, e, ih)) (λ f. rw (e, f, ih))) (λ e. by_test (q x) (λ f. rw (e, f, e, ih)) (λ f. rw (e, f, ih)))

  -- where the first test asks for more than the second, the second changes nothing; where it asks for the contrary, nothing is left
  pub keep-within : ((x : A) → p x ≡ true → q x ≡ true) → (l : List A) → keep p (keep q l) ≡ keep p l
  unfolding keep
  keep-within h [] = refl
  keep-within h (x ∷ l) =
      let ih = keep-within h l in
      by_test (p x) (λ e. rw (h x e, e, ih)) (λ e. by_test (q x) (λ f. rw (e, f, e, ih)) (λ f. rw (e, f, ih)))

  pub keep_apart : ((x : A) → p x ≡ true → q x ≡ false) → (l : List A) → keep p (keep q l) ≡ []
  unfolding keep
  keep_apart h [] = refl
  keep_apart h (x ∷ l) =
      let ih = keep_apart h l in
      by_test (q x) (λ f. by_test (p x) (λ e. clash f (h x e)) (λ e. rw (f, e, ih))) (λ f. rw (f, ih))
