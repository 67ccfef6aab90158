-- The arithmetic of `root`: a turn of its loop, and the rounding after it. Assumes nothing.
use Rattle.std.proofs.Common.{◌≡◌, ℕ, zero, suc, ◌+◌, ◌-◌, ◌*◌, ◌/◌, ◌%◌, ◌^◌, ◌<◌, ◌≤◌, sym, ap, ◌∙◌, subst, le_trans, le_of_suc-le-suc, lt_irrefl, mul_assoc, mul_comm, mul-le-mul, pow-suc, lt_of_not-le, le-mul_of_pos_right, arith, pow_pos}
use native.Mathlib.Nat.{mul-mul-mul_comm}
use Rattle.floats.proofs.Near.{square_suc, square_double, square_odd}
use Rattle.floats.specs.Posts.{Rounded}

-- ---- the loop
abbrev pub Turns : (a w r rest i : ℕ) → Type 0
Turns a w r rest i = (i ≤ 53) × (w < 2 ^ 64) × (rest ≤ 2 * r) × (r < 2 ^ 53) × ((r + 1) * 2 ^ i ≤ 2 ^ 53) × (((r * r + rest) * 2 ^ 64 + w) * (2 ^ i * 2 ^ i) ≡ a * 2 ^ 116)

quarter : (d : ℕ) → 2 ^ suc d * 2 ^ suc d ≡ 4 * (2 ^ d * 2 ^ d)
quarter d = ap (λ (x : ℕ). x * x) (pow-suc 2 d) ∙ mul-mul-mul_comm (2 ^ d) 2 (2 ^ d) 2 ∙ mul_comm (2 ^ d * 2 ^ d) 4

-- what is read is four times what was, and a digit more
grown : (F G v i : ℕ) → G ≡ 4 * F → F * (2 ^ suc i * 2 ^ suc i) ≡ v → G * (2 ^ i * 2 ^ i) ≡ v
grown F G v i e h = ap (λ (x : ℕ). x * (2 ^ i * 2 ^ i)) (e ∙ mul_comm 4 F) ∙ mul_assoc F 4 (2 ^ i * 2 ^ i) ∙ ap (λ (x : ℕ). F * x) (sym (quarter i)) ∙ h

room : (r s i : ℕ) → s ≤ 2 * r + 1 → (r + 1) * 2 ^ suc i ≤ 2 ^ 53 → (s + 1) * 2 ^ i ≤ 2 ^ 53
room r s i h g =
    let e : (r + 1) * 2 ^ suc i ≡ 2 * (r + 1) * 2 ^ i =
    ap (λ (x : ℕ). (r + 1) * x) (pow-suc 2 i ∙ mul_comm (2 ^ i) 2) ∙ sym (mul_assoc (r + 1) 2 (2 ^ i))
    ∙ ap (λ (x : ℕ). x * 2 ^ i) (mul_comm (r + 1) 2) in
    let k : s + 1 ≤ 2 * (r + 1) = omega arith in
    le_trans (native.Mathlib.Nat.mul-le-mul_right (2 ^ i) k) (subst (λ (x : ℕ). x ≤ 2 ^ 53) e g)

under : (s i : ℕ) → (s + 1) * 2 ^ i ≤ 2 ^ 53 → s < 2 ^ 53
under s i h = let g : s + 1 ≤ (s + 1) * 2 ^ i = le-mul_of_pos_right (s + 1) (pow_pos i) in omega arith

back : (i j : ℕ) → suc i ≡ j + 1 → i ≡ j
back i j e = omega arith

-- a turn, after which j are left: the next digit of the root is 1 or 0
pub turn_one : (a w r rest i j : ℕ) → i ≡ j + 1 → Turns a w r rest i → r * 2 * 2 < rest * 4 + w / 2 ^ 62
    → Turns a ((w * 2 ^ 2) % 2 ^ 64) (r * 2 + 1) (rest * 4 + w / 2 ^ 62 - (r * 2 * 2 + 1)) j
turn_one a w r rest zero j e v t = let z : suc 0 ≤ 0 = omega arith in absurd (lt_irrefl 0 z)
turn_one a w r rest (suc i) j e v t =
    subst (λ (i : ℕ). Turns a ((w * 2 ^ 2) % 2 ^ 64) (r * 2 + 1) (rest * 4 + w / 2 ^ 62 - (r * 2 * 2 + 1)) i) (back i j e)
    (let k = room r (r * 2 + 1) i (omega arith) v.4 in (
      omega arith,
      omega arith,
      omega arith,
      under (r * 2 + 1) i k,
      k,
      grown ((r * r + rest) * 2 ^ 64 + w) (((r * 2 + 1) * (r * 2 + 1) + (rest * 4 + w / 2 ^ 62 - (r * 2 * 2 + 1))) * 2 ^ 64 + (w * 2 ^ 2) % 2 ^ 64) (a * 2 ^ 116) i
          (omega (arith, sq r)) v.5,
    ))
  where
    sq : (r : ℕ) → (r * 2 + 1) * (r * 2 + 1) ≡ 4 * (r * r) + 4 * r + 1
    sq r = ap (λ (x : ℕ). (x + 1) * (x + 1)) (mul_comm r 2) ∙ square_odd r

pub turn_zero : (a w r rest i j : ℕ) → i ≡ j + 1 → Turns a w r rest i → rest * 4 + w / 2 ^ 62 ≤ r * 2 * 2
    → Turns a ((w * 2 ^ 2) % 2 ^ 64) (r * 2) (rest * 4 + w / 2 ^ 62) j
turn_zero a w r rest zero j e v t = let z : suc 0 ≤ 0 = omega arith in absurd (lt_irrefl 0 z)
turn_zero a w r rest (suc i) j e v t =
    subst (λ (i : ℕ). Turns a ((w * 2 ^ 2) % 2 ^ 64) (r * 2) (rest * 4 + w / 2 ^ 62) i) (back i j e)
    (let k = room r (r * 2) i (omega arith) v.4 in (
      omega arith,
      omega arith,
      omega arith,
      under (r * 2) i k,
      k,
      grown ((r * r + rest) * 2 ^ 64 + w) ((r * 2 * (r * 2) + (rest * 4 + w / 2 ^ 62)) * 2 ^ 64 + (w * 2 ^ 2) % 2 ^ 64) (a * 2 ^ 116) i
          (omega (arith, sq r)) v.5,
    ))
  where
    sq : (r : ℕ) → r * 2 * (r * 2) ≡ 4 * (r * r)
    sq r = ap (λ (x : ℕ). x * x) (mul_comm r 2) ∙ square_double r

-- after the last turn every digit is read
pub all_read : (a w r rest i : ℕ) → i ≤ 0 → Turns a w r rest i → r * r + rest ≡ a * 2 ^ 52
all_read a w r rest i h v =
    let e : i ≡ 0 = omega arith in
    let g : ((r * r + rest) * 2 ^ 64 + w) * 1 ≡ a * 2 ^ 116 = subst (λ (j : ℕ). ((r * r + rest) * 2 ^ 64 + w) * (2 ^ j * 2 ^ j) ≡ a * 2 ^ 116) e v.5 in
    omega arith

-- ---- the rounding
enough : (a r rest : ℕ) → 2 ^ 52 ≤ a → rest ≤ 2 * r → r * r + rest ≡ a * 2 ^ 52 → 2 ^ 52 ≤ r
enough a r rest A h e = le_of_suc-le-suc (lt_of_not-le (λ (g : suc r ≤ 2 ^ 52).
    let g' : r + 1 ≤ 2 ^ 52 = omega arith in
    let s : (r + 1) * (r + 1) ≤ 2 ^ 104 = mul-le-mul g' g' in
    let z : suc (2 ^ 104) ≤ 2 ^ 104 = omega (arith, square_suc r) in
    lt_irrefl (2 ^ 104) z))

pub rounded-down : (a r rest : ℕ) → 2 ^ 52 ≤ a → r < 2 ^ 53 → rest ≤ 2 * r → r * r + rest ≡ a * 2 ^ 52 → rest ≤ r → Rounded (a * 2 ^ 52) r
rounded-down a r rest A R h e d =
    let l : 2 ^ 52 ≤ r = enough a r rest A h e in
    let t = r - 1 in
    let q : r ≡ t + 1 = omega arith in
    let s : r * r ≡ t * t + 2 * t + 1 = ap (λ (x : ℕ). x * x) q ∙ square_suc t in
    let o : 2 * r - 1 ≡ 2 * t + 1 = omega arith in
    record {
      low = l;
      high = R;
      above = subst (λ (x : ℕ). x * x < 4 * (a * 2 ^ 52)) (sym o) (omega (arith, square_odd t));
      below = omega (arith, square_odd r);
    }

pub rounded-up : (a r rest : ℕ) → 2 ^ 52 ≤ a → a ≤ 2 ^ 54 - 2 → r < 2 ^ 53 → rest ≤ 2 * r → r * r + rest ≡ a * 2 ^ 52 → r < rest → Rounded (a * 2 ^ 52) (r + 1)
rounded-up a r rest A B R h e d =
    let o : 2 * (r + 1) - 1 ≡ 2 * r + 1 = omega arith in
    let l : 2 ^ 52 ≤ r = enough a r rest A h e in
    record {
      low = omega arith;
      high = lt_of_not-le (λ (g : 2 ^ 53 ≤ r + 1).
          let q : 2 ^ 53 - 1 ≤ r = omega arith in
          let s : (2 ^ 53 - 1) * (2 ^ 53 - 1) ≤ r * r = mul-le-mul q q in
          let z : suc 0 ≤ 0 = omega arith in
          lt_irrefl 0 z);
      above = subst (λ (x : ℕ). x * x < 4 * (a * 2 ^ 52)) (sym o) (omega (arith, square_odd r));
      below = omega (arith, square_odd (r + 1), square_suc r);
    }
