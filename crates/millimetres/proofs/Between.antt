-- Rounding keeps a value between two bounds that the format holds: `Between lo hi d x` says that x is above zero and from lo / d up to hi / d.
-- So a thousandth of m, rounded, times 1,000, rounded, plus a half, rounded, is above m and below m + 1 (`counted`).
-- Assumes nothing.
use mathlib.Core.Path.{◌≡◌, sym, ap, ◌∙◌, subst}
use Prim.Native.Nat.{ℕ, ◌+◌, ◌-◌, ◌*◌, ◌/◌, ◌^◌, ◌≤◌, ◌<◌}
use native.Mathlib.Nat.{one-mul, mul-one, mul_assoc, mul_right_comm, mul-pos, lt_of_lt_of_le, add-mul, div-lt_iff_lt-mul, le-div_iff_mul-le, min-eq_left}
use native.Mathlib.Omega.{arith}
use mathlib.Core.Bool.{true, false}
use lib.Dec.{T, lit<, lit≤}
use lib.Pow.{pow-add, pow_pos, pow_mono, shl_lt}
use lib.Ieee.{Float, nan, inf, fin, binary64, round, add, sum, of_int, to_unsigned, up, down}
use lib.Ieee.Back.{round_whole}
use lib.Ieee.Digits.{back}
use lib.Ieee.Exact.{HasValue, round_exact}
use lib.Ieee.Fits.{down_pos}
use lib.Ieee.Order.{round_mono}
use lib.Ieee.Positive.{num, den, positive, den_pos, own_value, positive_of_value, values_of_le, through, between, mul_at}
use Rattle.floats.specs.Rounded.{◌⊕◌, ◌⊗◌, of_nat, truncate, pow2⁻}
use Rattle.millimetres.specs.Millimetres.{limit}

pub record Between (lo hi d : ℕ) (x : Float) : Type 0 where
  pub positive : T (positive x)
  pub low : lo * den x ≤ num x * d
  pub high : num x * d ≤ hi * den x

-- n / 2 ^ j is a value of the format
exact : (j n : ℕ) → j ≤ 1074 → n < 2 ^ 53 → HasValue (round binary64 false n (2 ^ j)) false n (2 ^ j)
exact j n J N =
    round_exact binary64 false n (2 ^ j) n (1074 - j) (pow_pos j) N (lt_of_lt_of_le (shl_lt 53 (1074 - j) N) (pow_mono (room j)))
    (sym (mul_assoc n (2 ^ (1074 - j)) (2 ^ j) ∙ ap (λ (z : ℕ). n * z) (sym (pow-add 2 (1074 - j) j) ∙ ap (λ (z : ℕ). 2 ^ z) (back 1074 j J))))
  where
    room : (j : ℕ) → 53 + (1074 - j) ≤ 2098
    room j = omega arith

pub round-between : (j lo hi n d : ℕ) → j ≤ 1074 → 0 < lo → lo ≤ hi → hi < 2 ^ 53 → 0 < d → lo * d ≤ n * 2 ^ j → n * 2 ^ j ≤ hi * d → Between lo hi (2 ^ j) (round binary64 false n d)
round-between j lo hi n d J P O H D a b =
    let x = round binary64 false n d in
    let below = round binary64 false lo (2 ^ j) in
    let above = round binary64 false hi (2 ^ j) in
    let v = exact j lo J (omega arith) in
    let w = exact j hi J H in
    let p = positive_of_value below lo (2 ^ j) v P in
    let q = positive_of_value above hi (2 ^ j) w (omega arith) in
    let l = round_mono binary64 lo (2 ^ j) n d (pow_pos j) D a in
    let u = round_mono binary64 n d hi (2 ^ j) D (pow_pos j) b in
    let z = between below x above p q l u in
    record {
      positive = z;
      low = values_of_le below x lo (2 ^ j) (num x) (den x) p z v (own_value x z) l;
      high = values_of_le x above (num x) (den x) hi (2 ^ j) z q (own_value x z) w u;
    }

-- ---- the two operations
pub thousand_value : HasValue (of_nat 1000) false 1000 1
unfolding of_int
thousand_value = round_whole binary64 false 1000 (lit≤ tt)

times_thousand : (x : Float) → T (positive x) → x ⊗ of_nat 1000 ≡ round binary64 false (num x * 1000) (den x * 1)
times_thousand x p = mul_at binary64 x (of_nat 1000) (num x) (den x) 1000 1 p (positive_of_value (of_nat 1000) 1000 1 thousand_value (lit< tt)) (den_pos x) (lit< tt) (own_value x p) thousand_value

plus_half : (x : Float) → T (positive x) → x ⊕ pow2⁻ 1 ≡ round binary64 false (num x * 2 + den x) (den x * 2)
unfolding add sum
plus_half nan p = absurd p
plus_half (inf s) p = absurd p
plus_half (fin true m e) p = absurd p
plus_half (fin false m e) p = ap (λ (z : ℕ). round binary64 false (m * up e * 2 + z) (down e * 2)) (one-mul (down e))

-- n / d + 1/2 is from b / 4 on, or up to it, where n / d is from (b - 2) / 4 on, or up to it
half-low : (a b n d : ℕ) → b ≡ a + 2 → a * d ≤ n * 4 → b * (d * 2) ≤ (n * 2 + d) * 4
half-low a b n d e h = rw e (omega (arith, mul_assoc (a + 2) d 2, add-mul a 2 d))

half_high : (a b n d : ℕ) → b ≡ a + 2 → n * 4 ≤ a * d → (n * 2 + d) * 4 ≤ b * (d * 2)
half_high a b n d e h = rw e (omega (arith, mul_assoc (a + 2) d 2, add-mul a 2 d))

-- ---- the whole part of what lies between m + 1/4 and m + 3/4
whole_part : (x : Float) (m : ℕ) → m ≤ limit → Between (4 * m + 1) (4 * m + 3) 4 x → truncate x ≡ m
unfolding to_unsigned
whole_part nan m L b = absurd b.positive
whole_part (inf s) m L b = absurd b.positive
whole_part (fin true n e) m L b = absurd b.positive
whole_part (fin false n e) m L b =
    let D = down_pos e in
    let q = pinned (n * up e / down e) ((le-div_iff_mul-le D).1 (lower (n * up e) (down e) b.low)) ((div-lt_iff_lt-mul D).1 (upper (n * up e) (down e) D b.high)) in
    min-eq_left (omega arith) ∙ q
  where
    pinned : (k : ℕ) → m ≤ k → k < m + 1 → k ≡ m
    pinned k g h = omega arith

    lower : (N d : ℕ) → (4 * m + 1) * d ≤ N * 4 → m * d ≤ N
    lower N d h = omega (arith, add-mul (4 * m) 1 d, mul_assoc 4 m d)

    upper : (N d : ℕ) → 0 < d → N * 4 ≤ (4 * m + 3) * d → N < (m + 1) * d
    upper N d D h = omega (arith, add-mul (4 * m) 3 d, mul_assoc 4 m d, add-mul m 1 d)

-- ---- a number of millimetres from 1 on
abbrev thousandth : ℕ → Float
thousandth m = round binary64 false m 1000

module _ (m : ℕ) (P : 0 < m) (L : m ≤ limit) where
  -- the multiple of 1/4,096 at or below it, and the next
  near : Between (m * 4096 / 1000) (m * 4096 / 1000 + 1) (2 ^ 12) (thousandth m)
  near = round-between 12 (m * 4096 / 1000) (m * 4096 / 1000 + 1) m 1000 (lit≤ tt) (omega arith) (omega arith) (omega arith) (lit< tt) (omega arith) (omega arith)

  times : Between (4 * m - 1) (4 * m + 1) (2 ^ 2) (thousandth m ⊗ of_nat 1000)
  times =
      let k = m * 4096 / 1000 in
      let n = num (thousandth m) in
      let d = den (thousandth m) in
      subst (Between (4 * m - 1) (4 * m + 1) (2 ^ 2)) (sym (times_thousand (thousandth m) near.positive))
      (round-between 2 (4 * m - 1) (4 * m + 1) (n * 1000) (d * 1) (lit≤ tt) (omega arith) (omega arith) (omega arith) (mul-pos (den_pos (thousandth m)) (lit< tt))
      (through (4 * m - 1) (k * 1000) (n * 1000) 4 4096 (d * 1) (lit< tt) (omega arith) (scaled k n d near.low))
      (through (n * 1000) ((k + 1) * 1000) (4 * m + 1) (d * 1) 4096 4 (lit< tt) (scaled' (k + 1) n d near.high) (omega arith)))
    where
      scaled : (k n d : ℕ) → k * d ≤ n * 4096 → k * 1000 * (d * 1) ≤ n * 1000 * 4096
      scaled k n d h = omega (arith, mul_right_comm k 1000 d, mul-one d)

      scaled' : (k n d : ℕ) → n * 4096 ≤ k * d → n * 1000 * 4096 ≤ k * 1000 * (d * 1)
      scaled' k n d h = omega (arith, mul_right_comm k 1000 d, mul-one d)

  plus : Between (4 * m + 1) (4 * m + 3) (2 ^ 2) (thousandth m ⊗ of_nat 1000 ⊕ pow2⁻ 1)
  plus =
      let x = thousandth m ⊗ of_nat 1000 in
      subst (Between (4 * m + 1) (4 * m + 3) (2 ^ 2)) (sym (plus_half x times.positive))
      (round-between 2 (4 * m + 1) (4 * m + 3) (num x * 2 + den x) (den x * 2) (lit≤ tt) (omega arith) (omega arith) (omega arith) (mul-pos (den_pos x) (lit< tt))
      (half-low (4 * m - 1) (4 * m + 1) (num x) (den x) (omega arith) times.low) (half_high (4 * m + 1) (4 * m + 3) (num x) (den x) (omega arith) times.high))

  pub counted : truncate (thousandth m ⊗ of_nat 1000 ⊕ pow2⁻ 1) ≡ m
  counted = whole_part (thousandth m ⊗ of_nat 1000 ⊕ pow2⁻ 1) m L plus

  pub thousandth_positive : T (positive (thousandth m))
  thousandth_positive = near.positive
