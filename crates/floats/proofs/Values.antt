-- Rounding up by std's definition and by `ceil_of`, and the negation of what `round` gives. Assumes nothing.
use Rattle.std.proofs.Common.{◌≡◌, ℕ, zero, suc, ◌+◌, ◌-◌, ◌*◌, ◌/◌, ◌%◌, ◌^◌, ◌<◌, Bool, true, false, cond, T, eqb, ltb, ℤ, pos, negsuc, sym, refl, ap, ◌∙◌, add-zero, mod-lt, mul-one, mul_assoc, add-mul, subst, div-add-mod', arith, lit<, lit≤, pow-add, pow_pos, eq-eqb, ne_eqb}
use Rattle.std.proofs.Math.Nat.{div-eq_of_lt-le, div-one, div-le_self, lt_of_lt_of_le, lt_of_le_of_lt, mul-lt-mul_of_pos_right}
use Rattle.std.specs.Float.{ceil, round_with}
use Prim.Native.Nat.{compare}
use native.Mathlib.Decide.{ℕ_discrete}
use lib.Ieee.{Float, nan, inf, fin, Format, binary64, prec, emax, low, up, down, size, nearest, odd, units, round, neg, fits}
use lib.Ieee.Fits.{down_pos, round_is, round-fits}
use lib.Ieee.Bits.{is_true}
use lib.Ieee.Exact.{HasValue, round_exact}
use Rattle.floats.specs.Ceil.{ceil_of}
use Rattle.floats.proofs.Held.{fits-held}
use Rattle.floats.proofs.Unique.{value_unique}
use Rattle.floats.proofs.Choices.{zero_exponent}

-- ---- rounding up
-- the whole number m * 2 ^ e, rounded
whole-value : (s : Bool) (m : ℕ) (e : ℤ) → m < 2 ^ 53 → m * up e < 2 ^ 1024 * down e → m * up e % down e ≡ 0 → HasValue (round binary64 s (m * up e / down e) 1) s (m * up e / down e) 1
whole-value s m (pos k) h b z =
    let c : m * 2 ^ k / 1 ≡ m * 2 ^ k = div-one (m * 2 ^ k) in
    subst (λ (x : ℕ). HasValue (round binary64 s x 1) s x 1) (sym c)
    (round_exact binary64 s (m * 2 ^ k) 1 m (k + 1074) (lit< tt) h
    (subst (λ (x : ℕ). x < 2 ^ 2098) (sym (units m k)) (lt_of_lt_of_le (mul-lt-mul_of_pos_right (subst (λ (x : ℕ). m * 2 ^ k < x) (mul-one (2 ^ 1024)) b) (pow_pos 1074)) (lit≤ tt)))
    (sym (units m k) ∙ sym (mul-one (m * 2 ^ (k + 1074)))))
  where
    units : (m k : ℕ) → m * 2 ^ (k + 1074) ≡ m * 2 ^ k * 2 ^ 1074
    units m k = ap (λ (x : ℕ). m * x) (pow-add 2 k 1074) ∙ sym (mul_assoc m (2 ^ k) (2 ^ 1074))
whole-value s m (negsuc k) h b z =
    let c = m * 1 / 2 ^ suc k in
    let C : c < 2 ^ 53 = less-part (m * 1) (2 ^ suc k) (omega arith) in
    round_exact binary64 s c 1 c 1074 (lit< tt) C
    (lt_of_lt_of_le (mul-lt-mul_of_pos_right C (pow_pos 1074)) (lit≤ tt))
    (sym (mul-one (c * 2 ^ 1074)))
  where
    less-part : (n d : ℕ) → n < 2 ^ 53 → n / d < 2 ^ 53
    less-part n d h = lt_of_le_of_lt (div-le_self n d) h

zero-round : (s : Bool) → round binary64 s 0 1 ≡ fin s 0 (pos 0)
unfolding round
zero-round s = refl

zero-held : (s : Bool) (e : ℤ) → T (fits binary64 (fin s 0 e)) → e ≡ pos 0
unfolding fits
zero-held s e F = zero_exponent e (is_true (eqb (up e * down e) 1) F)

-- it is the value, where the format holds that
whole-round : (s : Bool) (m : ℕ) (e : ℤ) → T (fits binary64 (fin s m e)) → m * up e % down e ≡ 0 → round binary64 s (m * up e / down e) 1 ≡ fin s m e
whole-round s zero e F z = rw (zero-held s e F) (zero-round s)
whole-round s (suc m) e F z =
    let H = fits-held binary64 s m e F in
    value_unique binary64 _ (fin s (suc m) e) s (suc m * up e / down e) 1 (lit< tt) (round-fits binary64 s (suc m * up e / down e) 1) F
    (whole-value s (suc m) e H.digits H.bound z)
    (refl, whole (suc m * up e) (down e) z)
  where
    whole : (n d : ℕ) → n % d ≡ 0 → n * 1 ≡ n / d * d
    whole n d h = omega (arith, div-add-mod' n d)

-- the whole number at or next above n / d
above-whole : (n d : ℕ) → 0 < d → n % d ≡ 0 → (n + d - 1) / d ≡ n / d
above-whole n d D z = div-eq_of_lt-le d (omega (arith, div-add-mod' n d)) (omega (arith, div-add-mod' n d, add-mul (n / d) 1 d))

above-part : (n d : ℕ) → 0 < d → (n % d ≡ 0 → ⊥) → (n + d - 1) / d ≡ n / d + 1
above-part n d D f = div-eq_of_lt-le d (omega (arith, div-add-mod' n d, add-mul (n / d) 1 d)) (omega (arith, div-add-mod' n d, mod-lt n D, add-mul (n / d) 1 d, add-mul (n / d + 1) 1 d))

by-sign : (s : Bool) (m : ℕ) (e : ℤ) → ceil binary64 (fin s m e) ≡ round binary64 s (cond s (m * up e / down e) ((m * up e + down e - 1) / down e)) 1
unfolding round_with
by-sign false m e = refl
by-sign true m e = refl

by-part : (s : Bool) (m : ℕ) (e : ℤ) (b : Bool) → eqb (m * up e % down e) 0 ≡ b → ceil_of (fin s m e) ≡ cond b (fin s m e) (round binary64 s (m * up e / down e + cond s 0 1) 1)
unfolding ceil_of
by-part s m e b h = rw h

finite-ceil : (s : Bool) (m : ℕ) (e : ℤ) → T (fits binary64 (fin s m e)) → ceil binary64 (fin s m e) ≡ ceil_of (fin s m e)
finite-ceil s m e F = by-sign s m e ∙ go (ℕ_discrete (n % d) 0)
  where
    n : ℕ
    n = m * up e

    d : ℕ
    d = down e

    whole : (s : Bool) → n % d ≡ 0 → cond s (n / d) ((n + d - 1) / d) ≡ n / d
    whole true z = refl
    whole false z = above-whole n d (down_pos e) z

    part : (s : Bool) → (n % d ≡ 0 → ⊥) → cond s (n / d) ((n + d - 1) / d) ≡ n / d + cond s 0 1
    part true f = sym (add-zero (n / d))
    part false f = above-part n d (down_pos e) f

    go : Dec (n % d ≡ 0) → round binary64 s (cond s (n / d) ((n + d - 1) / d)) 1 ≡ ceil_of (fin s m e)
    go (yes z) = ap (λ (x : ℕ). round binary64 s x 1) (whole s z) ∙ whole-round s m e F z ∙ sym (by-part s m e true (eq-eqb (n % d) 0 z))
    go (no f) = ap (λ (x : ℕ). round binary64 s x 1) (part s f) ∙ sym (by-part s m e false (ne_eqb (n % d) 0 f))

-- std's definition
pub ceil_is : (x : Float) → T (fits binary64 x) → ceil binary64 x ≡ ceil_of x
unfolding round_with ceil_of
ceil_is nan F = refl
ceil_is (inf s) F = refl
ceil_is (fin s m e) F = finite-ceil s m e F

-- ---- `neg` goes through `round`
neg_odd : (d : ℕ) (q k l : ℕ) → neg (odd d false q k l) ≡ odd d true q k l
unfolding odd neg
neg_odd d zero k l = refl
neg_odd d (suc q) k l = refl

neg-units : (f : Format) (q k : ℕ) → neg (units f false q k) ≡ units f true q k
unfolding units
neg-units f q k = go (ltb (q * 2 ^ k) (2 ^ (low f + suc (emax f))))
  where
    go : (b : Bool) → neg (cond b (odd (suc (prec f)) false q k (low f)) (inf false)) ≡ cond b (odd (suc (prec f)) true q k (low f)) (inf true)
    go true = neg_odd (suc (prec f)) q k (low f)
    go false = unfold neg in refl

pub neg-round : (f : Format) (n d : ℕ) → neg (round f false n d) ≡ round f true n d
neg-round f n d =
    let N = n * 2 ^ low f in
    let k = size (N / d) - prec f in
    let u = d * 2 ^ k in
    ap neg (round_is f false n d) ∙ neg-units f (nearest (N / u) (compare (N % u * 2) u)) k ∙ sym (round_is f true n d)
