-- What `ceil_of` means: of a finite value that binary64 holds, the result is a whole number c with the value's sign, and no whole number lies between the two (`ceil_least`).
-- Assumes nothing.
use Rattle.std.proofs.Common.{◌≡◌, ℕ, zero, suc, ◌+◌, ◌*◌, ◌/◌, ◌%◌, ◌^◌, ◌<◌, ◌≤◌, Bool, true, false, cond, not, T, eqb, ℤ, pos, negsuc, sym, refl, ap, subst, add-zero, mod-lt, div-lt_iff_lt-mul, add-mul, pow-suc, div-add-mod', arith, eqb→eq, T_not, pow_pos}
use native.Mathlib.Nat.{mod-one}
use lib.Ieee.{fin, binary64, up, down, round, fits}
use lib.Ieee.Fits.{down_pos, eq→eqb}
use lib.Ieee.Exact.{HasValue}
use lib.Ieee.Back.{round_whole}
use Rattle.floats.proofs.Held.{fits-held}
use Rattle.floats.specs.Ceil.{ceil_of}

-- c is n / d, or the whole number next to it: above it where s is false, and nearer to zero where s is true
abbrev pub Next : Bool → ℕ → ℕ → ℕ → Type 0
Next false n d c = (n ≤ c * d) × (c * d < n + d)
Next true n d c = (c * d ≤ n) × (n < c * d + d)

exact : (s : Bool) (n d : ℕ) → 0 < d → n % d ≡ 0 → Next s n d (n / d)
exact true n d D h = omega (arith, div-add-mod' n d)
exact false n d D h = omega (arith, div-add-mod' n d)

beside : (s : Bool) (n d : ℕ) → 0 < d → (n % d ≡ 0 → ⊥) → Next s n d (n / d + cond s 0 1)
beside true n d D h = let e : (n / d + 0) * d ≡ n / d * d = ap (λ (x : ℕ). x * d) (add-zero (n / d)) in omega (arith, div-add-mod' n d, mod-lt n D)
beside false n d D h = omega (arith, div-add-mod' n d, mod-lt n D, add-mul (n / d) 1 d)

one_at_most : (s : Bool) → cond s 0 1 ≤ 1
one_at_most true = omega arith
one_at_most false = omega arith

-- a value with a fraction is below 2 ^ 52 in size
small : (m : ℕ) (e : ℤ) → m < 2 ^ 53 → (m * up e % down e ≡ 0 → ⊥) → m * up e / down e < 2 ^ 52
small m (pos k) h f = absurd (f (mod-one (m * 2 ^ k)))
small m (negsuc k) h f = (div-lt_iff_lt-mul (pow_pos (suc k))).1 (subst (λ (x : ℕ). m * 1 < 2 ^ 52 * x) (sym (pow-suc 2 k)) (wide m (2 ^ k) h (pow_pos k)))
  where
    wide : (m p : ℕ) → m < 2 ^ 53 → 0 < p → m * 1 < 2 ^ 52 * (p * 2)
    wide m p h P = omega arith

at : (s : Bool) (m : ℕ) (e : ℤ) → m < 2 ^ 53 → (b : Bool) → (T b → m * up e % down e ≡ 0) → (T (not b) → m * up e % down e ≡ 0 → ⊥)
    → (c : ℕ) × HasValue (cond b (fin s m e) (round binary64 s (m * up e / down e + cond s 0 1) 1)) s c 1 × Next s (m * up e) (down e) c
at s m e h true y n =
    (m * up e / down e, (refl, whole (m * up e) (down e) (y tt)), exact s (m * up e) (down e) (down_pos e) (y tt))
  where
    whole : (n d : ℕ) → n % d ≡ 0 → n * 1 ≡ n / d * d
    whole n d h = omega (arith, div-add-mod' n d)
at s m e h false y n =
    let c = m * up e / down e + cond s 0 1 in
    (c, round_whole binary64 s c (omega (arith, small m e h (n tt), one_at_most s)), beside s (m * up e) (down e) (down_pos e) (n tt))

digits : (s : Bool) (m : ℕ) (e : ℤ) → T (fits binary64 (fin s m e)) → m < 2 ^ 53
digits s zero e h = pow_pos 53
digits s (suc m) e h = (fits-held binary64 s m e h).digits

pub ceil_least : (s : Bool) (m : ℕ) (e : ℤ) → T (fits binary64 (fin s m e)) → (c : ℕ) × HasValue (ceil_of (fin s m e)) s c 1 × Next s (m * up e) (down e) c
unfolding ceil_of
ceil_least s m e h =
    let r = m * up e % down e in
    at s m e (digits s m e h) (eqb r 0) (eqb→eq r 0) (λ t z. T_not (eqb r 0) t (eq→eqb z))
