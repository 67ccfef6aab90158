-- What it means that a format holds a finite value: the test `fits` of `logic/Lib/Ieee.antt`, part by part; and that a value has one size, whatever fraction it is written as.
-- Assumes nothing.
use Rattle.std.proofs.Common.{◌≡◌, ℕ, suc, ◌*◌, ◌%◌, ◌^◌, ◌<◌, ◌≤◌, Bool, ◌&&◌, T, eqb, ltb, leb, ℤ, sym, ap, ◌∙◌, mul_right_comm, eqb→eq, ltb→lt, leb→le}
use native.Mathlib.Nat.{eq_of_mul-eq-mul_right}
use lib.Ieee.{Float, nan, inf, fin, Format, prec, emax, low, up, down, fits}
use lib.Ieee.Fits.{and_l, and_r, down_pos}
use lib.Ieee.Exact.{HasValue}

-- m * 2 ^ e, for an m above 0
pub record Held (f : Format) (m : ℕ) (e : ℤ) : Type 0 where
  pub odd : m % 2 ≡ 1
  pub digits : m < 2 ^ prec f
  -- 2 ^ e is a whole number of the format's smallest values
  pub deep : down e ≤ 2 ^ low f
  pub bound : m * up e < 2 ^ suc (emax f) * down e

pub fits-held : (f : Format) (s : Bool) (m : ℕ) (e : ℤ) → T (fits f (fin s (suc m) e)) → Held f (suc m) e
unfolding fits
fits-held f s m e h =
    let A = eqb (suc m % 2) 1 in
    let B = ltb (suc m) (2 ^ prec f) in
    let C = leb (down e) (2 ^ low f) in
    let D = ltb (suc m * up e) (2 ^ suc (emax f) * down e) in
    let ABC = and_l (A && B && C) D h in
    let AB = and_l (A && B) C ABC in
    record {
      odd = eqb→eq (suc m % 2) 1 (and_l A B AB);
      digits = ltb→lt (suc m) (2 ^ prec f) (and_r A B AB);
      deep = leb→le (down e) (2 ^ low f) (and_r (A && B) C ABC);
      bound = ltb→lt (suc m * up e) (2 ^ suc (emax f) * down e) (and_r (A && B && C) D h);
    }

-- ---- a value that is a / c and b / d
pub one_size : (x : Float) (s : Bool) (a c b d : ℕ) → HasValue x s a c → HasValue x s b d → a * d ≡ b * c
one_size nan s a c b d h k = absurd h
one_size (inf t) s a c b d h k = absurd h
one_size (fin t m e) s a c b d h k =
    eq_of_mul-eq-mul_right (down e) (down_pos e) (a * d) (b * c)
    (mul_right_comm a d (down e) ∙ ap (λ (z : ℕ). z * d) (sym h.1) ∙ mul_right_comm (m * up e) c d ∙ ap (λ (z : ℕ). z * c) k.1 ∙ mul_right_comm b (down e) c)

pub rescale : (x : Float) (s : Bool) (a c b d : ℕ) → 0 < c → a * d ≡ b * c → HasValue x s a c → HasValue x s b d
rescale nan s a c b d C e h = h
rescale (inf t) s a c b d C e h = h
rescale (fin t m i) s a c b d C e h = (
  h.0,
  eq_of_mul-eq-mul_right c C (m * up i * d) (b * down i)
      (mul_right_comm (m * up i) d c ∙ ap (λ (z : ℕ). z * d) h.1 ∙ mul_right_comm a (down i) d ∙ ap (λ (z : ℕ). z * down i) e ∙ mul_right_comm b c (down i)),
)
