-- What is asked of one float, and the choices between two.
-- Assumes nothing.
use Rattle.std.specs.Prelude.{Bool, true, false, cond, ◌&&◌, ◌||◌, T, ◌==◌, Float}
use Rattle.std.specs.Float.{nan, inf, fin, binary64}
use Rattle.std.specs.Float.Ieee.{fits, lt, le, eq, is_nan, to_bits}

-- x is a value of binary64: what an `f64` holds
abbrev pub Binary64 : Float → Type 0
Binary64 x = T (fits binary64 x)

-- the magnitude
unfoldable pub abs_of : Float → Float
abs_of nan = nan
abs_of (inf s) = inf false
abs_of (fin s m e) = fin false m e

-- Rust's `f64::min` and `f64::max`: of a NaN and another value the other. Of two equal values the first, where Rust may give either zero.
unfoldable pub min_of : Float → Float → Float
unfolding lt is_nan
min_of a b = cond (lt b a || is_nan a) b a

unfoldable pub max_of : Float → Float → Float
unfolding lt is_nan
max_of a b = cond (lt a b || is_nan a) b a

-- neither a NaN nor an infinity
unfoldable pub finite : Float → Bool
finite nan = false
finite (inf s) = false
finite (fin s m e) = true

-- finite, for a finite limit, and of magnitude at most the limit
unfoldable pub within : Float → Float → Bool
unfolding le abs_of
within limit x = le (abs_of x) limit

-- bit for bit the same: value and sign of zero. A NaN is the same as nothing.
unfoldable pub same_bits : Float → Float → Bool
unfolding eq to_bits
same_bits a b = eq a b && to_bits binary64 a == to_bits binary64 b
