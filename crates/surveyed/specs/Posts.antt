-- What the crate's private functions ensure. Definitions only.
use Rattle.std.specs.Prelude.{◌≡◌, List, Float}
use Rattle.basics.specs.Lists.{fold_all}
use Rattle.floats.specs.Rounded.{zero_f}

-- r is what the values fold to, by each function that the choice between two computes
abbrev pub Chosen : (Float → Float → Float → Type 0) → List Float → Float → Type 0
Chosen chooses values r = (f : Float → Float → Float) → ((a b c : Float) → chooses a b c → c ≡ f a b) → r ≡ fold_all f zero_f values
