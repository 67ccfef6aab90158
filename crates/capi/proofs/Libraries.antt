-- The number that a result tells to C is that of the answer which it stands for. Assumes nothing.
use mathlib.Core.Path.{◌≡◌, refl}
use Rattle.std.specs.Prelude.{Result, Ok, Err}
use Rattle.basics.specs.declared.Refusal.{Refusal}
use Rattle.basics.specs.Answers.{answered}
use Rattle.capi.specs.Answers.{number, number_in}

pub number-told : {A B : Type 0} (f : A → B) (r : Result A Refusal) → number_in r ≡ number (answered f r)
number-told f (Ok a) = refl
number-told f (Err e) = refl
