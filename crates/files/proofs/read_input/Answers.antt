-- Where all bytes came, they are as many as were counted.
-- Assumes nothing.
use Prim.Native.Nat.{ℕ}
use mathlib.Core.Path.{◌≡◌, subst, sym, ◌∙◌}
use mathlib.Core.Bool.{Bool, true, false, cond}
use lib.Dec.{eqb}
use Rattle.std.specs.Prelude.{Result, Ok, Err}
use Rattle.files.specs.declared.ReadError.{ReadError}
use Rattle.files.specs.declared.InputError.{InputError}
use Rattle.files.specs.Counts.{IsPrefixLen}
use Rattle.files.specs.Files.{input_of}
use borrow.Author.Rules.{rules}
use Rattle.files.proofs.read_input.Goals as goal

-- standard input that was read whole has as many bytes as came
whole-input : (came asked : ℕ) (after : Result ℕ ReadError) (n : ℕ) → input_of came asked after ≡ Ok n → came ≡ n
unfolding input_of
whole-input came asked (Ok k) n e = go _ (eqb k 0) e
  where
    go : (x : InputError) (b : Bool) → cond b (Ok came) (Err x) ≡ Ok n → came ≡ n
    go x true f = cc
    go x false f = absurd cc
whole-input came asked (Err x) n e = absurd cc

pub returns : goal.returns
returns g c = record {
  room = search rules;
  front = λ n e. subst (λ (k : ℕ). IsPrefixLen k c.read_full-came.new.bytes) (whole-input _ _ _ n (sym c.input_of.ensures ∙ e)) c.read_full-came.ensures.count;
}
