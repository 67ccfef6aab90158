-- `grid_cells::OptionalSettings::in_force` meets its contract. Assumes nothing.
use Rattle.std.proofs.Common.{◌≡◌, refl, Option, Some, None}
use Rattle.std.specs.Prelude.{unwrap_or}
use lib.Ieee.{Float, of_bits, round, binary64}
use Rattle.grid_search.proofs.InForce.{tolerance-is, border-is}
use Rattle.grid_cells.specs.Build.{cutoff_of, percentage_of, settings_of}
use Rattle.grid_cells.proofs.OptionalSettings.in_force.Goals as goal

cutoff-is : (v : Option Float) → unwrap_or v (of_bits binary64 4604930618986332160) ≡ cutoff_of v
unfolding cutoff_of of_bits
cutoff-is None = refl
cutoff-is (Some v) = refl

percentage-is : (v : Option Float) → unwrap_or v (of_bits binary64 4596373779694328218) ≡ percentage_of v
unfolding percentage_of of_bits round
percentage-is None = refl
percentage-is (Some v) = refl

pub returns : goal.returns
unfolding settings_of
returns c =
    rw (c.unwrap_or.ensures, c.unwrap_or-2.ensures, c.unwrap_or-3.ensures, c.unwrap_or-4.ensures, tolerance-is, border-is, cutoff-is, percentage-is)
