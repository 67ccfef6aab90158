-- `windows::is_root` meets its contract. Assumes nothing.
use Rattle.std.proofs.Common.{◌≡◌, refl, sym, subst, true, T, Float}
use lib.Ieee.{binary64, fits, le, of_bits}
use Rattle.basics.proofs.Bools.{and_both}
use Rattle.floats.specs.Rounded.{pow2, pow2⁻}
use Rattle.floats.proofs.Order.{le_join}
use Rattle.windows.proofs.Tellings.{rooted}
use Rattle.windows.proofs.is_root.Goals as goal

-- the ends of the code's range, 1e-150 and 1e150, lie in the law's
least : Float
least = of_bits binary64 0x20CA_2FE7_6A3F_9475

largest : Float
largest = of_bits binary64 0x5F13_8D35_2E50_96AF

in_range : (le (pow2⁻ 500) least ≡ true) × (le largest (pow2 500) ≡ true)
unfolding least largest le of_bits
in_range = (refl, refl)

held : (c : goal.Start) → T (fits binary64 c.args.x)
held c = subst T (sym c.well_formed.0.1) tt

pub returns : goal.returns
unfolding least largest
returns c =
    λ h.
    let x = c.args.x in
    let w = and_both (le least x) (le x largest) h in
    rooted x (held c) (le_join (pow2⁻ 500) least x in_range.0 w.0) (le_join x largest (pow2 500) w.1 in_range.1)
