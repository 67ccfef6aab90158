-- `grid_search::built` meets its contract. Assumes nothing.
use Rattle.std.proofs.Common.{ℕ, ◌≤◌, ◌≡◌, ◌∙◌, true, Option}
use Rattle.std.specs.Prelude.{unwrap_or}
use lib.Ieee.{of_bits}
use Rattle.basics.specs.Lists.{all}
use Rattle.geometry.specs.declared.Position.{Position}
use Rattle.geometry.specs.Position.{coords, dimension}
use Rattle.grid.specs.declared.Divisions.{Divisions}
use Rattle.grid.specs.Divisions.{counts, divisions_of, division, num_divisions}
use Rattle.grid_search.specs.Sheet.{number_of, in_order}
use Rattle.grid_search.proofs.InForce.{number-is, tolerance-is, border-is}
use Rattle.grid_search.proofs.Parts.{counts-good, built-is}
use Rattle.grid_search.proofs.built.Goals as goal

good : (n : ℕ) (low high : Position) → dimension n ≡ true → (o : Option ℕ) (r : ℕ) → r ≡ unwrap_or o 100 → 1 ≤ number_of o → number_of o ≤ 1024
    → (d : Divisions) → d ≡ divisions_of (num_divisions r (coords n low) (coords n high)) → in_order (coords n low) (coords n high) ≡ true → all division (counts n d) ≡ true
good n low high h o r e l m d u k = let i : r ≡ number_of o = e ∙ number-is o in counts-good n low high h r d u (rw i l) (rw i m) k

pub num_divisions-ndiv-requires : goal.num_divisions-ndiv-requires
num_divisions-ndiv-requires c = record { most = rw (c.unwrap_or.ensures, number-is c.args.settings.number) c.requires.most }

pub side-side_length-requires : goal.side-side_length-requires
side-side_length-requires c = let a =
    c.args.settings in record {
      divisions = good a.ndim.n a.low a.high c.args.settings.ndim.two_or_three a.number _ c.unwrap_or.ensures c.requires.least c.requires.most
          _ c.num_divisions-ndiv.ensures c.requires.in_order;
    }

pub covered-xmax-requires : goal.covered-xmax-requires
covered-xmax-requires c = let a =
    c.args.settings in record {
      divisions = good a.ndim.n a.low a.high c.args.settings.ndim.two_or_three a.number _ c.unwrap_or.ensures c.requires.least c.requires.most
          _ c.num_divisions-ndiv.ensures c.requires.in_order;
    }

pub returns : goal.returns
unfolding of_bits
returns c =
    let a = c.args.settings in
    built-is a.ndim.n a.low a.high c.args.settings.ndim.two_or_three a.number a.tolerance a.border_tol
    c.unwrap_or.result c.unwrap_or-border.result c.unwrap_or-2.result c.in_use-low.result c.in_use-high.result
    c.lowered-xmin.result c.raised.result c.covered-xmax.result c.num_divisions-ndiv.result c.side-side_length.result c.diagonal-d.result
    (c.unwrap_or.ensures ∙ number-is a.number) (c.unwrap_or-border.ensures ∙ border-is a.border_tol) (c.unwrap_or-2.ensures ∙ tolerance-is a.tolerance)
    c.in_use-low.ensures c.in_use-high.ensures c.num_divisions-ndiv.ensures c.lowered-xmin.ensures c.raised.ensures c.side-side_length.ensures c.covered-xmax.ensures c.diagonal-d.ensures
