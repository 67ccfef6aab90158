use Rattle.std.proofs.Common.{◌≡◌, get_or, set, map, ap, ◌∙◌, arith}
use lib.ListN.{length-map}
use Rattle.cell_rows.specs.Steps.{packed_key, packed_cell}
use Rattle.cell_rows.proofs.Over.{over_none, over_ahead, over_all, over-map_next}
use Rattle.cell_rows.proofs.unpack.Goals as goal

pub loop-i-init : goal.loop-i-init
loop-i-init c = record { keys = over_none c.args.keys.now; cells = over_none c.args.cells.now }

pub loop-i-preserved : goal.loop-i-preserved
loop-i-preserved c =
    let l = c.loop-i in
    let k₀ = c.args.keys.now in
    let here : get_or l.keys l.i 0 ≡ get_or k₀ l.i 0 = ap (λ x. get_or x l.i 0) l.invariant.keys ∙ over_ahead (map packed_key k₀) k₀ l.i 0 (omega (arith, length-map k₀ packed_key)) (omega arith) in
    record {
      keys = ap (λ x. set x l.i (packed_key (get_or l.keys l.i 0))) l.invariant.keys ∙ over-map_next packed_key k₀ k₀ l.i _ (omega arith) (omega arith) here;
      cells = ap (λ x. set x l.i (packed_cell (get_or l.keys l.i 0))) l.invariant.cells ∙ over-map_next packed_cell k₀ c.args.cells.now l.i _ (omega arith) (omega (arith, c.requires)) here;
    }

pub returns-clause-keys : goal.returns-clause-keys
returns-clause-keys c =
    let l = c.loop-i in
    let k₀ = c.args.keys.now in
    l.invariant.keys ∙ over_all (map packed_key k₀) k₀ l.i (omega (arith, length-map k₀ packed_key)) (omega arith)

pub returns-clause-cells : goal.returns-clause-cells
returns-clause-cells c =
    let l = c.loop-i in
    let k₀ = c.args.keys.now in
    l.invariant.cells ∙ over_all (map packed_cell k₀) c.args.cells.now l.i (omega (arith, length-map k₀ packed_cell)) (omega (arith, c.requires))
