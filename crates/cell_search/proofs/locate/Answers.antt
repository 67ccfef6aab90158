-- `cell_search::locate` meets its contract. Assumes nothing.
use Rattle.std.proofs.Common.{sym, ◌∙◌, eq-eqb, ne_eqb}
use Rattle.basics.specs.Refusals.{fault, answer}
use Rattle.geometry.proofs.Axes.{coords_of}
use Rattle.grid_cells.specs.Build.{containers_of}
use Rattle.cell_search.specs.Search.{asked_tests}
use Rattle.cell_search.proofs.Answers.{usable_index, last_asked}
use Rattle.cell_search.proofs.locate.Goals as goal

pub returns-then-nzeta-ne4 : goal.returns-then-nzeta-ne4
unfolding asked_tests fault answer
returns-then-nzeta-ne4 c = rw (ne_eqb _ _ c.if-nzeta-ne4.true)

pub returns-then-x-grid : goal.returns-then-x-grid
unfolding asked_tests fault answer
returns-then-x-grid c = rw (eq-eqb _ _ c.if-nzeta-ne4.false, ne_eqb _ _ c.if-x-grid.true)

pub returns-then-not-all_coordinates : goal.returns-then-not-all_coordinates
unfolding asked_tests fault answer
returns-then-not-all_coordinates c =
    let wrong = rw (c.all_coordinates.ensures, c.all_coordinates-2.ensures) at (c.if-not-all_coordinates.true) in
    rw (eq-eqb _ _ c.if-nzeta-ne4.false, eq-eqb _ _ c.if-x-grid.false, wrong)

pub returns-then-is_outside : goal.returns-then-is_outside
unfolding asked_tests fault answer
returns-then-is_outside c =
    let g = c.args.index.grid in
    let right = rw (c.all_coordinates.ensures, c.all_coordinates-2.ensures) at (c.if-not-all_coordinates.false) in
    let position = coords_of g.ndim c.args.x.now c.new-at.result (usable_index c.args.index).keyed.axes c.if-x-grid.false c.new-at.ensures in
    let beyond = rw (c.args.index.axes, position) at c.is_outside.ensures in
    rw (eq-eqb _ _ c.if-nzeta-ne4.false, eq-eqb _ _ c.if-x-grid.false, right, sym beyond ∙ c.if-is_outside.true)

pub container-requires : goal.container-requires
container-requires c = rw c.containers.ensures (usable_index c.args.index).keyed

pub returns : goal.returns
unfolding asked_tests fault answer
returns c =
    let g = c.args.index.grid in
    let right = rw (c.all_coordinates.ensures, c.all_coordinates-2.ensures) at (c.if-not-all_coordinates.false) in
    let position = coords_of g.ndim c.args.x.now c.new-at.result (usable_index c.args.index).keyed.axes c.if-x-grid.false c.new-at.ensures in
    let beyond = rw (c.args.index.axes, position) at c.is_outside.ensures in
    let located = rw (c.containers.ensures, position) at c.container.ensures in
    rw (c.ok_or.ensures.value, located, eq-eqb _ _ c.if-nzeta-ne4.false, eq-eqb _ _ c.if-x-grid.false, right, sym beyond ∙ c.if-is_outside.false) (last_asked (containers_of g) c.args.x.now)
