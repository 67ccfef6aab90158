-- `cell_sizes::measure` meets its contract. Assumes nothing.
use Rattle.std.proofs.Common.{arith, ◌≡◌, refl}
use Rattle.std.specs.Prelude.{unwrap_or}
use lib.Ieee.{of_bits}
use Rattle.floats.specs.Rounded.{◌⊗◌, zero_f}
use Rattle.cell_sizes.proofs.Measures.{sized_apart, sized_filed, few-numbered}
use Rattle.cell_sizes.proofs.Boxes.{length-boxes}
use Rattle.cell_sizes.specs.Large.{boxes, is_large}
use Rattle.mesh.specs.Mesh.{seen}
use Rattle.cell_sizes.proofs.measure.Goals as goal

pub part-requires-clause-a : goal.part-requires-clause-a
part-requires-clause-a c =
    let n = c.args.mesh.ndim.n in
    let m = seen c.args.mesh.mesh in
    let limit = c.args.settings.large_cutoff ⊗ c.surround-all.result.largest in
    omega (arith, few-numbered (is_large limit) 0 (boxes n m), length-boxes n m, c.count_large-found.ensures.large)

pub returns-then-part-settings : goal.returns-then-part-settings
unfolding of_bits
returns-then-part-settings c =
    let n = c.args.mesh.ndim.n in
    let m = seen c.args.mesh.mesh in
    let t = c.args.settings in
    let limit = t.large_cutoff ⊗ c.surround-all.result.largest in
    let longest : c.unwrap_or.result ≡ unwrap_or c.count_large-found.result.longest zero_f = c.unwrap_or.ensures in
    rw longest
    (sized_apart n m t c.surround-all.result limit c.count_large-found.result c.cell_count.result c.part.result
    c.surround-all.ensures refl c.count_large-found.ensures c.cell_count.ensures c.part.ensures c.if-part-settings.true)

pub returns : goal.returns
returns c =
    let n = c.args.mesh.ndim.n in
    let m = seen c.args.mesh.mesh in
    let t = c.args.settings in
    let limit = t.large_cutoff ⊗ c.surround-all.result.largest in
    sized_filed n m t c.surround-all.result limit c.count_large-found.result c.cell_count.result c.part.result
    c.surround-all.ensures refl c.count_large-found.ensures c.cell_count.ensures c.part.ensures c.if-part-settings.false
