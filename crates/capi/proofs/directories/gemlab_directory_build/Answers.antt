-- `capi::gemlab_directory_build` meets its contract. Assumes nothing.
use Rattle.std.proofs.Common.{rules}
use Rattle.table.specs.Library.{library}
use Rattle.directory.specs.Lent.{kept_mut}
use Rattle.directory.specs.Directory.{directory}
use Rattle.capi.proofs.Counts.{building_told}
use Rattle.capi.proofs.directories.gemlab_directory_build.Goals as goal

pub returns : goal.returns
returns c =
    let a = c.args in
    let told = building_told c.sheet_of-sheet.result (library a.keys.now a.ids.now a.xs.now a.ys.now a.zs.now a.used)
    (directory a.dir_keys.now a.dir_firsts.now a.dir_counts.now a.dir_used.now) c.build-answer.result
    (kept_mut c.build-answer.new.directory) c.build-answer.ensures.builds in
    search rules
