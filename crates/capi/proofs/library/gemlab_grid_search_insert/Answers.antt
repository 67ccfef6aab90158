-- `capi::gemlab_grid_search_insert` meets its contract. Assumes nothing.
use Rattle.std.proofs.Common.{rules, ◌≡◌}
use Rattle.rows.specs.Insert.{inserted}
use Rattle.capi.specs.Answers.{written}
use Rattle.capi.proofs.Counts.{insertion_told}
use Rattle.capi.proofs.library.gemlab_grid_search_insert.Goals as goal

pub returns : goal.returns
returns c =
    let told : written (inserted c.insert-answer.result) c.args.used.now ≡ c.insert-answer.new.library.used =
    insertion_told _ _ _ _ _ _ c.insert-answer.ensures.gives in
    search rules
