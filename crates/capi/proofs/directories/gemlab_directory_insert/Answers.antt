-- `capi::gemlab_directory_insert` meets its contract. Assumes nothing.
use Rattle.std.proofs.Common.{rules, ◌≡◌, sym, ◌∙◌}
use Rattle.rows.specs.Insert.{inserted}
use Rattle.capi.specs.Answers.{written}
use Rattle.capi.proofs.Counts.{filing_told, filing_left}
use Rattle.capi.proofs.directories.gemlab_directory_insert.Goals as goal

pub returns-then-is_ok : goal.returns-then-is_ok
returns-then-is_ok c =
    let told : written (inserted c.insert-answer.result) c.args.used.now ≡ c.insert-answer.new.library.used =
    filing_told _ _ _ _ _ _ _ _ c.insert-answer.ensures.gives in
    search rules

pub returns-else-is_ok : goal.returns-else-is_ok
returns-else-is_ok c =
    let g = c.insert-answer.ensures.gives in
    let told : written (inserted c.insert-answer.result) c.args.used.now ≡ c.insert-answer.new.library.used =
    filing_told _ _ _ _ _ _ _ _ g in
    let left : c.args.dir_used.now ≡ c.insert-answer.new.directory.used =
    sym (filing_left _ _ _ _ _ _ _ g (sym c.is_ok.ensures.value ∙ c.if-is_ok.false)).1 in
    search rules
