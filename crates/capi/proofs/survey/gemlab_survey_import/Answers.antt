-- `capi::gemlab_survey_import` meets its contract. Assumes nothing.
use Rattle.std.proofs.Common.{rules}
use Rattle.mark_lists.specs.MarkLists.{mark_list}
use Rattle.mark_lists.specs.Lent.{lent_mut}
use Rattle.capi.proofs.Counts.{importing_told}
use Rattle.capi.proofs.survey.gemlab_survey_import.Goals as goal

pub returns-in-Ok : goal.returns-in-Ok
returns-in-Ok c =
    let a = c.args in
    let told = importing_told (mark_list a.ids.now a.xs.now a.ys.now a.zs.now a.used.now) a.text.now c.import.result
    (lent_mut c.import.new.lists) c.import.ensures.imports in
    search rules

pub returns-in-Err-Malformed : goal.returns-in-Err-Malformed
returns-in-Err-Malformed c =
    let a = c.args in
    let told = importing_told (mark_list a.ids.now a.xs.now a.ys.now a.zs.now a.used.now) a.text.now c.import.result
    (lent_mut c.import.new.lists) c.import.ensures.imports in
    search rules

pub returns-in-Err-Refused : goal.returns-in-Err-Refused
returns-in-Err-Refused c =
    let a = c.args in
    let told = importing_told (mark_list a.ids.now a.xs.now a.ys.now a.zs.now a.used.now) a.text.now c.import.result
    (lent_mut c.import.new.lists) c.import.ensures.imports in
    search rules
