-- The extremes of each axis.
-- Assumes nothing.
use mathlib.Core.Path.{◌∙◌}
use lib.ListN.{take}
use Rattle.mark_lists.specs.Lent.{lent}
use Rattle.surveyed.proofs.Texts.{of_extremes, sheet-is}
use Rattle.surveyed.proofs.sheet_of_marks.Goals as goal

pub returns : goal.returns
returns c =
    let l = lent c.args.marks.lists in
    let r = c.args.marks.room in
    c.new.ensures
    ∙ of_extremes (take l.used l.xs) (take l.used l.ys) (take l.used l.zs)
    c.lowest.ensures
    c.lowest-2.ensures
    c.lowest-3.ensures
    c.highest.ensures
    c.highest-2.ensures
    c.highest-3.ensures
    ∙ sheet-is l r.1.0 r.1.1.0 r.1.1.1.0
