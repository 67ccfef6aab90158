-- The coordinates are asked one after the other, and the first that is no decimal's value decides.
-- Assumes nothing.
use Rattle.survey_export.specs.Export.{good_mark}
use Rattle.survey_export.proofs.Laws.{none_told, decimal-told}
use Rattle.survey_export.proofs.Decimals.of.Goals as goal

pub returns-in_err-x : goal.returns-in_err-x
unfolding good_mark
returns-in_err-x c = rw (c.from_residual.ensures, none_told _ c.in_err-x.ensures)

pub returns-in_err-y : goal.returns-in_err-y
unfolding good_mark
returns-in_err-y c = rw (c.from_residual-in_err-y.ensures, (decimal-told _ c.in_ok-x.ensures).0, none_told _ c.in_err-y.ensures)

pub returns-in_err-z : goal.returns-in_err-z
unfolding good_mark
returns-in_err-z c = rw (c.from_residual-in_err-z.ensures, (decimal-told _ c.in_ok-x.ensures).0, (decimal-told _ c.in_ok-y.ensures).0, none_told _ c.in_err-z.ensures)

pub returns : goal.returns
unfolding good_mark
returns c = record {
  good = rw ((decimal-told _ c.in_ok-x.ensures).0, (decimal-told _ c.in_ok-y.ensures).0, (decimal-told _ c.in_ok-z.ensures).0);
  x_is = (decimal-told _ c.in_ok-x.ensures).1;
  y_is = (decimal-told _ c.in_ok-y.ensures).1;
  z_is = (decimal-told _ c.in_ok-z.ensures).1;
}
