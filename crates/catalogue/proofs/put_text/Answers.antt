-- The sheet that was read is good where it is not refused.
-- Assumes nothing.
use Rattle.catalogue.proofs.Laws.{good-sheet, of_files}
use Rattle.catalogue.proofs.put_text.Goals as goal

pub put_catalogue-requires : goal.put_catalogue-requires
put_catalogue-requires g c = good-sheet _ c.read_sheet-sheet.ensures

pub returns : goal.returns
returns g c = record { prefix_len = c.put_catalogue.ensures.prefix_len; printed = of_files _ _ c.read_sheet-sheet.ensures c.put_catalogue.ensures.judged }
