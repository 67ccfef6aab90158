-- Each line of the examples gives what it states, by evaluation: one proof for the documents' lines, and one for those beside them.
-- Assumes nothing.
use mathlib.Core.Path.{refl}
use lib.ListN.{drop}
use lib.Ieee.{add, sub, mul, div, of_int, to_unsigned}
use Rattle.floats.specs.Tests.{within}
use Rattle.table.specs.Rows.{before, same, chain, put_row}
use Rattle.examples.specs.Examples.{Agree, lines, room, others, four_rows}

pub as_stated : Agree lines
unfolding lines add sub mul div of_int to_unsigned within room before same chain put_row
as_stated =
    let filed : Agree (drop 56 lines) = (refl, (refl, (refl, (refl, (refl, (refl, (refl, (refl, (refl, (refl, (refl, (refl, (refl, (refl, (refl, tt))))))))))))))) in
    let checked : Agree (drop 46 lines) = (refl, (refl, (refl, (refl, (refl, (refl, (refl, (refl, (refl, (refl, filed)))))))))) in
    let nearer : Agree (drop 37 lines) = (refl, (refl, (refl, (refl, (refl, (refl, (refl, (refl, (refl, checked))))))))) in
    let struck : Agree (drop 23 lines) = (refl, (refl, (refl, (refl, (refl, (refl, (refl, (refl, (refl, (refl, (refl, (refl, (refl, (refl, nearer)))))))))))))) in
    let rest : Agree (drop 12 lines) = (refl, (refl, (refl, (refl, (refl, (refl, (refl, (refl, (refl, (refl, (refl, struck))))))))))) in
    (refl, (refl, (refl, (refl, (refl, (refl, (refl, (refl, (refl, (refl, (refl, (refl, rest))))))))))))

pub others-stated : Agree others
unfolding others add sub mul div of_int to_unsigned within room four_rows before same chain put_row
others-stated = (refl, (refl, (refl, (refl, (refl, (refl, tt))))))
