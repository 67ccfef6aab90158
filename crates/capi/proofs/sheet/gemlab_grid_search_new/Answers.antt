-- `capi::gemlab_grid_search_new` meets its contract. Assumes nothing.
use Rattle.std.proofs.Common.{◌≡◌, true, ℕ, length, eq-eqb, ne_eqb, List, Float}
use Rattle.basics.proofs.Bools.{both}
use Rattle.capi.specs.Sheets.{given_number, given_float, sheet_lengths}
use Rattle.capi.proofs.SheetLaws.{told_13, told-refused, told-sheet}
use Rattle.capi.proofs.sheet.gemlab_grid_search_new.Goals as goal

lengths : (numbers : List ℕ) (floats : List Float) → length numbers ≡ 8 → length floats ≡ 17 → sheet_lengths numbers floats ≡ true
lengths numbers floats n f = both (eq-eqb (length numbers) 8 n) (eq-eqb (length floats) 17 f)

pub returns-then-numbers-ne-NUMBERS : goal.returns-then-numbers-ne-NUMBERS
returns-then-numbers-ne-NUMBERS c =
    let a = c.args in
    told_13 a.xmin.now a.xmax.now (given_number a.ndiv_given a.ndiv) (given_float a.tolerance_given a.tolerance) (given_float a.border_tol_given a.border_tol) a.numbers.now a.floats.now
    (rw (ne_eqb (length a.numbers.now) 8 c.if-numbers-ne-NUMBERS.true))

pub returns-then-floats-ne-FLOATS : goal.returns-then-floats-ne-FLOATS
returns-then-floats-ne-FLOATS c =
    let a = c.args in
    told_13 a.xmin.now a.xmax.now (given_number a.ndiv_given a.ndiv) (given_float a.tolerance_given a.tolerance) (given_float a.border_tol_given a.border_tol) a.numbers.now a.floats.now
    (rw (eq-eqb (length a.numbers.now) 8 c.if-numbers-ne-NUMBERS.false, ne_eqb (length a.floats.now) 17 c.if-floats-ne-FLOATS.true))

pub returns-in-Ok : goal.returns-in-Ok
returns-in-Ok c =
    let a = c.args in
    let made = rw (c.given.ensures, c.given-2.ensures, c.given-3.ensures, c.in-Ok.is) at c.new-made.ensures in
    told-sheet a.xmin.now a.xmax.now (given_number a.ndiv_given a.ndiv) (given_float a.tolerance_given a.tolerance) (given_float a.border_tol_given a.border_tol) a.numbers.now a.floats.now
    c.in-Ok.sheet c.copy_from_slice.new.self c.copy_from_slice-in-Ok.new.self (lengths _ _ c.if-numbers-ne-NUMBERS.false c.if-floats-ne-FLOATS.false) made
    (rw (c.copy_from_slice.ensures.after, c.numbers_of.ensures)) (rw (c.copy_from_slice-in-Ok.ensures.after, c.floats_of.ensures))

pub returns-in-Err : goal.returns-in-Err
returns-in-Err c =
    let a = c.args in
    let made = rw (c.given.ensures, c.given-2.ensures, c.given-3.ensures, c.in-Err.is) at c.new-made.ensures in
    rw c.from.ensures
    (told-refused a.xmin.now a.xmax.now (given_number a.ndiv_given a.ndiv) (given_float a.tolerance_given a.tolerance) (given_float a.border_tol_given a.border_tol) a.numbers.now a.floats.now
    _ (lengths _ _ c.if-numbers-ne-NUMBERS.false c.if-floats-ne-FLOATS.false) made)
