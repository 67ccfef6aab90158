-- `floats::corrected` meets its contract: `Squares.antt` has what the code's f is, and when q, q + 1 and q - 1 are the nearest. Assumes nothing.
use Rattle.std.proofs.Common.{refl, arith}
use Rattle.floats.proofs.Squares.{f_is, rounded_of, up_one, down-one}
use Rattle.floats.proofs.corrected.Goals as goal

pub returns-then-f-q : goal.returns-then-f-q
returns-then-f-q c =
    let m = c.args.m in
    let q = c.args.guess.digits in
    let e = f_is m.units q _ _ _ (c.if-m-aa.false, refl) (c.if-c-ab.false, refl) (c.if-d-q.false, refl) in
    rounded_of m.units q m.from_one m.below_four (omega arith) (omega arith) (omega arith)

pub returns-then-f-q-2 : goal.returns-then-f-q-2
returns-then-f-q-2 c =
    let m = c.args.m in
    let q = c.args.guess.digits in
    let e = f_is m.units q _ _ _ (c.if-m-aa.false, refl) (c.if-c-ab.false, refl) (c.if-d-q.false, refl) in
    up_one m.units q m.from_one m.below_four (omega arith) (omega arith) (omega arith)

pub returns-then-f-q-ge36028797018963971 : goal.returns-then-f-q-ge36028797018963971
returns-then-f-q-ge36028797018963971 c =
    let m = c.args.m in
    let q = c.args.guess.digits in
    let e = f_is m.units q _ _ _ (c.if-m-aa.false, refl) (c.if-c-ab.false, refl) (c.if-d-q.false, refl) in
    down-one m.units q m.from_one m.below_four (omega arith) (omega arith) (omega arith)
