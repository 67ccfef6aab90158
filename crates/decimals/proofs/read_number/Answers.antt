-- Any number of bytes but twenty; nineteen digits and no more; a twentieth byte.
-- Assumes nothing.
use Rattle.std.proofs.Common.{◌≡◌, sym, ap, ◌∙◌, length, get_or, take, rules}
use Rattle.decimals.specs.Decimals.{number_in}
use Rattle.decimals.proofs.Digits.{digits-told, digits_untold}
use Rattle.decimals.proofs.Numbers.{number_other, last_bad, last_told, front_length, front_last}
use Rattle.decimals.proofs.read_number.Goals as goal

pub returns-then-field-ne20 : goal.returns-then-field-ne20
returns-then-field-ne20 c = c.read_digits.ensures ∙ number_other _ c.if-field-ne20.true

pub returns-in_err-n : goal.returns-in_err-n
returns-in_err-n c =
    let field = c.args.field.now in
    let n : length field ≡ 20 = search rules in
    rw (front_last field n, c.from_residual.ensures) (last_bad (take 19 field) (get_or field 19 0) (front_length field n) (digits_untold 19 (take 19 field) c.in_err-n.ensures))

pub returns : goal.returns
returns c =
    let field = c.args.field.now in
    let n : length field ≡ 20 = search rules in
    let e = digits-told 19 (take 19 field) c.in_ok-n.ensures in
    c.with_digit.ensures ∙ last_told (take 19 field) (get_or field 19 0) (front_length field n) _ e.0 e.1 ∙ ap number_in (sym (front_last field n))
