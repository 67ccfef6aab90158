use Rattle.listing.proofs.Answers.{axes, unknown_place, unfit_place, other_length, as_named}
use Rattle.listing.proofs.search_checked_on_place.Goals as goal

pub returns-in_default : goal.returns-in_default
returns-in_default c = unknown_place _ _ _ _ c.args.of.sound _ _ _ _ c.in_default.ensures

pub returns-then-is_unfit-is_unfit_filter : goal.returns-then-is_unfit-is_unfit_filter
returns-then-is_unfit-is_unfit_filter c =
    unfit_place _ _ _ _ c.args.of.sound _ _ _ _ c.in-Some.ensures c.is_unfit.ensures c.is_unfit_filter.ensures c.if-is_unfit-is_unfit_filter.true

pub returns-then-has_wrong_length : goal.returns-then-has_wrong_length
returns-then-has_wrong_length c =
    other_length _ _ _ _ c.args.of.sound _ _ _ _ c.in-Some.ensures c.is_unfit.ensures c.is_unfit_filter.ensures c.if-is_unfit-is_unfit_filter.false
    (c.has_wrong_length.ensures c.args.number) c.if-has_wrong_length.true

pub returns : goal.returns
returns c = as_named _ _ _ _ c.args.of.sound _ _ _ _ c.in-Some.ensures (c.has_wrong_length.ensures c.args.number) c.if-has_wrong_length.false c.search_checked_on.ensures

pub invariant_of-ndim : goal.invariant_of-ndim
invariant_of-ndim c = record { two_or_three = axes _ _ c.args.of.sound }
