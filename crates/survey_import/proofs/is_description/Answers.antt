use Rattle.std.proofs.Common.{true, ◌&&◌, ◌∙◌, sym, rules, le-leb, Bool, ℕ}
use Rattle.std.proofs.lemmas.Iterator.{YieldsList-from_slice}
use Rattle.std.proofs.lemmas.Iterator.Consumers.{fold_from_yields_List}
use Rattle.survey_import.specs.Marks.{plain, is_description}
use Rattle.geometry.proofs.Axes.{every_from_left}
use Rattle.survey_import.proofs.is_description.Goals as goal

pub returns-then-rest-le32 : goal.returns-then-rest-le32
unfolding is_description
returns-then-rest-le32 c =
    rw (le-leb _ 32 c.if-rest-le32.true)
    (fold_from_yields_List _ (λ (ok : Bool) (b : ℕ). ok && plain b) true c.fold.result c.fold.ensures.ran
    (YieldsList-from_slice c.args.rest.now cc) (λ a x b q. search rules) ∙ every_from_left plain true c.args.rest.now)
