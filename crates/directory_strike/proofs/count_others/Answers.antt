-- `count_others` meets its contract.
-- Assumes nothing.
use Rattle.std.proofs.Common.{◌≡◌, ◌==◌, ◌∙◌, sym, rules, not, count_by}
use Rattle.directory_strike.proofs.Pass.{others-count}
use Rattle.directory_strike.proofs.count_others.Goals as goal

pub returns : goal.returns
returns c = let told : c.count.result ≡ count_by (λ j. not (j == c.args.id)) c.args.ids.now = search rules in told ∙ sym (others-count c.args.id c.args.ids.now)
