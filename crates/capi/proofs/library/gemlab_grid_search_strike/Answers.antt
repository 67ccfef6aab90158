-- `capi::gemlab_grid_search_strike` meets its contract. Assumes nothing.
use Rattle.std.proofs.Common.{rules, ◌≡◌, sym, ◌∙◌}
use Rattle.capi.proofs.Counts.{striking_left}
use Rattle.capi.proofs.library.gemlab_grid_search_strike.Goals.{then-is_ok, else-is_ok}
use Rattle.capi.proofs.library.gemlab_grid_search_strike.Goals as goal

pub returns : goal.returns
returns c =
    let left : c.if-is_ok.used ≡ c.strike-answer.new.library.used =
    elim c.if-is_ok.branch [
      | then-is_ok w ↦ w.used-is
      | else-is_ok w ↦ let refused = sym c.is_ok.ensures.value ∙ w.if-is_ok.false in
          w.used-is ∙ sym (striking_left _ _ _ _ _ c.strike-answer.ensures.strikes refused)
    ] in
    search rules
