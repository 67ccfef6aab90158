-- `capi::gemlab_directory_strike` meets its contract. Assumes nothing.
use Rattle.std.proofs.Common.{rules, ◌≡◌, sym, ◌∙◌}
use Rattle.capi.proofs.Counts.{filing_left}
use Rattle.capi.proofs.directories.gemlab_directory_strike.Goals.{then-is_ok, else-is_ok}
use Rattle.capi.proofs.directories.gemlab_directory_strike.Goals as goal

pub returns : goal.returns
returns c =
    let g = c.strike-answer.ensures.gives in
    let left : (c.if-is_ok.used ≡ c.strike-answer.new.library.used)
    × (c.if-is_ok.dir_used ≡ c.strike-answer.new.directory.used) =
    elim c.if-is_ok.branch [
      | then-is_ok w ↦ (w.used-is, w.dir_used-is)
      | else-is_ok w ↦ let refused = sym c.is_ok.ensures.value ∙ w.if-is_ok.false in
          let k = filing_left _ _ _ _ _ _ _ g refused in (w.used-is ∙ sym k.0, w.dir_used-is ∙ sym k.1)
    ] in
    search rules
