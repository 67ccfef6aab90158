-- `grid_search::is_sheet` meets its contract. Assumes nothing.
use Rattle.std.proofs.Common.{ℕ, ◌≡◌, sym, Result, Err}
use Rattle.std.proofs.Math.Option.{Option, some}
use Rattle.basics.specs.declared.Refusal.{Refusal}
use Rattle.basics.specs.Answers.{refusal_number, fault_in}
use Rattle.geometry.proofs.NoAxes.{no_axes-told}
use Rattle.grid_search.specs.Sheet.{sheet_ok}
use Rattle.grid_search.proofs.Good.{no_axes}
use Rattle.grid_search.proofs.is_sheet.Goals as goal

-- what is told of a number that no dimension is made of
told : {A : Type 0} {r : Result A Refusal} {e : Refusal} {o : Option ℕ} → fault_in r ≡ o → r ≡ Err e → some (refusal_number e) ≡ o
told h k = rw k at h

pub returns-in_default : goal.returns-in_default
returns-in_default c = sym (no_axes c.args.s (no_axes-told c.args.s.ndim _ (told (c.try_from.ensures.0) c.in_default.is)).0)

pub returns-in-Ok-sheet_from : goal.returns-in-Ok-sheet_from
unfolding sheet_ok
returns-in-Ok-sheet_from c =
    let made = rw (c.in-Ok.ensures.1, c.in-Ok-sheet_from.is) at c.sheet_from.ensures in
    rw (← made) c.same_sheet.ensures

pub returns-in-Err : goal.returns-in-Err
unfolding sheet_ok
returns-in-Err c =
    let made = rw (c.in-Ok.ensures.1, c.in-Err.is) at c.sheet_from.ensures in
    rw (← made)
