-- `grid_search::sheet_from` meets its contract. Assumes nothing.
use Rattle.std.proofs.Common.{ℕ, ◌≡◌, sym, ap, ◌∙◌, true, length, eqb, eq-eqb}
use lib.Ieee.{of_bits}
use Rattle.basics.specs.Refusals.{success, fault}
use Rattle.basics.proofs.Answers.{raised_answer}
use Rattle.geometry.specs.declared.Position.{Position}
use Rattle.geometry.specs.Position.{coords, dimension}
use Rattle.geometry.proofs.Axes.{coords-length}
use Rattle.grid_search.proofs.InForce.{number-is, tolerance-is, tests-are, in_force-passed, refused_by, refused_10, all_passed}
use Rattle.grid_search.proofs.Parts.{both-lengths}
use Rattle.grid_search.proofs.sheet_from.Goals as goal

axes : (n : ℕ) → dimension n ≡ true → (p : Position) → dimension (length (coords n p)) ≡ true
axes n h p = rw (coords-length n p h) h

same_axes : (n : ℕ) → dimension n ≡ true → (p q : Position) → eqb (length (coords n q)) (length (coords n p)) ≡ true
same_axes n h p q = eq-eqb (length (coords n q)) (length (coords n p)) (both-lengths n p q h)

pub returns-in_err-settings_fault : goal.returns-in_err-settings_fault
unfolding of_bits
returns-in_err-settings_fault c =
    let a = c.args.settings in
    let lo = coords a.ndim.n a.low in
    let hi = coords a.ndim.n a.high in
    raised_answer _ c.in_err-settings_fault.field-0.0 c.from_residual.result c.from_residual.ensures
    ∙ refused_by lo hi a.number a.tolerance a.border_tol (axes a.ndim.n c.args.settings.ndim.two_or_three a.low) (same_axes a.ndim.n c.args.settings.ndim.two_or_three a.low a.high) _
    (c.in_err-settings_fault.ensures
    ∙ ap fault (tests-are lo hi a.number a.tolerance a.border_tol _ _ _ c.unwrap_or-ndiv_long.ensures c.unwrap_or-tol.ensures c.unwrap_or-border.ensures))

pub built-sheet-requires-clause-in_order : goal.built-sheet-requires-clause-in_order
built-sheet-requires-clause-in_order c = (in_force-passed _ _ _ _ _ (sym c.in_ok-settings_fault.ensures)).order

pub built-sheet-requires-clause-least : goal.built-sheet-requires-clause-least
built-sheet-requires-clause-least c =
    rw (← number-is c.args.settings.number, ← c.unwrap_or-ndiv_long.ensures) (in_force-passed _ _ _ _ _ (sym c.in_ok-settings_fault.ensures)).least

pub built-sheet-requires-clause-most : goal.built-sheet-requires-clause-most
built-sheet-requires-clause-most c =
    rw (← number-is c.args.settings.number, ← c.unwrap_or-ndiv_long.ensures) (in_force-passed _ _ _ _ _ (sym c.in_ok-settings_fault.ensures)).most

pub returns-then-sheet-tol : goal.returns-then-sheet-tol
unfolding of_bits
returns-then-sheet-tol c =
    let a = c.args.settings in
    let lo = coords a.ndim.n a.low in
    let hi = coords a.ndim.n a.high in
    refused_10 lo hi a.number a.tolerance a.border_tol (axes a.ndim.n c.args.settings.ndim.two_or_three a.low) (same_axes a.ndim.n c.args.settings.ndim.two_or_three a.low a.high)
    (c.in_ok-settings_fault.ensures
    ∙ ap fault (tests-are lo hi a.number a.tolerance a.border_tol _ _ _ c.unwrap_or-ndiv_long.ensures c.unwrap_or-tol.ensures c.unwrap_or-border.ensures))
    (rw (← tolerance-is a.tolerance, ← c.unwrap_or-tol.ensures, ← c.built-sheet.ensures) c.if-sheet-tol.true)

pub returns : goal.returns
unfolding of_bits
returns c =
    let a = c.args.settings in
    let lo = coords a.ndim.n a.low in
    let hi = coords a.ndim.n a.high in
    ap success c.built-sheet.ensures
    ∙ all_passed lo hi a.number a.tolerance a.border_tol (axes a.ndim.n c.args.settings.ndim.two_or_three a.low) (same_axes a.ndim.n c.args.settings.ndim.two_or_three a.low a.high)
    (c.in_ok-settings_fault.ensures
    ∙ ap fault (tests-are lo hi a.number a.tolerance a.border_tol _ _ _ c.unwrap_or-ndiv_long.ensures c.unwrap_or-tol.ensures c.unwrap_or-border.ensures))
    (rw (← tolerance-is a.tolerance, ← c.unwrap_or-tol.ensures, ← c.built-sheet.ensures) c.if-sheet-tol.false)
