-- `windows::Window::holds` meets its contract. Assumes nothing.
use Rattle.std.proofs.Common.{sym, ap, subst, T}
use lib.Ieee.{of_bits}
use Rattle.basics.proofs.Bools.{and_both}
use Rattle.windows.specs.Window.{lies}
use Rattle.windows.proofs.Tellings.{inside, out_below, out_above}
use Rattle.windows.proofs.Window.holds.Goals as goal

pub returns-then-self-s : goal.returns-then-self-s
returns-then-self-s c = let w = c.args.self in out_above w.from w.to _ (w.tells.by_over c.args.s (subst T (sym c.well_formed.1.0.1) tt) c.if-self-s.true)

pub returns-then-s-self : goal.returns-then-s-self
unfolding of_bits
returns-then-s-self c =
    let w = c.args.self in
    let u = and_both _ _ c.if-s-self.true in
    let v = and_both _ _ u.1 in
    let held = subst T (sym c.well_formed.1.0.1) tt in
    inside w.from w.to _ (w.tells.by_low c.args.s held v.0) (w.tells.by_high c.args.s held u.0 v.1)

pub returns-then-s-self-2 : goal.returns-then-s-self-2
unfolding of_bits
returns-then-s-self-2 c =
    let w = c.args.self in
    let u = and_both _ _ c.if-s-self-2.true in
    out_below w.from w.to _ (w.tells.by_under c.args.s (subst T (sym c.well_formed.1.0.1) tt) u.0 u.1)

pub returns : goal.returns
unfolding lies
returns c = let w = c.args.self in ap (lies w.from w.to) c.told-distance.ensures
