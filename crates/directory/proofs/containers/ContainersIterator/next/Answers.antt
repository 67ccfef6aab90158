-- `next` meets its contract: what is left begins with the next container, or there is none.
-- Assumes nothing.
use Rattle.std.proofs.Common.{ap, length, rules, ◌∙◌}
use Rattle.std.proofs.lemmas.List.{take_rest}
use Rattle.table.specs.Rows.{run}
use Rattle.directory.specs.Entries.{entry}
use Rattle.directory.proofs.Runs.{front-run, run-inside, none-left}
use Rattle.directory.proofs.containers.ContainersIterator.next.Goals as goal

pub returns-then-self-clause-steps : goal.returns-then-self-clause-steps
returns-then-self-clause-steps c =
    let none = none-left c.args.self.now.keys.now c.args.self.now.next (entry 0 0 0) c.if-self.true in
    (none, none)

pub overflow_add-self : goal.overflow_add-self
overflow_add-self c =
    let s = c.args.self.now in
    let inside = run-inside s.keys.now s.next c.if-self.false (c.run_of-count.ensures ∙ ap (run _) (take_rest s.keys.now s.next)) in
    search (rules, inside)

pub returns-clause-steps : goal.returns-clause-steps
returns-clause-steps c =
    let s = c.args.self.now in
    front-run s.keys.now s.next c.if-self.false (c.run_of-count.ensures ∙ ap (run _) (take_rest s.keys.now s.next))

pub returns-clause-goes : goal.returns-clause-goes
returns-clause-goes c =
    let s = c.args.self.now in
    let e = front-run s.keys.now s.next c.if-self.false (c.run_of-count.ensures ∙ ap (run _) (take_rest s.keys.now s.next)) in
    let m = ap length e in
    search rules
