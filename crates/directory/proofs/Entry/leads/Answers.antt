-- `leads` meets its contract: a law for each way out.
-- Assumes nothing.
use Rattle.std.proofs.Common.{◌∙◌, ◌+◌, ◌-◌, arith, sym, eqb, get_or, eqb-true}
use borrow.Author.Tests.{eqb-false}
use Rattle.basics.proofs.Bools.{by_test}
use Rattle.directory.proofs.Runs.{size-most, in_run, leads_false, ends-lead, goes_on}
use Rattle.directory.proofs.Entry.leads.Goals as goal

pub returns-then-self-next : goal.returns-then-self-next
returns-then-self-next c = sym (leads_false c.args.keys.now c.args.next c.args.self (λ w. c.if-self-next.true w.first-is))

pub returns-then-n-lt1 : goal.returns-then-n-lt1
returns-then-n-lt1 c = sym (leads_false c.args.keys.now c.args.next c.args.self (λ w. omega (arith, w.count-is, c.if-n-lt1.true)))

pub returns-then-keys-next : goal.returns-then-keys-next
returns-then-keys-next c =
    let most = size-most c.args.keys.now c.args.next in
    sym (leads_false c.args.keys.now c.args.next c.args.self (λ w. omega (arith, w.count-is, most w.some, c.if-keys-next.true)))

pub returns-then-keys-next-2 : goal.returns-then-keys-next-2
returns-then-keys-next-2 c = sym (leads_false c.args.keys.now c.args.next c.args.self (λ w. c.if-keys-next-2.true (sym w.key-is)))

pub returns-then-keys-end : goal.returns-then-keys-end
returns-then-keys-end c =
    let last = c.args.next + c.args.self.count - 1 in
    let within = in_run c.args.keys.now c.args.next in
    sym (leads_false c.args.keys.now c.args.next c.args.self (λ w. c.if-keys-end.true (within w.some last (omega arith) (omega (arith, w.count-is)) ∙ sym w.key-is)))

pub returns-then-end-keys : goal.returns-then-end-keys
returns-then-end-keys c =
    sym
    (ends-lead c.args.keys.now c.args.next c.args.self c.requires.rising c.if-self-next.false (omega arith) (omega arith)
    c.if-keys-next-2.false c.if-keys-end.false (λ l. absurd (omega (arith, c.if-end-keys.true))))

pub returns : goal.returns
returns c =
    let end = c.args.next + c.args.self.count in
    by_test (eqb (get_or c.args.keys.now end 0) c.args.self.key)
    (λ b. rw b (sym (goes_on c.args.keys.now c.args.next c.args.self (omega (arith, c.if-end-keys.false)) (eqb-true _ _ b))))
    (λ b. rw b
    (sym
    (ends-lead c.args.keys.now c.args.next c.args.self c.requires.rising c.if-self-next.false (omega arith) (omega arith)
    c.if-keys-next-2.false c.if-keys-end.false (λ l. eqb-false _ _ b))))
