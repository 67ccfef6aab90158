-- `is_match` meets its contract.
-- Assumes nothing.
use Rattle.std.proofs.Common.{arith, ◌∙◌, sym, ap, drop}
use Rattle.directory.specs.declared.Entry.{Entry}
use Rattle.directory.specs.Entries.{entries_from}
use Rattle.directory.specs.Posts.{leads}
use Rattle.directory.proofs.Match.{match_stop, match_within, match_next, match_end}
use Rattle.directory.proofs.Directory.is_match.Goals as goal

pub returns-then-not-leads : goal.returns-then-not-leads
returns-then-not-leads c =
    let Leads = λ (e : Entry). leads e (entries_from c.loop-p.next (drop c.loop-p.next c.args.keys.now)) in
    sym (match_stop _ _ c.loop-p.invariant c.loop-p-test.true (sym (ap Leads c.entry-entry.ensures) ∙ sym c.leads.ensures ∙ c.if-not-leads.true))

pub overflow_add-next : goal.overflow_add-next
overflow_add-next c =
    let Leads = λ (e : Entry). leads e (entries_from c.loop-p.next (drop c.loop-p.next c.args.keys.now)) in
    let most = match_within _ _ c.loop-p.invariant c.loop-p-test.true (sym (ap Leads c.entry-entry.ensures) ∙ sym c.leads.ensures ∙ c.if-not-leads.false) in
    omega (arith, ap (λ (e : Entry). e.count) c.entry-entry.ensures)

pub loop-p-preserved : goal.loop-p-preserved
loop-p-preserved c =
    let Leads = λ (e : Entry). leads e (entries_from c.loop-p.next (drop c.loop-p.next c.args.keys.now)) in
    rw c.entry-entry.ensures (match_next _ _ c.loop-p.invariant c.loop-p-test.true (sym (ap Leads c.entry-entry.ensures) ∙ sym c.leads.ensures ∙ c.if-not-leads.false))

pub returns : goal.returns
returns c = sym (match_end _ _ c.loop-p.invariant c.loop-p-test.false)
