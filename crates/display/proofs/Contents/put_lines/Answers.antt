-- Each turn takes the keys of one container, and as many ids.
-- Assumes nothing.
use Rattle.std.proofs.Common.{eqb, length, length-append, arith, rules, ap}
use Rattle.std.proofs.lemmas.List.Sorted.{answers_always}
use Rattle.display.proofs.Walks.{walk-start, walk_more, walk_room, walk_count, walk_end}
use Rattle.display.proofs.Contents.put_lines.Goals as goal

pub loop-run-init : goal.loop-run-init
loop-run-init c =
    rw (c.into_iter-run-iterator.ensures.into_iter_gives, c.chunk_by-run-items.ensures.rest)
    (walk-start c.args.self.keys.now c.args.self.ids.now c.args.out.now c.args.self.level c.args.self.in_order)

pub split_at-requires : goal.split_at-requires
split_at-requires c =
    let step = rw c.in-Some.is at c.next.ensures.steps in
    omega (arith, c.loop-run.invariant.level, simp length-append at (ap length step.0))

pub put_line-requires : goal.put_line-requires
put_line-requires c =
    let step = rw c.in-Some.is at c.next.ensures.steps in
    let prefix = (step.2 eqb (answers_always _ _ _ (λ f a r f' k. search rules))).1 in
    rw c.split_at.ensures.front
    (walk_room _ _ _ _ c.in-Some.run'.now c.next.new.self.rest.now _ _ (rw step.0 at c.loop-run.invariant) step.1 (rw step.0 at prefix) c.requires)

pub overflow_add-n : goal.overflow_add-n
overflow_add-n c =
    let step = rw c.in-Some.is at c.next.ensures.steps in
    let prefix = (step.2 eqb (answers_always _ _ _ (λ f a r f' k. search rules))).1 in
    record { fits = walk_count _ _ _ _ c.in-Some.run'.now c.next.new.self.rest.now _ _ (rw step.0 at c.loop-run.invariant) step.1 (rw step.0 at prefix) c.requires }

pub loop-run-preserved : goal.loop-run-preserved
loop-run-preserved c =
    let step = rw c.in-Some.is at c.next.ensures.steps in
    let prefix = (step.2 eqb (answers_always _ _ _ (λ f a r f' k. search rules))).1 in
    rw c.split_at.ensures.back
    (walk_more _ _ _ _ c.in-Some.run'.now c.next.new.self.rest.now _ _ (rw step.0 at c.loop-run.invariant) step.1 (rw step.0 at prefix) (rw c.split_at.ensures.front at c.put_line.ensures))

pub returns-clause-puts : goal.returns-clause-puts
returns-clause-puts c =
    let step = rw c.in-None.is at c.next.ensures.steps in
    (walk_end _ _ _ _ _ _ _ c.loop-run.invariant step.0).0

pub returns-clause-count : goal.returns-clause-count
returns-clause-count c =
    let step = rw c.in-None.is at c.next.ensures.steps in
    (walk_end _ _ _ _ _ _ _ c.loop-run.invariant step.0).1
