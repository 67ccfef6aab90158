use Rattle.std.proofs.Common.{rules}
use Rattle.survey_import.proofs.Reading.{read_some, mark_told}
use Rattle.survey_import.proofs.Stored.{storing-start, storing-next, storing_end, mark_room, line-good}
use Rattle.survey_import.proofs.store.Goals as goal

pub loop-line-init : goal.loop-line-init
loop-line-init c = record {
  storing = rw (c.into_iter-line-iterator.ensures.into_iter_gives, c.new-line-items.ensures) (storing-start _ _);
  same_lists = search rules;
}

pub unwrap-mark-requires : goal.unwrap-mark-requires
unwrap-mark-requires c = read_some _ _ c.read_line.ensures (line-good c.loop-line.invariant.storing c.requires.room c.in-Some.ensures.steps c.requires.good)

pub push-requires : goal.push-requires
push-requires c = mark_room c.loop-line.invariant.storing c.requires.room c.in-Some.ensures.steps

pub loop-line-preserved : goal.loop-line-preserved
loop-line-preserved c = record {
  storing = storing-next c.loop-line.invariant.storing c.requires.room c.in-Some.ensures.steps (mark_told _ (rw c.unwrap-mark.ensures at c.read_line.ensures)) c.push.ensures.pushes;
  same_lists = search rules;
}

pub returns-clause-stores : goal.returns-clause-stores
returns-clause-stores c = storing_end c.loop-line.invariant.storing c.requires.room c.in-None.ensures.steps.0
