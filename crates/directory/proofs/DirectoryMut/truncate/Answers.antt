-- `truncate` meets its contract: each list is filled from there on.
-- Assumes nothing.
use Rattle.table.proofs.Cleared.{filled}
use Rattle.directory.proofs.DirectoryMut.truncate.Goals as goal

pub returns-clause-cuts : goal.returns-clause-cuts
returns-clause-cuts c = λ i. record {
  keys = filled 0 c.args.n c.args.self.now.keys.now c.fill.new.self c.requires.0 (c.fill.ensures.after (λ y e. e)) i;
  firsts = filled 0 c.args.n c.args.self.now.firsts.now c.fill-2.new.self c.requires.1.0 (c.fill-2.ensures.after (λ y e. e)) i;
  counts = filled 0 c.args.n c.args.self.now.counts.now c.fill-3.new.self c.requires.1.1.0 (c.fill-3.ensures.after (λ y e. e)) i;
  used = c.args.n;
}
