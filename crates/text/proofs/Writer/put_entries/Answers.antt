use Rattle.std.proofs.Common.{◌+◌, arith, ap, length, length-append}
use Rattle.text.specs.Text.{entries}
use Rattle.text.proofs.Laws.{puts_nothing, puts_both, entries_more, entries-front}
use Rattle.text.proofs.Writer.put_entries.Goals as goal

pub loop-i-init : goal.loop-i-init
unfolding entries
loop-i-init c = puts_nothing c.args.self.now

pub put_entry-requires : goal.put_entry-requires
put_entry-requires c =
    let a = c.args in
    let i = c.loop-i.i in
    omega (
      arith,
      entries-front a.between.now a.numbers.now (i + 1),
      simp length-append at (ap length (entries_more a.between.now a.numbers.now i c.loop-i-test.true)),
      c.loop-i.invariant.put.past,
      c.requires,
    )

pub loop-i-preserved : goal.loop-i-preserved
loop-i-preserved c = rw (entries_more _ _ _ c.loop-i-test.true) (puts_both c.loop-i.invariant c.put_entry.ensures)
