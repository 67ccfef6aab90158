-- The front of the line, the ids and its end.
-- Assumes nothing.
use Rattle.std.proofs.Common.{◌+◌, ◌≤◌, length, length-append, arith, ap}
use Rattle.std.proofs.Math.Seq.{take_all}
use Rattle.text.specs.Text.{ascii, entries}
use Rattle.text.proofs.Laws.{puts_nothing, puts_both, entries_more, entries-front}
use Rattle.display.proofs.Picks.{listed, listed_length, listed_at, ids_text, ids_length}
use Rattle.display.proofs.Contents.put_ids.Goals as goal

pub loop-i-init : goal.loop-i-init
unfolding entries
loop-i-init c = puts_nothing c.put_text.new.self

pub put_entry-requires : goal.put_entry-requires
put_entry-requires c =
    let s = c.args.self in
    let i = c.loop-i.i in
    rw (← listed_at s i c.loop-i-test.true)
    (omega (
      arith,
      ids_length s,
      entries-front (ascii ", ") (listed s) (i + 1),
      simp length-append at (ap length (entries_more (ascii ", ") (listed s) i (omega (arith, listed_length s)))),
      c.loop-i.invariant.put.past,
      c.put_text.ensures.put.past,
    ))

pub loop-i-preserved : goal.loop-i-preserved
loop-i-preserved c =
    let s = c.args.self in
    let i = c.loop-i.i in
    rw (entries_more (ascii ", ") (listed s) i (omega (arith, listed_length s)))
    (puts_both c.loop-i.invariant (rw (← listed_at s i c.loop-i-test.true) at c.put_entry.ensures))

pub put_text-requires-2 : goal.put_text-requires-2
put_text-requires-2 c =
    let s = c.args.self in
    omega (arith, ids_length s, entries-front (ascii ", ") (listed s) c.loop-i.i, c.loop-i.invariant.put.past, c.put_text.ensures.put.past)

pub returns : goal.returns
returns c =
    let s = c.args.self in
    let all : length (listed s) ≤ c.loop-i.i = omega (arith, listed_length s) in
    rw (ids_text s) (puts_both c.put_text.ensures (puts_both (rw (take_all c.loop-i.i (listed s) all) at c.loop-i.invariant) c.put_text-2.ensures))
