-- The line fits.
-- Assumes nothing.
use Rattle.std.proofs.Common.{◌≡◌, length, arith, rules}
use Rattle.text.proofs.Laws.{put_front}
use Rattle.outcome.proofs.put_line.Goals as goal

pub returns : goal.returns
returns c =
    let room : 70804 ≡ length c.args.text.now = search rules in
    let put = rw (c.new-out.ensures.start, c.new-out.ensures.unchanged) at c.put_refusal.ensures.put in
    put_front put (omega (arith, room))
