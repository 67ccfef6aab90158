use Rattle.std.proofs.Common.{refl, sym, ap, length, arith}
use Rattle.lines.proofs.LineLaws.{without-stripped, without-most}
use Rattle.lines.proofs.stripped.Goals as goal

pub returns : goal.returns
returns c =
    let line = c.args.line in
    let same = without-stripped line.now c.strip_suffix.result line refl c.strip_suffix.ensures.cases in
    record {
      without_cr = rw c.unwrap_or.ensures (sym same);
      most = rw c.unwrap_or.ensures (omega (arith, ap length same, without-most line.now));
    }
