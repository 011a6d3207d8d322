use Rattle.std.proofs.Common.{rules}
use Rattle.modules_report.proofs.Words.{high_bit}
use Rattle.modules_report.proofs.lines.has.Goals as goal

pub returns-else-bit-lt64 : goal.returns-else-bit-lt64
returns-else-bit-lt64 c = search (rules, high_bit c.args.mask c.args.bit c.ranges.mask.fits c.if-bit-lt64.false)
