use Rattle.modules_certificate.proofs.Bits.{tells, high-tells}
use Rattle.modules_certificate.proofs.checking.is_in_just_one.Goals as goal

pub returns-then-bit-lt64 : goal.returns-then-bit-lt64
returns-then-bit-lt64 c = tells c.args.a c.args.b c.args.bit

pub returns-else-bit-lt64 : goal.returns-else-bit-lt64
returns-else-bit-lt64 c = high-tells c.args.a c.args.b c.args.bit c.ranges.a.fits c.ranges.b.fits c.if-bit-lt64.false
