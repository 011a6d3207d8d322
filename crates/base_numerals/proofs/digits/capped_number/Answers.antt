use Rattle.std.proofs.Common.{arith}
use Rattle.base_numerals.proofs.lemmas.DigitLaws.{IsDigitAt, digit_at}
use Rattle.base_numerals.proofs.digits.capped_number.Goals as goal

pub loop-digit-preserved : goal.loop-digit-preserved
loop-digit-preserved c =
    let digit : IsDigitAt c.args.digits.now c.loop-digit.digit-index = digit_at _ _ c.loop-digit-test.true c.requires in
    omega (arith, digit.more)
