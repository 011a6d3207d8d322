use Rattle.std.proofs.Common.{arith, refl}
use Rattle.base_numerals.proofs.lemmas.DigitLaws.{NextDigit, next_digit, AllDigits-from_are_digits}
use Rattle.base_numerals.proofs.digits.append_digits.Goals as goal

pub loop-digit-init : goal.loop-digit-init
loop-digit-init c = record { digits = AllDigits-from_are_digits c.args.digits.now c.requires.digits; value = refl }

pub overflow_mul-number : goal.overflow_mul-number
overflow_mul-number c =
    let next : NextDigit c.args.digits.now c.loop-digit.digit-index c.loop-digit.number =
    next_digit _ _ _ c.loop-digit-test.true c.loop-digit.invariant.digits in
    omega arith

pub overflow_add-number : goal.overflow_add-number
overflow_add-number c =
    let next : NextDigit c.args.digits.now c.loop-digit.digit-index c.loop-digit.number =
    next_digit _ _ _ c.loop-digit-test.true c.loop-digit.invariant.digits in
    omega arith
