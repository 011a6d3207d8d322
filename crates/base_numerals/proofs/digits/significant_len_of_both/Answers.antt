use Rattle.std.proofs.Common.{arith}
use Rattle.std.proofs.lemmas.Bool.Decides.{nat_tests}
use Rattle.base_numerals.proofs.lemmas.DigitLaws.{significant_len-append}
use Rattle.base_numerals.proofs.digits.significant_len_of_both.Goals as goal

pub returns-in-0 : goal.returns-in-0
returns-in-0 c = rw significant_len-append (grind (arith, nat_tests))

pub returns-in_default : goal.returns-in_default
returns-in_default c = rw significant_len-append (grind (arith, nat_tests))
