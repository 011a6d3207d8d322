use Rattle.std.proofs.Common.{arith}
use Rattle.std.proofs.lemmas.Grind.{common_steps}
use Rattle.base_numerals.proofs.LiteralLaws.{quotient_value-Range}
use Rattle.base_numerals.proofs.literal.read_quotient.Goals as goal
use Rattle.base_numerals.proofs.literal.read_quotient.Goals.{then-significant_len-gt-LIMIT-via-then-significant_len-gt-LIMIT, then-significant_len-gt-LIMIT-via-else-significant_len-gt-LIMIT+then-significant_len-gt-LIMIT-2}

pub returns-then-significant_len-gt-LIMIT : goal.returns-then-significant_len-gt-LIMIT
returns-then-significant_len-gt-LIMIT c =
    elim c.then-significant_len-gt-LIMIT.branch [
      | then-significant_len-gt-LIMIT-via-then-significant_len-gt-LIMIT w ↦ grind (arith, common_steps, quotient_value-Range)
      | then-significant_len-gt-LIMIT-via-else-significant_len-gt-LIMIT+then-significant_len-gt-LIMIT-2 w ↦
          grind (arith, common_steps, quotient_value-Range)
    ]
