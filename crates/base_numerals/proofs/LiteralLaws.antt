-- The value of a number's text, by its parts.
use Rattle.std.proofs.Common.{◌≡◌, ℕ, ◌<◌, ◌≢◌, Bool, true, List, length, arith, Err}
use Rattle.std.specs.Prelude.{◌⊎◌}
use Rattle.std.proofs.lemmas.Bool.Decides.{nat_tests}
use Rattle.base_core.specs.declared.base.NumFault.TheVariants.{Range}
use Rattle.base_numerals.specs.Literals.{are_digits, is_numeral, significant_len, quotient_value}

pub quotient_value-Range : (negative : Bool) (over under : List ℕ) → length over ≢ 0 → are_digits over ≡ true →
    is_numeral under ≡ true → significant_len under ≢ 0 →
    (18 < significant_len over) ⊎ (18 < significant_len under) → quotient_value negative over under ≡ Err Range
quotient_value-Range negative over under some digits numeral other long = grind (arith, nat_tests)
