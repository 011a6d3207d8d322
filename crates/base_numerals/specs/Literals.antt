-- The texts of numbers, and their exact values.
use Rattle.std.specs.Prelude.{◌≡◌, ℕ, suc, ◌-◌, ◌*◌, ◌^◌, ◌/◌, Bool, false, not, ◌&&◌, ◌||◌, List, [], ◌∷◌, ◌++◌, length, take, take_while, Option, None, Some, Result, Ok, Err, ℤ, pos, negsuc, neg_ℤ, ◌-ℤ◌, unsigned_abs, slice_index, bytes_eq, codes, nat_le, ◌==◌, if◌then◌else◌}
use Rattle.std.specs.List.{list_all}
use Rattle.std.specs.Char.{is_ascii_digit}
use Rattle.std.specs.Str.Parse.{digits_value, starts_with_minus, without_leading_sign}
use Rattle.base_core.specs.declared.base.NumFault.{NumFault}
use Rattle.base_core.specs.declared.base.NumFault.TheVariants.{Form, Range}
use Rattle.base_core.specs.declared.base.Decimal.{Decimal}
use Rattle.base_core.specs.declared.base.Frac.{Frac}
use Rattle.std.specs.Result.{result_map_both}
use Rattle.base_core.specs.Bytes.{trim, drop_while}
use Rattle.base_core.specs.Numbers.{gcd}

-- A whole number over a positive one.
pub record Ratio : Type 0 where
  pub num : ℤ
  pub den : ℕ

-- both parts divided by a number
abbrev pub divided_by : ℤ → ℕ → ℕ → Ratio
divided_by (pos num) den divisor = record { num = pos (num / divisor); den = den / divisor }
divided_by (negsuc num) den divisor =
    record { num = neg_ℤ (pos (suc num / divisor)); den = den / divisor }

-- the same number in lowest terms
abbrev pub in_lowest_terms : ℤ → ℕ → Ratio
in_lowest_terms num den = divided_by num den (gcd (unsigned_abs num) den)

-- digits and nothing else
abbrev pub are_digits : List ℕ → Bool
are_digits text = list_all is_ascii_digit text

-- one digit or more, and nothing else
abbrev pub is_numeral : List ℕ → Bool
is_numeral text = not (length text == 0) && are_digits text

-- how many digits there are from the first that isn't 0 on
abbrev pub significant_len : List ℕ → ℕ
significant_len digits = length (drop_while (λ c. c == 48) digits)

-- at most 18 of them
abbrev pub is_short : List ℕ → Bool
is_short digits = nat_le (significant_len digits) 18

-- a magnitude with a sign
abbrev pub with_sign : Bool → ℕ → ℤ
with_sign negative n = if negative then neg_ℤ (pos n) else pos n

-- An exponent: its sign, and its digits, of which there are none where it isn't written.
pub record Exponent : Type 0 where
  pub negative : Bool
  pub digits : List ℕ

-- the exponent that the rest of a number writes: nothing, or `e` or `E`, perhaps a sign, and digits
abbrev pub exponent_of : List ℕ → Option Exponent
exponent_of [] = Some (record { negative = false; digits = [] })
exponent_of (c ∷ rest) =
    if (c == 101 || c == 69) && is_numeral (without_leading_sign rest)
    then Some (record { negative = starts_with_minus rest; digits = without_leading_sign rest })
    else None

-- n times 10 to the given power
abbrev pub times_power_of_ten : Bool → ℕ → ℤ → Ratio
times_power_of_ten negative n (pos power) = in_lowest_terms (with_sign negative (n * 10 ^ power)) 1
times_power_of_ten negative n (negsuc power) =
    in_lowest_terms (with_sign negative n) (10 ^ suc power)

-- the value of digits before and after a point with an exponent
abbrev pub point_value : Bool → List ℕ → List ℕ → Exponent → Result Ratio NumFault
point_value negative before behind exponent =
    let digits = before ++ behind in
    let power =
    with_sign exponent.negative (digits_value 10 exponent.digits) -ℤ pos (length behind) in
    if significant_len digits == 0
    then (if nat_le (length exponent.digits) 18 then Ok (record { num = pos 0; den = 1 })
    else Err Range)
    else if is_short digits && is_short exponent.digits && nat_le (unsigned_abs power) 18
    then Ok (times_power_of_ten negative (digits_value 10 digits) power)
    else Err Range

-- the same by the text of the exponent, where at least one digit is wanted
abbrev pub with_exponent : Bool → List ℕ → List ℕ → Option Exponent → Result Ratio NumFault
with_exponent negative before behind None = Err Form
with_exponent negative before behind (Some exponent) =
    if length (before ++ behind) == 0 then Err Form else point_value negative before behind exponent

-- the value of digits over digits that aren't all 0
abbrev pub quotient_value : Bool → List ℕ → List ℕ → Result Ratio NumFault
quotient_value negative over under =
    if is_numeral over && is_numeral under && not (significant_len under == 0)
    then (if is_short over && is_short under
    then Ok (in_lowest_terms (with_sign negative (digits_value 10 over)) (digits_value 10 under))
    else Err Range)
    else Err Form

-- the value of a number that begins with these digits, by what follows them
abbrev pub after_digits : Bool → List ℕ → List ℕ → Result Ratio NumFault
after_digits negative digits [] = with_exponent negative digits [] (exponent_of [])
after_digits negative digits (c ∷ rest) =
    if c == 47 then quotient_value negative digits rest
    else if c == 46
    then with_exponent negative digits (take_while is_ascii_digit rest)
    (exponent_of (drop_while is_ascii_digit rest))
    else with_exponent negative digits [] (exponent_of (c ∷ rest))

-- the value of a number without its sign, which is negative or not
abbrev pub unsigned_value : Bool → List ℕ → Result Ratio NumFault
unsigned_value negative text =
    after_digits negative (take_while is_ascii_digit text) (drop_while is_ascii_digit text)

-- the value of a number that isn't in brackets
abbrev pub plain_value : List ℕ → Result Ratio NumFault
plain_value text =
    if bytes_eq text (codes "true") then Ok (record { num = pos 1; den = 1 })
    else if bytes_eq text (codes "false") then Ok (record { num = pos 0; den = 1 })
    else unsigned_value (starts_with_minus text) (without_leading_sign text)

-- what is between `[` and `]`, or the text itself where it isn't in brackets
abbrev pub without_brackets : List ℕ → List ℕ
without_brackets [] = []
without_brackets (c ∷ rest) =
    if c == 91 && slice_index rest (length rest - 1) == 93 then take (length rest - 1) rest
    else c ∷ rest

-- the value of a number's text in lowest terms, or why it is none
abbrev pub number_value : List ℕ → Result Ratio NumFault
number_value text = plain_value (without_brackets (trim text))

-- the parts of a decimal in memory
abbrev pub ratio_of : Decimal → Ratio
ratio_of decimal = record { num = decimal.num; den = decimal.den }

-- a reading of a number gives the decimal of this value, or this error
abbrev pub ReadsAs : Result Decimal NumFault → Result Ratio NumFault → Type 0
ReadsAs result value = result_map_both ratio_of (λ fault. fault) result ≡ value

-- numerator and denominator of a decimal that is a fraction of parts up to a thousand million
abbrev pub frac_parts : ℤ → ℕ → Result (ℕ × ℕ) NumFault
frac_parts (pos num) den =
    if nat_le num 1_000_000_000 && nat_le den 1_000_000_000 then Ok (num, den) else Err Range
frac_parts (negsuc num) den = Err Range

-- the parts of a fraction in memory
abbrev pub parts_of : Frac → ℕ × ℕ
parts_of frac = (frac.num, frac.den)

-- the fraction of a decimal, or that it has none within the limits
abbrev pub FracOf : Result Frac NumFault → Decimal → Type 0
FracOf result decimal =
    result_map_both parts_of (λ fault. fault) result ≡ frac_parts decimal.num decimal.den
