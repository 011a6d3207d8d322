-- The fields of a line, and the numbers that they write.
use Rattle.std.specs.Prelude.{ℕ, Bool, true, false, not, ◌&&◌, List, [], ◌∷◌, length, filter, Option, None, Some, ℤ, nat_le, ◌==◌, if◌then◌else◌}
use Rattle.std.specs.List.{slice_split}
use Rattle.std.specs.Str.Parse.{digits_value}
use Rattle.base_core.specs.Bytes.{is_blank}
use Rattle.base_numerals.specs.Literals.{is_numeral, with_sign}

-- the fields of a line, which blanks part
abbrev pub fields : List ℕ → List (List ℕ)
fields text = filter (λ field. not (length field == 0)) (slice_split is_blank text)

-- the number of 1 to 18 digits, with a sign
abbrev pub digits_number : Bool → List ℕ → Option ℤ
digits_number negative digits =
    if is_numeral digits && nat_le (length digits) 18
    then Some (with_sign negative (digits_value 10 digits)) else None

-- the number that a field writes: perhaps a `-`, and 1 to 18 digits
abbrev pub field_number : List ℕ → Option ℤ
field_number [] = None
field_number (c ∷ rest) =
    if c == 45 then digits_number true rest else digits_number false (c ∷ rest)
