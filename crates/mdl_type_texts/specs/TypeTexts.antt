-- The texts of types.
use Rattle.std.specs.Prelude.{◌≡◌, ℕ, ◌-◌, Bool, true, false, ◌&&◌, ◌||◌, List, [], ◌∷◌, length, take, drop, Option, None, Some, Result, Ok, Err, bytes_eq, codes, slice_index, nat_eq, nat_lt, ◌==◌, if◌then◌else◌}
use Rattle.std.specs.List.{starts_with, before_first, after_first}
use Rattle.std.specs.Result.{result_map_both}
use Rattle.std.specs.Str.Parse.{digits_value}
use Rattle.base_core.specs.Bytes.{trim}
use Rattle.base_numerals.specs.Literals.{is_numeral}
use Rattle.base_fixed_point.specs.declared.types.FixType.{FixType}
use Rattle.base_fixed_point.specs.declared.types.TypeText.{TypeText}
use Rattle.base_fixed_point.specs.declared.types.TypeText.TheVariants as held
use Rattle.base_fixed_point.specs.declared.types.TypeFault.{TypeFault}
use Rattle.base_fixed_point.specs.declared.types.TypeFault.TheVariants.{Form, Float, Range}
use Rattle.base_fixed_point.specs.Profile.{in_profile}

-- A type by its three numbers.
pub record Format : Type 0 where
  pub signed : Bool
  pub bits : ℕ
  pub frac : ℕ

-- What a type's text means: to inherit by the block's rule, boolean, no type, or a type.
pub data Meaning : Type 0 where
  Inherit : Meaning
  Logical : Meaning
  Back : Meaning
  Fixed : Format → Meaning

-- the numbers of a type
abbrev pub format_of : FixType → Format
format_of t = record { signed = t.signed; bits = t.bits; frac = t.frac }

-- the same of a text's meaning in memory
abbrev pub meaning_of : TypeText → Meaning
meaning_of held.Inherit = Inherit
meaning_of held.Logical = Logical
meaning_of held.Back = Back
meaning_of (held.Fixed t) = Fixed (format_of t)

-- whether the first text is somewhere in the second
abbrev pub stands_in : List ℕ → List ℕ → Bool
stands_in part [] = length part == 0
stands_in part (c ∷ rest) = starts_with nat_eq (c ∷ rest) part || stands_in part rest

-- a type without bits after the point
abbrev pub integer_format : Bool → ℕ → Format
integer_format signed bits = record { signed = signed; bits = bits; frac = 0 }

-- the type that a name stands for
abbrev pub named_format : List ℕ → Option Format
named_format text =
    if bytes_eq text (codes "int8") then Some (integer_format true 8)
    else if bytes_eq text (codes "int16") then Some (integer_format true 16)
    else if bytes_eq text (codes "int32") then Some (integer_format true 32)
    else if bytes_eq text (codes "uint8") then Some (integer_format false 8)
    else if bytes_eq text (codes "uint16") then Some (integer_format false 16)
    else if bytes_eq text (codes "uint32") then Some (integer_format false 32)
    else if bytes_eq text (codes "boolean") then Some (integer_format false 1)
    else None

-- whether a name is that of a floating-point type
abbrev pub is_float : List ℕ → Bool
is_float text =
    bytes_eq text (codes "double") || bytes_eq text (codes "single") || bytes_eq text (codes "half")

-- what a text that begins `Inherit:` means
abbrev pub inherited_meaning : List ℕ → Meaning
inherited_meaning text =
    if starts_with nat_eq text (codes "Inherit: Logical") then Logical
    else if stands_in (codes "back propagation") text then Back
    else Inherit

-- the sign that the first part of `fixdt(s,w,f)` writes
abbrev pub sign_of : List ℕ → Option Bool
sign_of text =
    if bytes_eq text (codes "0") || bytes_eq text (codes "false") then Some false
    else if bytes_eq text (codes "1") || bytes_eq text (codes "true") then Some true
    else None

-- a type by its sign and the digits of its width and of its bits after the point
abbrev pub format_meaning : Option Bool → List ℕ → List ℕ → Result Meaning TypeFault
format_meaning None width frac = Err Form
format_meaning (Some signed) width frac =
    if is_numeral width && is_numeral frac
    then (if in_profile signed (digits_value 10 width) (digits_value 10 frac)
    then Ok (Fixed
    (record { signed = signed; bits = digits_value 10 width; frac = digits_value 10 frac }))
    else Err Range)
    else Err Form

-- whether a byte is a comma
abbrev pub is_comma : ℕ → Bool
is_comma c = c == 44

-- a type by what is between the brackets of `fixdt(s,w,f)`; a part that isn't there is empty,
-- and the last one is all that is left
abbrev pub fixdt_meaning : List ℕ → Result Meaning TypeFault
fixdt_meaning text =
    let rest = after_first is_comma text in
    format_meaning (sign_of (trim (before_first is_comma text))) (trim (before_first is_comma rest))
    (trim (after_first is_comma rest))

-- whether a text begins `fixdt(` and ends in `)`
abbrev pub is_fixdt : List ℕ → Bool
is_fixdt text =
    starts_with nat_eq text (codes "fixdt(")
    && (nat_lt 6 (length text) && slice_index text (length text - 1) == 41)

-- what a text means that is no name of a type
abbrev pub unnamed_meaning : List ℕ → Result Meaning TypeFault
unnamed_meaning text =
    if is_float text then Err Float
    else if starts_with nat_eq text (codes "Inherit:") then Ok (inherited_meaning text)
    else if is_fixdt text then fixdt_meaning (drop 6 (take (length text - 1) text))
    else Err Form

-- what a text without blanks at its ends means, by the type that it names
abbrev pub named_meaning : Option Format → List ℕ → Result Meaning TypeFault
named_meaning (Some format) text = Ok (Fixed format)
named_meaning None text = unnamed_meaning text

-- what a type's text means, or why it is none
abbrev pub type_meaning : List ℕ → Result Meaning TypeFault
type_meaning text = named_meaning (named_format (trim text)) (trim text)

-- a reading of the text gives its meaning, or its error
abbrev pub ReadsTypeAs : Result TypeText TypeFault → Result Meaning TypeFault → Type 0
ReadsTypeAs result meaning = result_map_both meaning_of (λ fault. fault) result ≡ meaning
