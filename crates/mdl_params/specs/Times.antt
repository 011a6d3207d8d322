-- The form of sample times.
use Rattle.std.specs.Prelude.{◌≡◌, ℕ, ◌*◌, ◌-◌, Bool, not, ◌||◌, ◌&&◌, List, [], ◌∷◌, length, take, take_while, Option, None, Some, Result, Ok, Err, pos, unsigned_abs, bytes_eq, codes, slice_index, nat_lt, ◌==◌, if◌then◌else◌}
use Rattle.std.specs.List.{list_any}
use Rattle.std.specs.Result.{result_map_both}
use Rattle.base_core.specs.declared.base.NumFault.{NumFault}
use Rattle.base_core.specs.declared.base.TimeText.{TimeText}
use Rattle.base_core.specs.declared.base.TimeText.TheVariants as held
use Rattle.base_core.specs.Bytes.{is_blank, trim, drop_while}
use Rattle.base_numerals.specs.Literals.{Ratio, number_value, plain_value, frac_parts, parts_of}
use Rattle.mdl_params.specs.declared.fault.ParamFault.{ParamFault}
use Rattle.mdl_params.specs.declared.fault.ParamFault.TheVariants.{Parameter, Continuous}

-- A sample time: inherited, constant, or a period and an offset, each a numerator and a
-- denominator.
pub data TimeMeaning : Type 0 where
  Inherit : TimeMeaning
  Constant : TimeMeaning
  Each : (period : ℕ × ℕ) (offset : ℕ × ℕ) → TimeMeaning

-- what a sample time in memory means
abbrev pub time_of : TimeText → TimeMeaning
time_of held.Inherit = Inherit
time_of held.Constant = Constant
time_of (held.Each period offset) = Each (parts_of period) (parts_of offset)

-- the first fraction is below the second
abbrev pub is_below : ℕ × ℕ → ℕ × ℕ → Bool
is_below a b = nat_lt (a.0 * b.1) (b.0 * a.1)

-- a period and an offset that are fractions within the limits, where the offset is below the period
abbrev pub each_time : Result (ℕ × ℕ) NumFault → Result (ℕ × ℕ) NumFault →
    Result TimeMeaning ParamFault
each_time (Err fault) offset = Err Parameter
each_time (Ok period) (Err fault) = Err Parameter
each_time (Ok period) (Ok offset) =
    if is_below offset period then Ok (Each period offset) else Err Parameter

-- the sample time of two numbers; a period 0 frees the offset
abbrev pub time_by_values : Ratio → Ratio → Result TimeMeaning ParamFault
time_by_values period offset =
    if unsigned_abs period.num == 0 then Err Continuous
    else each_time (frac_parts period.num period.den) (frac_parts offset.num offset.den)

-- the sample time of two texts of numbers, by what they read as
abbrev pub time_by_numbers : Result Ratio NumFault → Result Ratio NumFault →
    Result TimeMeaning ParamFault
time_by_numbers (Err fault) offset = Err Parameter
time_by_numbers (Ok period) (Err fault) = Err Parameter
time_by_numbers (Ok period) (Ok offset) = time_by_values period offset

-- whether a byte can be between two numbers: a blank or a comma
abbrev pub is_separator : ℕ → Bool
is_separator c = is_blank c || c == 44

-- bytes without a space in front
abbrev pub without_space : List ℕ → List ℕ
without_space [] = []
without_space (c ∷ rest) = if c == 32 then rest else c ∷ rest

-- what is after a separator at the front, where that is a space, `,` or `, `
abbrev pub behind_separator : List ℕ → Option (List ℕ)
behind_separator [] = None
behind_separator (c ∷ rest) =
    if c == 44 then Some (without_space rest) else if c == 32 then Some rest else None

-- the sample time of a pair, by the text of its period and by that of its offset, if it has one
abbrev pub time_by_texts : List ℕ → Option (List ℕ) → Result TimeMeaning ParamFault
time_by_texts period None = Err Parameter
time_by_texts period (Some offset) = time_by_numbers (plain_value period) (plain_value offset)

-- the sample time of a pair, by the text between its brackets
abbrev pub pair_time : List ℕ → Result TimeMeaning ParamFault
pair_time text =
    time_by_texts (take_while (λ c. not (is_separator c)) text)
    (behind_separator (drop_while (λ c. not (is_separator c)) text))

-- the text between `[` and `]`
abbrev pub between_brackets : List ℕ → Option (List ℕ)
between_brackets [] = None
between_brackets (c ∷ rest) =
    if c == 91 && slice_index rest (length rest - 1) == 93 then Some (take (length rest - 1) rest)
    else None

-- a text with a separator in it
abbrev pub if_separated : Option (List ℕ) → Option (List ℕ)
if_separated None = None
if_separated (Some text) = if list_any is_separator text then Some text else None

-- the text between the brackets of a pair
abbrev pub pair_text : List ℕ → Option (List ℕ)
pair_text text = if_separated (between_brackets text)

-- the sample time of a pair, or of a number alone, whose offset is 0
abbrev pub time_by_pair : List ℕ → Option (List ℕ) → Result TimeMeaning ParamFault
time_by_pair text None = time_by_numbers (number_value text) (Ok (record { num = pos 0; den = 1 }))
time_by_pair text (Some inside) = pair_time inside

-- whether a text is one of those for an inherited sample time
abbrev pub is_inherited : List ℕ → Bool
is_inherited text =
    bytes_eq text (codes "-1") || bytes_eq text (codes "[-1 0]") || bytes_eq text (codes "[-1, 0]")

-- whether a text is one of those for a constant one
abbrev pub is_constant : List ℕ → Bool
is_constant text =
    bytes_eq text (codes "inf") || bytes_eq text (codes "Inf") || bytes_eq text (codes "[inf 0]")

-- the sample time that a text without blanks at its ends writes
abbrev pub trimmed_time : List ℕ → Result TimeMeaning ParamFault
trimmed_time text =
    if is_inherited text then Ok Inherit
    else if is_constant text then Ok Constant
    else time_by_pair text (pair_text text)

-- the sample time that a text writes, or why it writes none
abbrev pub time_form : List ℕ → Result TimeMeaning ParamFault
time_form text = trimmed_time (trim text)

-- a reading of a sample time gives this meaning, or this error
abbrev pub ReadsTimeAs : Result TimeText ParamFault → Result TimeMeaning ParamFault → Type 0
ReadsTimeAs result meaning = result_map_both time_of (λ fault. fault) result ≡ meaning
