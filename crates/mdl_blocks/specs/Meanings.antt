-- What is written for a type or a time of a block.
use Rattle.std.specs.Prelude.{ℕ, ◌==◌, Bool, true, false, ◌||◌, if◌then◌else◌, List, Option, Some, None, option_map, option_and_then, Result, Ok, Err, bytes_eq, codes}
use Rattle.base_core.specs.Bytes.{trim}
use Rattle.base_numerals.specs.Literals.{Ratio}
use Rattle.mdl_type_texts.specs.TypeTexts.{Meaning, Inherit, Logical, Back, Fixed}
use Rattle.mdl_params.specs.declared.ParamFault.{ParamFault}
use Rattle.mdl_params.specs.declared.ParamFault.TheVariants.{Parameter, Float, Continuous}
use Rattle.mdl_params.specs.Forms.{type_form}
use Rattle.mdl_params.specs.Times as time
use Rattle.mdl_params.specs.Times.{TimeMeaning, time_form}
use Rattle.mdl_blocks.specs.Words.{number_in}

-- ---- Types

-- What is written for a type: what it means, or a floating-point type.
pub data TypeSaid : Type 0 where
  known_type : Meaning → TypeSaid
  float_type : TypeSaid

-- what is written for a type, by what its text reads as
abbrev pub type_by : Result Meaning ParamFault → Option TypeSaid
type_by (Ok meaning) = Some (known_type meaning)
type_by (Err Parameter) = None
type_by (Err Float) = Some float_type
type_by (Err Continuous) = None

-- what is written for a type
abbrev pub type_in : List ℕ → Option TypeSaid
type_in text = type_by (type_form text)

-- a type, unless it is a written one with bits after the point
abbrev pub unless_fractional : TypeSaid → Option TypeSaid
unless_fractional (known_type Inherit) = Some (known_type Inherit)
unless_fractional (known_type Logical) = Some (known_type Logical)
unless_fractional (known_type Back) = Some (known_type Back)
unless_fractional (known_type (Fixed type)) =
    if type.frac == 0 then Some (known_type (Fixed type)) else None
unless_fractional float_type = Some float_type

-- what is written for a type that has no bits after the point
abbrev pub whole_type_in : List ℕ → Option TypeSaid
whole_type_in text = option_and_then unless_fractional (type_in text)

-- ---- Times

-- What is written for a time: what it means, or a period 0.
pub data TimeSaid : Type 0 where
  known_time : TimeMeaning → TimeSaid
  zero_time : TimeSaid

-- what is written for a time, by what its text reads as
abbrev pub time_by : Result TimeMeaning ParamFault → Option TimeSaid
time_by (Ok meaning) = Some (known_time meaning)
time_by (Err Parameter) = None
time_by (Err Float) = None
time_by (Err Continuous) = Some zero_time

-- what is written for a time, which may be a constant one
abbrev pub any_time_in : List ℕ → Option TimeSaid
any_time_in text = time_by (time_form text)

-- a time, unless it is a constant one
abbrev pub unless_constant : TimeSaid → Option TimeSaid
unless_constant (known_time time.Inherit) = Some (known_time time.Inherit)
unless_constant (known_time time.Constant) = None
unless_constant (known_time (time.Each period offset)) = Some (known_time (time.Each period offset))
unless_constant zero_time = Some zero_time

-- what is written for a time that may not be constant
abbrev pub time_in : List ℕ → Option TimeSaid
time_in text = option_and_then unless_constant (any_time_in text)

-- the time of a rate transition's output, by whether it is inherited; a period 0 counts all the
-- same
abbrev pub out_time : (inherits : Bool) → TimeSaid → TimeSaid
out_time false said = said
out_time true (known_time meaning) = known_time time.Inherit
out_time true zero_time = zero_time

-- ---- Constants

-- What is written for a constant: its number, and whether it is written as a truth value.
pub record ConstantSaid : Type 0 where
  pub value : Ratio
  pub is_truth : Bool

-- whether a text is a truth value
abbrev pub is_truth : List ℕ → Bool
is_truth text = bytes_eq (trim text) (codes "true") || bytes_eq (trim text) (codes "false")

-- what is written for a constant
abbrev pub constant_in : List ℕ → Option ConstantSaid
constant_in text =
    option_map (λ value. record { value = value; is_truth = is_truth text }) (number_in text)
