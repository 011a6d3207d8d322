-- The forms of numbers and types, as values of parameters.
use Rattle.std.specs.Prelude.{◌≡◌, ℕ, List, Result}
use Rattle.std.specs.Result.{result_map_both}
use Rattle.base_core.specs.declared.base.Decimal.{Decimal}
use Rattle.base_numerals.specs.Literals.{Ratio, number_value, ratio_of}
use Rattle.base_fixed_point.specs.declared.types.TypeText.{TypeText}
use Rattle.base_fixed_point.specs.declared.types.TypeFault.{TypeFault}
use Rattle.base_fixed_point.specs.declared.types.TypeFault.TheVariants as type_fault
use Rattle.mdl_type_texts.specs.TypeTexts.{Meaning, meaning_of, type_meaning}
use Rattle.mdl_params.specs.declared.fault.ParamFault.{ParamFault}
use Rattle.mdl_params.specs.declared.fault.ParamFault.TheVariants.{Parameter, Float}

-- the value of a number's text; a text that is none, or beyond the limits, is an error of the
-- parameter
abbrev pub number_form : List ℕ → Result Ratio ParamFault
number_form text = result_map_both (λ value. value) (λ fault. Parameter) (number_value text)

-- an error of a type's text as one of a parameter
abbrev pub fault_of_type : TypeFault → ParamFault
fault_of_type type_fault.Float = Float
fault_of_type type_fault.Form = Parameter
fault_of_type type_fault.Range = Parameter

-- what a type's text means; a text that means none is an error of the parameter, and a
-- floating-point type one of its own
abbrev pub type_form : List ℕ → Result Meaning ParamFault
type_form text = result_map_both (λ meaning. meaning) fault_of_type (type_meaning text)

-- a reading of a number gives the decimal of this value, or this error
abbrev pub ReadsNumberAs : Result Decimal ParamFault → Result Ratio ParamFault → Type 0
ReadsNumberAs result value = result_map_both ratio_of (λ fault. fault) result ≡ value

-- a reading of a type gives this meaning, or this error
abbrev pub ReadsTypeAs : Result TypeText ParamFault → Result Meaning ParamFault → Type 0
ReadsTypeAs result meaning = result_map_both meaning_of (λ fault. fault) result ≡ meaning
