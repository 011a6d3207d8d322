-- What the row of a block says.
use Rattle.std.specs.Prelude.{◌≡◌, Bool, true, false, not, ◌&&◌, if◌then◌else◌, Option, Some, None}
use Rattle.std.specs.Option.{option_or}
use Rattle.base_core.specs.declared.Control.{Control}
use Rattle.base_core.specs.declared.Decimal.{Decimal}
use Rattle.base_core.specs.declared.TimeText.{TimeText}
use Rattle.base_numerals.specs.Literals.{ratio_of}
use Rattle.base_fixed_point.specs.declared.TypeText.{TypeText}
use Rattle.mdl_type_texts.specs.TypeTexts.{meaning_of, Inherit, Logical, Back, Fixed}
use Rattle.diagram_blocks.specs.declared.Kind.{Kind}
use Rattle.diagram_blocks.specs.declared.Kind.TheVariants as row
use Rattle.mdl_params.specs.Times.{time_of}
use Rattle.mdl_blocks.specs.declared.fault.Fault.{Fault}
use Rattle.mdl_blocks.specs.declared.fault.Fault.TheVariants.{Continuous, FloatType}
use Rattle.mdl_blocks.specs.Meanings.{TypeSaid, known_type, float_type, TimeSaid, known_time, zero_time}
use Rattle.mdl_blocks.specs.Blocks.{KindText, BodyText, inport, outport, subsystem, constant, ground, terminator, gain, sum, product, unit_delay, delay, zero_order_hold, switch, relational, logic, convert, rate_transition, enable_port, trigger_port}
use Rattle.mdl_blocks.specs.Rows.{gain_with}

-- ---- Rows

-- a type is what is written
abbrev pub IsType : TypeSaid → TypeText → Type 0
IsType (known_type meaning) type = meaning_of type ≡ meaning
IsType float_type type = ⊥

-- a time is what is written
abbrev pub IsTime : TimeSaid → TimeText → Type 0
IsTime (known_time meaning) time = time_of time ≡ meaning
IsTime zero_time time = ⊥

-- a block of this kind, with this control where it is a subsystem, has a row of this kind
abbrev pub IsKind : KindText → Control → Kind → Type 0
IsKind (inport port) control k = k ≡ row.Inport port
IsKind (outport port reset initial) control k =
    (d : Decimal) × (ratio_of d ≡ initial) × (k ≡ row.Outport port reset d)
IsKind (subsystem system) control k = k ≡ row.SubSystem control
IsKind (constant said) control k = (d : Decimal) × (ratio_of d ≡ said.value) × (k ≡ row.Constant d)
IsKind ground control k = k ≡ row.Ground
IsKind terminator control k = k ≡ row.Terminator
IsKind (gain factor factor_type how) control k =
    (d : Decimal) × (type : TypeText) × (ratio_of d ≡ factor) × IsType factor_type type
    × (k ≡ row.Gain (gain_with d type) how)
IsKind (sum count minus how) control k = k ≡ row.Sum count minus how
IsKind (product count how) control k = k ≡ row.Product count how
IsKind (unit_delay initial) control k =
    (d : Decimal) × (ratio_of d ≡ initial) × (k ≡ row.UnitDelay d)
IsKind (delay length initial) control k =
    (d : Decimal) × (ratio_of d ≡ initial) × (k ≡ row.Delay length d)
IsKind zero_order_hold control k = k ≡ row.ZeroOrderHold
IsKind (switch criterion threshold how) control k =
    (d : Decimal) × (ratio_of d ≡ threshold) × (k ≡ row.Switch criterion d how)
IsKind (relational comparison) control k = k ≡ row.Relational comparison
IsKind (logic op count) control k = k ≡ row.Logic op count
IsKind (convert how) control k = k ≡ row.Convert how
IsKind (rate_transition initial out) control k =
    (d : Decimal) × (time : TimeText) × (ratio_of d ≡ initial) × IsTime out time
    × (k ≡ row.RateTransition d time)
IsKind (enable_port reset) control k = k ≡ row.EnablePort
IsKind (trigger_port edge) control k = k ≡ row.TriggerPort

-- ---- Errors

-- whether a period 0 is written
abbrev pub is_zero : TimeSaid → Bool
is_zero (known_time meaning) = false
is_zero zero_time = true

-- whether a floating-point type is written
abbrev pub is_float : TypeSaid → Bool
is_float (known_type meaning) = false
is_float float_type = true

-- whether a type is that of the block's rule
abbrev pub is_inherited : TypeSaid → Bool
is_inherited (known_type Inherit) = true
is_inherited _ = false

-- whether a block of this kind writes a period 0 for its output
abbrev pub has_zero_output : KindText → Bool
has_zero_output (rate_transition initial out) = is_zero out
has_zero_output _ = false

-- whether a block of this kind, for whose output this type is written, has a factor or a value of a
-- floating-point type
abbrev pub has_float_parameter : TypeSaid → KindText → Bool
has_float_parameter type (constant said) = is_inherited type && not said.is_truth
has_float_parameter type (gain factor factor_type how) = is_float factor_type
has_float_parameter type _ = false

-- a period 0 in a block
abbrev pub zero_fault : BodyText → Option Fault
zero_fault b = elim (is_zero b.time_text) [
  | true ↦ Some Continuous
  | false ↦ if has_zero_output b.kind then Some Continuous else None
]

-- a floating-point type in a block
abbrev pub float_fault : BodyText → Option Fault
float_fault b = elim (is_float b.type_text) [
  | true ↦ Some FloatType
  | false ↦ if has_float_parameter b.type_text b.kind then Some FloatType else None
]

-- why a block can have no row: it has a period 0, or else a floating-point type
abbrev pub row_fault : BodyText → Option Fault
row_fault b = option_or (zero_fault b) (float_fault b)
