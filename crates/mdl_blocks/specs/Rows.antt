-- What the row of a block says, whose section says what it should.
use Rattle.std.specs.Prelude.{Bool, true, false, not, ◌&&◌, if◌then◌else◌, Result, Ok, Err}
use Rattle.base_core.specs.declared.Control.{Control}
use Rattle.base_core.specs.declared.Decimal.{Decimal}
use Rattle.base_core.specs.declared.TimeText.{TimeText}
use Rattle.base_fixed_point.specs.declared.TypeText.{TypeText}
use Rattle.base_fixed_point.specs.declared.TypeText.TheVariants.{Inherit, Logical, Back, Fixed}
use Rattle.base_fixed_point.specs.Types.{boolean}
use Rattle.diagram_blocks.specs.declared.How.{How}
use Rattle.diagram_blocks.specs.declared.GainText.{GainText}
use Rattle.diagram_blocks.specs.declared.GainText.TheVariants.{Own, Typed}
use Rattle.diagram_blocks.specs.declared.Kind.{Kind}
use Rattle.diagram_blocks.specs.declared.Kind.TheVariants as row
use Rattle.mdl_blocks.specs.declared.fault.Fault.{Fault}
use Rattle.mdl_blocks.specs.declared.fault.Fault.TheVariants.{Continuous, FloatType}
use Rattle.mdl_blocks.specs.declared.signs.SignMask.{SignMask}
use Rattle.mdl_blocks.specs.declared.written.WrittenType.{WrittenType}
use Rattle.mdl_blocks.specs.declared.written.WrittenType.TheVariants as a_type
use Rattle.mdl_blocks.specs.declared.written.WrittenTime.{WrittenTime}
use Rattle.mdl_blocks.specs.declared.written.WrittenTime.TheVariants as a_time
use Rattle.mdl_blocks.specs.declared.written.WrittenConstant.{WrittenConstant}
use Rattle.mdl_blocks.specs.declared.kind.BlockKind.{BlockKind}
use Rattle.mdl_blocks.specs.declared.kind.BlockKind.TheVariants as held
use Rattle.mdl_blocks.specs.declared.block.Body.{Body}
use Rattle.mdl_blocks.specs.declared.row.RowText.{RowText}
use Rattle.base_core.specs.Results.{◌>>=◌}

-- the time that is written, or the error of a period 0
abbrev pub known_time : WrittenTime → Result TimeText Fault
known_time (a_time.Known text) = Ok text
known_time a_time.Zero = Err Continuous

-- the type that is written, or the error of a floating-point type
abbrev pub known_type : WrittenType → Result TypeText Fault
known_type (a_type.Known text) = Ok text
known_type a_type.Float = Err FloatType

-- a gain by the type of its factor: a written type, or one of its own
abbrev pub gain_with : Decimal → TypeText → GainText
gain_with factor Inherit = Own factor
gain_with factor Logical = Typed factor boolean
gain_with factor Back = Own factor
gain_with factor (Fixed type) = Typed factor type

-- whether a type is that of the block's rule
abbrev pub is_inherited : WrittenType → Bool
is_inherited (a_type.Known Inherit) = true
is_inherited _ = false

-- the kind of a constant, whose type must not be that of a number
abbrev pub constant_kind : WrittenConstant → WrittenType → Result Kind Fault
constant_kind c type =
    if is_inherited type && not c.is_truth then Err FloatType else Ok (row.Constant c.value)

-- the kind of a gain by its factor, the type of that, and how its result is brought into its own
-- type
abbrev pub gain_kind : Decimal → WrittenType → How → Result Kind Fault
gain_kind factor factor_type how = do
  known ← known_type factor_type
  Ok (row.Gain (gain_with factor known) how)

-- the kind of a sum with these signs
abbrev pub sum_kind : SignMask → How → Kind
sum_kind signs how = row.Sum signs.count signs.minus how

-- the kind of a rate transition by the time of its output
abbrev pub rate_transition_kind : Decimal → WrittenTime → Result Kind Fault
rate_transition_kind initial out = do
  time ← known_time out
  Ok (row.RateTransition initial time)

-- the kind of a block's row, with this control where it is a subsystem
abbrev pub row_kind : BlockKind → WrittenType → Control → Result Kind Fault
row_kind (held.Inport port) type control = Ok (row.Inport port)
row_kind (held.Outport port reset initial) type control = Ok (row.Outport port reset initial)
row_kind (held.SubSystem system) type control = Ok (row.SubSystem control)
row_kind (held.Constant value) type control = constant_kind value type
row_kind held.Ground type control = Ok row.Ground
row_kind held.Terminator type control = Ok row.Terminator
row_kind (held.Gain factor factor_type how) type control = gain_kind factor factor_type how
row_kind (held.Sum signs how) type control = Ok (sum_kind signs how)
row_kind (held.Product count how) type control = Ok (row.Product count how)
row_kind (held.UnitDelay initial) type control = Ok (row.UnitDelay initial)
row_kind (held.Delay length initial) type control = Ok (row.Delay length initial)
row_kind held.ZeroOrderHold type control = Ok row.ZeroOrderHold
row_kind (held.Switch criterion threshold how) type control =
    Ok (row.Switch criterion threshold how)
row_kind (held.Relational comparison) type control = Ok (row.Relational comparison)
row_kind (held.Logic op count) type control = Ok (row.Logic op count)
row_kind (held.Convert how) type control = Ok (row.Convert how)
row_kind (held.RateTransition initial out) type control = rate_transition_kind initial out
row_kind (held.EnablePort reset) type control = Ok row.EnablePort
row_kind (held.TriggerPort edge) type control = Ok row.TriggerPort

-- what the row of a block says, with this control where it is a subsystem; or that it has a period
-- 0, or else a floating-point type
abbrev pub row_of : Body → Control → Result RowText Fault
row_of b control = do
  time ← known_time b.time_text
  kind ← row_kind b.kind b.type_text control
  type ← known_type b.type_text
  Ok (record { kind = kind; type_text = type; time_text = time })
