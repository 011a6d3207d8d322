-- Which tables a model file can have.
use Rattle.std.specs.Prelude.{◌≡◌, ℕ, suc, ◌*◌, ◌^◌, ◌<◌, ◌≤◌, Bool, true, false, ◌&&◌, not, if◌then◌else◌, List, ◌∷◌, length, count_by, Contains, Option, Some, None, IsTrue, ◌⊎◌, ⊤, pos}
use Rattle.std.specs.List.{AllByRecursion}
use Rattle.base_core.specs.declared.Control.TheVariants.{Plain, Enabled, Triggered, Both}
use Rattle.base_core.specs.declared.Frac.{Frac}
use Rattle.base_core.specs.declared.Decimal.{Decimal}
use Rattle.base_core.specs.declared.TimeText.{TimeText}
use Rattle.base_core.specs.declared.TimeText.TheVariants as time
use Rattle.base_fixed_point.specs.declared.TypeText.{TypeText}
use Rattle.base_fixed_point.specs.declared.TypeText.TheVariants.{Inherit, Logical, Back, Fixed}
use Rattle.base_fixed_point.specs.Conversion.{nearest_at, fits_32}
use Rattle.diagram_blocks.specs.declared.Logic.TheVariants.{Not}
use Rattle.diagram_blocks.specs.declared.GainText.{GainText}
use Rattle.diagram_blocks.specs.declared.GainText.TheVariants.{Own, Typed}
use Rattle.diagram_blocks.specs.declared.Kind.{Kind}
use Rattle.diagram_blocks.specs.declared.Kind.TheVariants.{Inport, Outport, SubSystem, Constant, Ground, Terminator, Gain, Sum, Product, UnitDelay, Delay, ZeroOrderHold, Switch, Relational, Logic, Convert, RateTransition, EnablePort, TriggerPort}
use Rattle.diagram_blocks.specs.Meaning.{ports, has_value}
use Rattle.diagram_blocks.specs.Limits.{IsCount, IsDelayLength}
use Rattle.diagram_meaning.specs.declared.table.Row.{Row}
use Rattle.diagram_meaning.specs.RowTable.{RowTable}
use Rattle.diagram_meaning.specs.Rows.{row_at, is_enabled, is_triggered, system_control, around, rows_of}
use Rattle.diagram_blocks.specs.Kinds.{is_subsystem, is_inport, is_outport, port_of}

-- Nesting. Rows are in preorder: after a row come its own inner rows, or the next row of a
-- system around it.

-- the owner of row b, if it has one, is a subsystem before it
abbrev pub IsOwner : List Row → ℕ → Option ℕ → Type 0
IsOwner rows b None = ⊤
IsOwner rows b (Some e) = (e < b) × IsTrue (is_subsystem (row_at rows e).kind)

-- the owner of the row after row b: row b itself, a subsystem around it, or none
abbrev pub FollowsIn : List Row → ℕ → Option ℕ → Type 0
FollowsIn rows b None = ⊤
FollowsIn rows b (Some e) = Contains (b ∷ around rows None b) e

-- the rows are numbered and nested in preorder, within the limits on rows and depth
pub record IsNested (rows : List Row) : Type 0 where
  pub numbered : (b : ℕ) → b < length rows → (row_at rows b).place.row ≡ b
  pub owned : (b : ℕ) → b < length rows → IsOwner rows b (row_at rows b).owner
  pub in_order : (b : ℕ) → suc b < length rows → FollowsIn rows b (row_at rows (suc b)).owner
  pub at_most : length rows ≤ 20000
  pub not_deep : (b : ℕ) → IsTrue (is_subsystem (row_at rows b).kind) → length (around rows None b)
      < 32

-- Wires. A wire is read in a system; it is a row of that system with an output, or an Outport of a
-- subsystem there.

-- whether a row gives its value to lines of its own system
abbrev pub has_output : Kind → Bool
has_output kind = has_value kind && not (is_outport kind)

-- row c is a wire of the system o
abbrev pub IsWireIn : List Row → Option ℕ → ℕ → Type 0
IsWireIn rows o c =
    (c < length rows)
    × ((((row_at rows c).owner ≡ o) × IsTrue (has_output (row_at rows c).kind))
    ⊎ (IsTrue (is_outport (row_at rows c).kind)
    × ((e : ℕ) × ((row_at rows c).owner ≡ Some e) × ((row_at rows e).owner ≡ o))))

-- how many wires a row has: an Inport inside a subsystem that which enters it, a subsystem its
-- controls, any other row one for each of its inputs
abbrev pub wires_wanted : Kind → Option ℕ → ℕ
wires_wanted (Inport port) None = 0
wires_wanted (Inport port) (Some e) = 1
wires_wanted (SubSystem Plain) o = 0
wires_wanted (SubSystem (Enabled reset)) o = 1
wires_wanted (SubSystem (Triggered edge)) o = 1
wires_wanted (SubSystem (Both reset edge)) o = 2
wires_wanted (Outport port reset initial) o = ports (Outport port reset initial)
wires_wanted (Constant value) o = ports (Constant value)
wires_wanted Ground o = ports Ground
wires_wanted Terminator o = ports Terminator
wires_wanted (Gain gain how) o = ports (Gain gain how)
wires_wanted (Sum count minus how) o = ports (Sum count minus how)
wires_wanted (Product count how) o = ports (Product count how)
wires_wanted (UnitDelay initial) o = ports (UnitDelay initial)
wires_wanted (Delay length initial) o = ports (Delay length initial)
wires_wanted ZeroOrderHold o = ports ZeroOrderHold
wires_wanted (Switch criterion threshold how) o = ports (Switch criterion threshold how)
wires_wanted (Relational compare) o = ports (Relational compare)
wires_wanted (Logic op count) o = ports (Logic op count)
wires_wanted (Convert how) o = ports (Convert how)
wires_wanted (RateTransition initial out) o = ports (RateTransition initial out)
wires_wanted EnablePort o = ports EnablePort
wires_wanted TriggerPort o = ports TriggerPort

-- the system in which a row's wires are read: an Inport's outside its own
abbrev pub reading_system : List Row → Kind → Option ℕ → Option ℕ
reading_system rows (Inport port) None = None
reading_system rows (Inport port) (Some e) = (row_at rows e).owner
reading_system rows _ o = o

-- each row has as many wires as its kind asks for, each of the system in which it is read
pub record IsWired (rows : List Row) : Type 0 where
  pub counts : (b : ℕ) → b < length rows →
      length (row_at rows b).inputs ≡ wires_wanted (row_at rows b).kind (row_at rows b).owner
  pub wires : (b : ℕ) → b < length rows →
      AllByRecursion
      (IsWireIn rows (reading_system rows (row_at rows b).kind (row_at rows b).owner))
      (row_at rows b).inputs

-- Ports. The rows of a system that pass the test have the ports from 1 on, each once.
pub record HasPorts (rows : List Row) (test : Kind → Bool) (o : Option ℕ) : Type 0 where
  pub at_most : count_by (λ b. test (row_at rows b).kind) (rows_of rows o) ≤ 32
  pub in_range : (b : ℕ) → b < length rows → (row_at rows b).owner ≡ o →
      IsTrue (test (row_at rows b).kind) →
      (0 < port_of (row_at rows b).kind)
      × (port_of (row_at rows b).kind ≤ count_by (λ c. test (row_at rows c).kind)
      (rows_of rows o))
  pub one_each : (b c : ℕ) → b < length rows → c < length rows → (row_at rows b).owner ≡ o →
      (row_at rows c).owner ≡ o →
      IsTrue (test (row_at rows b).kind) → IsTrue (test (row_at rows c).kind) →
      port_of (row_at rows b).kind ≡ port_of (row_at rows c).kind → b ≡ c

-- Controls.

-- whether a row is an EnablePort
abbrev pub is_enable_port : Kind → Bool
is_enable_port EnablePort = true
is_enable_port _ = false

-- whether a row is a TriggerPort
abbrev pub is_trigger_port : Kind → Bool
is_trigger_port TriggerPort = true
is_trigger_port _ = false

-- a system has an EnablePort where it is enabled and a TriggerPort where it is triggered, one each,
-- and no other
pub record HasControlPorts (rows : List Row) (o : Option ℕ) : Type 0 where
  pub enables : count_by (λ b. is_enable_port (row_at rows b).kind) (rows_of rows o)
      ≡ (if is_enabled (system_control rows o) then 1 else 0)
  pub triggers : count_by (λ b. is_trigger_port (row_at rows b).kind) (rows_of rows o)
      ≡ (if is_triggered (system_control rows o) then 1 else 0)

-- Parameters.

-- a number that fits 32 bits with a sign as the nearest whole one
abbrev pub IsGainNumber : Decimal → Type 0
IsGainNumber d = IsTrue (fits_32 (nearest_at d 0))

-- a gain, of its own type or of a written one
abbrev pub IsGain : GainText → Type 0
IsGain (Own d) = IsGainNumber d
IsGain (Typed d type) = IsGainNumber d

-- a period above 0 and an offset below it, in parts of at most 10^9
pub record IsTime (period offset : Frac) : Type 0 where
  pub period_limits : (0 < period.num) × (period.num ≤ 10 ^ 9) × (period.den ≤ 10 ^ 9)
  pub offset_limits : (offset.num ≤ 10 ^ 9) × (offset.den ≤ 10 ^ 9)
  pub below : offset.num * period.den < period.num * offset.den

-- a time that is inherited, or each period
abbrev pub IsInheritedOrEach : TimeText → Type 0
IsInheritedOrEach time.Inherit = ⊤
IsInheritedOrEach time.Constant = ⊥
IsInheritedOrEach (time.Each period offset) = IsTime period offset

-- the counts of inputs, the signs, the gain and the time of the output that a kind may have
abbrev pub IsKind : Kind → Type 0
IsKind (Gain gain how) = IsGain gain
IsKind (Sum count minus how) = IsCount count × (minus < 2 ^ count)
IsKind (Product count how) = IsCount count
IsKind (Delay length initial) = IsDelayLength length
IsKind (Logic Not count) = count ≡ 1
IsKind (Logic op count) = IsCount count
IsKind (RateTransition initial out) = IsInheritedOrEach out
IsKind _ = ⊤

-- 0 or 1
abbrev pub IsTruthValue : Decimal → Type 0
IsTruthValue d = (d.den ≡ 1) × ((d.num ≡ pos 0) ⊎ (d.num ≡ pos 1))

-- a constant that inherits its type is a truth value
abbrev pub IsConstantType : Decimal → TypeText → Type 0
IsConstantType value Inherit = IsTruthValue value
IsConstantType value Logical = ⊤
IsConstantType value Back = ⊤
IsConstantType value (Fixed type) = ⊤

-- a type that is written has no bits after the point
abbrev pub IsIntegerType : TypeText → Type 0
IsIntegerType Inherit = ⊤
IsIntegerType Logical = ⊤
IsIntegerType Back = ⊤
IsIntegerType (Fixed type) = type.frac ≡ 0

-- the type texts that a kind may have; a kind without that parameter inherits
abbrev pub IsTypeTextOf : Kind → TypeText → Type 0
IsTypeTextOf (Inport port) text = ⊤
IsTypeTextOf (Outport port reset initial) text = ⊤
IsTypeTextOf (Constant value) text = IsConstantType value text
IsTypeTextOf (Gain gain how) text = ⊤
IsTypeTextOf (Sum count minus how) text = ⊤
IsTypeTextOf (Product count how) text = ⊤
IsTypeTextOf (Switch criterion threshold how) text = ⊤
IsTypeTextOf (Relational compare) text = IsIntegerType text
IsTypeTextOf (Logic op count) text = IsIntegerType text
IsTypeTextOf (Convert how) text = ⊤
IsTypeTextOf _ text = text ≡ Inherit

-- a time that is inherited, constant, or each period
abbrev pub IsAnyTime : TimeText → Type 0
IsAnyTime time.Inherit = ⊤
IsAnyTime time.Constant = ⊤
IsAnyTime (time.Each period offset) = IsTime period offset

-- the time texts that a kind may have: only a constant may be constant, and a kind without that
-- parameter inherits
abbrev pub IsTimeTextOf : Kind → TimeText → Type 0
IsTimeTextOf (SubSystem control) text = text ≡ time.Inherit
IsTimeTextOf (Constant value) text = IsAnyTime text
IsTimeTextOf Ground text = text ≡ time.Inherit
IsTimeTextOf Terminator text = text ≡ time.Inherit
IsTimeTextOf (RateTransition initial out) text = text ≡ time.Inherit
IsTimeTextOf EnablePort text = text ≡ time.Inherit
IsTimeTextOf TriggerPort text = text ≡ time.Inherit
IsTimeTextOf _ text = IsInheritedOrEach text

-- a row whose kind, type text and time text are lawful
pub record IsRow (row : Row) : Type 0 where
  pub kind : IsKind row.kind
  pub type : IsTypeTextOf row.kind row.type_text
  pub time : IsTimeTextOf row.kind row.time_text

-- a step that is written is above 0, in parts of at most 10^9
abbrev pub IsStep : Option Frac → Type 0
IsStep None = ⊤
IsStep (Some step) = (0 < step.num) × (step.num ≤ 10 ^ 9) × (step.den ≤ 10 ^ 9)

-- a table that stands for a model within the limits
pub record IsWellFormed (table : RowTable) : Type 0 where
  pub nested : IsNested table.rows
  pub wired : IsWired table.rows
  pub inports : (o : Option ℕ) → HasPorts table.rows is_inport o
  pub outports : (o : Option ℕ) → HasPorts table.rows is_outport o
  pub controls : (o : Option ℕ) → HasControlPorts table.rows o
  pub each : AllByRecursion IsRow table.rows
  pub step : IsStep table.fixed_step
