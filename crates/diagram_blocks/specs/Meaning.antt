-- Which operation a row has, and how many inputs.
use Rattle.std.specs.Prelude.{ℕ, ◌+◌, ◌-◌, Bool, true, false, List, [], ◌∷◌, ◌++◌, map, sum, length, replicate, pos}
use Rattle.base_fixed_point.specs.declared.FixType.{FixType}
use Rattle.diagram_blocks.specs.declared.kind.Kind.{Kind}
use Rattle.diagram_blocks.specs.declared.kind.Kind.TheVariants.{Inport, Outport, SubSystem, Constant, Ground, Terminator, Gain, Sum, Product, UnitDelay, Delay, ZeroOrderHold, Switch, Relational, Logic, Convert, RateTransition, EnablePort, TriggerPort}
use Rattle.diagram_blocks.specs.declared.op.Op.{Op}
use Rattle.diagram_blocks.specs.declared.op.Op.TheVariants as op
use Rattle.base_fixed_point.specs.Conversion.{quantize}
use Rattle.diagram_blocks.specs.Width.{gain_of, input_type}

-- the data inputs of a block that is no subsystem
abbrev pub ports : Kind → ℕ
ports (Inport port) = 0
ports (Outport port reset initial) = 1
ports (SubSystem control) = 0
ports (Constant value) = 0
ports Ground = 0
ports Terminator = 1
ports (Gain gain how) = 1
ports (Sum count minus how) = count
ports (Product count how) = count
ports (UnitDelay initial) = 1
ports (Delay length initial) = 1
ports ZeroOrderHold = 1
ports (Switch criterion threshold how) = 3
ports (Relational compare) = 2
ports (Logic o count) = count
ports (Convert how) = 1
ports (RateTransition initial out) = 1
ports EnablePort = 0
ports TriggerPort = 0

-- whether a row has a value; one without has the value 0 at every tick
abbrev pub has_value : Kind → Bool
has_value (SubSystem control) = false
has_value Terminator = false
has_value EnablePort = false
has_value TriggerPort = false
has_value _ = true

-- the fraction bits of the inputs, with 0 in the places up to 16
abbrev pub sum_fracs : List FixType → List ℕ
sum_fracs ts = map (λ t. t.frac) ts ++ replicate (16 - length ts) 0

-- how many samples a row of an operation remembers; what is no delay remembers none
abbrev pub delay_length : Op → ℕ
delay_length (op.Delay initial) = 1
delay_length (op.Line length start) = length
delay_length _ = 0

-- what a row computes, by its kind, its inputs' types, its own type, and whether it is a delay
-- between rates
abbrev pub op_of : Kind → List FixType → FixType → Bool → Op
op_of (Inport port) ts out delays = op.Copy
op_of (Outport port reset initial) ts out delays = op.Copy
op_of (SubSystem control) ts out delays = op.Nothing
op_of (Constant value) ts out delays = op.Value (quantize value out)
op_of Ground ts out delays = op.Value (pos 0)
op_of Terminator ts out delays = op.Nothing
op_of (Gain gain how) ts out delays =
    let g = gain_of gain in
    op.Gain g.0 ((input_type ts 0).frac + g.1) out how
op_of (Sum count minus how) ts out delays = op.Sum count minus (sum_fracs ts) out how
op_of (Product count how) ts out delays = op.Product count (sum (map (λ t. t.frac) ts)) out how
op_of (UnitDelay initial) ts out delays = op.Delay (quantize initial out)
op_of (Delay length initial) ts out delays = op.Line length (quantize initial out)
op_of ZeroOrderHold ts out delays = op.Copy
op_of (Switch criterion threshold how) ts out delays =
    op.Switch criterion (quantize threshold (input_type ts 1))
    ((input_type ts 0).frac ∷ (input_type ts 2).frac ∷ []) out how
op_of (Relational compare) ts out delays =
    op.Relational compare ((input_type ts 0).frac ∷ (input_type ts 1).frac ∷ [])
op_of (Logic o count) ts out delays = op.Logic o count
op_of (Convert how) ts out delays = op.Convert (input_type ts 0).frac out how
op_of (RateTransition initial out_time) ts out true = op.Delay (quantize initial out)
op_of (RateTransition initial out_time) ts out false = op.Copy
op_of EnablePort ts out delays = op.Nothing
op_of TriggerPort ts out delays = op.Nothing
