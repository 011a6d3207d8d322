-- What the kind of a row is, by what its block says.
use Rattle.std.proofs.Common.{◌≡◌, refl, sym, subst, ℕ, Bool, true, false, cond, Option, None, Some, is_some}
use Rattle.base_core.specs.declared.Control.{Control}
use Rattle.base_core.specs.declared.Control.TheVariants.{Plain}
use Rattle.diagram_blocks.specs.declared.Kind.{Kind}
use Rattle.diagram_blocks.specs.declared.Kind.TheVariants as row
use Rattle.diagram_blocks.specs.Kinds.{is_inport, is_outport, port_of, control_of}
use Rattle.diagram_meaning.specs.WellFormed.{is_enable_port, is_trigger_port}
use Rattle.mdl_blocks.specs.Blocks.{KindText, inport, outport, subsystem, constant, ground, terminator, gain, sum, product, unit_delay, delay, zero_order_hold, switch, relational, logic, convert, rate_transition, enable_port, trigger_port}
use Rattle.mdl_blocks.specs.Rows.{gain_with}
use Rattle.mdl_rows.specs.Models.{system_in}
use Rattle.mdl_rows.specs.Interiors.{inport_number, outport_number, states_reset, edge_waited}
use Rattle.mdl_rows.specs.RowTexts.{IsKind}
use Rattle.mdl_wiring.specs.declared.shape.Inside.{Inside}
use Rattle.mdl_wiring.specs.declared.member.Shape.{Shape}
use Rattle.mdl_wiring.specs.declared.member.Shape.TheVariants.{Inport, Outport, SubSystem, EnablePort, TriggerPort}
use Rattle.mdl_wiring.specs.declared.member.Shape.TheVariants as shape
use Rattle.mdl_wiring.specs.Shapes.{shape_of}

-- a port that is said is this one
abbrev pub IsPort : Option ℕ → ℕ → Type 0
IsPort None n = Unit {0}
IsPort (Some port) n = n ≡ port

-- a row's kind is of the block's class
pub record IsClass (kind : KindText) (control : Control) (k : Kind) : Type 0 where
  pub of_inport : is_inport k ≡ is_some (inport_number kind)
  pub of_outport : is_outport k ≡ is_some (outport_number kind)
  pub of_enable : is_enable_port k ≡ is_some (states_reset kind)
  pub of_trigger : is_trigger_port k ≡ is_some (edge_waited kind)
  pub in_port : IsPort (inport_number kind) (port_of k)
  pub out_port : IsPort (outport_number kind) (port_of k)
  pub of_control : control_of k ≡ cond (is_some (system_in kind)) control Plain

is_form : (kind : KindText) (control : Control) (k form : Kind) → k ≡ form → IsClass kind control form → IsClass kind control k
is_form kind control k form e is = subst (IsClass kind control) (sym e) is

pub same-class : (kind : KindText) (control : Control) (k : Kind) → IsKind kind control k → IsClass kind control k
same-class (inport port) control k is = is_form (inport port) control k (row.Inport port) is
    (record { of_inport = refl; of_outport = refl; of_enable = refl; of_trigger = refl; in_port = refl; out_port = tt; of_control = refl })
same-class (outport port reset initial) control k is = is_form (outport port reset initial) control k (row.Outport port reset is.0) is.2
    (record { of_inport = refl; of_outport = refl; of_enable = refl; of_trigger = refl; in_port = tt; out_port = refl; of_control = refl })
same-class (subsystem system) control k is = is_form (subsystem system) control k (row.SubSystem control) is
    (record { of_inport = refl; of_outport = refl; of_enable = refl; of_trigger = refl; in_port = tt; out_port = tt; of_control = refl })
same-class (constant said) control k is = is_form (constant said) control k (row.Constant is.0) is.2
    (record { of_inport = refl; of_outport = refl; of_enable = refl; of_trigger = refl; in_port = tt; out_port = tt; of_control = refl })
same-class ground control k is = is_form ground control k row.Ground is
    (record { of_inport = refl; of_outport = refl; of_enable = refl; of_trigger = refl; in_port = tt; out_port = tt; of_control = refl })
same-class terminator control k is = is_form terminator control k row.Terminator is
    (record { of_inport = refl; of_outport = refl; of_enable = refl; of_trigger = refl; in_port = tt; out_port = tt; of_control = refl })
same-class (gain factor factor_type how) control k is = is_form (gain factor factor_type how) control k
    (row.Gain (gain_with is.0 is.1) how) is.4
    (record { of_inport = refl; of_outport = refl; of_enable = refl; of_trigger = refl; in_port = tt; out_port = tt; of_control = refl })
same-class (sum count minus how) control k is = is_form (sum count minus how) control k (row.Sum count minus how) is
    (record { of_inport = refl; of_outport = refl; of_enable = refl; of_trigger = refl; in_port = tt; out_port = tt; of_control = refl })
same-class (product count how) control k is = is_form (product count how) control k (row.Product count how) is
    (record { of_inport = refl; of_outport = refl; of_enable = refl; of_trigger = refl; in_port = tt; out_port = tt; of_control = refl })
same-class (unit_delay initial) control k is = is_form (unit_delay initial) control k (row.UnitDelay is.0) is.2
    (record { of_inport = refl; of_outport = refl; of_enable = refl; of_trigger = refl; in_port = tt; out_port = tt; of_control = refl })
same-class (delay length initial) control k is = is_form (delay length initial) control k (row.Delay length is.0) is.2
    (record { of_inport = refl; of_outport = refl; of_enable = refl; of_trigger = refl; in_port = tt; out_port = tt; of_control = refl })
same-class zero_order_hold control k is = is_form zero_order_hold control k row.ZeroOrderHold is
    (record { of_inport = refl; of_outport = refl; of_enable = refl; of_trigger = refl; in_port = tt; out_port = tt; of_control = refl })
same-class (switch criterion threshold how) control k is = is_form (switch criterion threshold how) control k
    (row.Switch criterion is.0 how) is.2
    (record { of_inport = refl; of_outport = refl; of_enable = refl; of_trigger = refl; in_port = tt; out_port = tt; of_control = refl })
same-class (relational comparison) control k is = is_form (relational comparison) control k (row.Relational comparison) is
    (record { of_inport = refl; of_outport = refl; of_enable = refl; of_trigger = refl; in_port = tt; out_port = tt; of_control = refl })
same-class (logic op count) control k is = is_form (logic op count) control k (row.Logic op count) is
    (record { of_inport = refl; of_outport = refl; of_enable = refl; of_trigger = refl; in_port = tt; out_port = tt; of_control = refl })
same-class (convert how) control k is = is_form (convert how) control k (row.Convert how) is
    (record { of_inport = refl; of_outport = refl; of_enable = refl; of_trigger = refl; in_port = tt; out_port = tt; of_control = refl })
same-class (rate_transition initial out) control k is = is_form (rate_transition initial out) control k (row.RateTransition is.0 is.1) is.4
    (record { of_inport = refl; of_outport = refl; of_enable = refl; of_trigger = refl; in_port = tt; out_port = tt; of_control = refl })
same-class (enable_port reset) control k is = is_form (enable_port reset) control k row.EnablePort is
    (record { of_inport = refl; of_outport = refl; of_enable = refl; of_trigger = refl; in_port = tt; out_port = tt; of_control = refl })
same-class (trigger_port edge) control k is = is_form (trigger_port edge) control k row.TriggerPort is
    (record { of_inport = refl; of_outport = refl; of_enable = refl; of_trigger = refl; in_port = tt; out_port = tt; of_control = refl })

-- ---- Shapes

-- the port of an Inport
abbrev pub inport_of : Shape → Option ℕ
inport_of (Inport port) = Some port
inport_of _ = None

-- the port of an Outport
abbrev pub outport_of : Shape → Option ℕ
outport_of (Outport port) = Some port
outport_of _ = None

-- whether a block is an EnablePort
abbrev pub is_enable : Shape → Bool
is_enable EnablePort = true
is_enable _ = false

-- whether a block is a TriggerPort
abbrev pub is_trigger : Shape → Bool
is_trigger TriggerPort = true
is_trigger _ = false

-- the ports of a block's shape are those that it says
pub record IsShape (kind : KindText) (shape : Shape) : Type 0 where
  pub on_input : inport_of shape ≡ inport_number kind
  pub on_output : outport_of shape ≡ outport_number kind
  pub enables : is_enable shape ≡ is_some (states_reset kind)
  pub triggers : is_trigger shape ≡ is_some (edge_waited kind)

pub same-shape : (inside : Inside) (kind : KindText) → IsShape kind (shape_of inside kind)
same-shape inside (inport port) = record { on_input = refl; on_output = refl; enables = refl; triggers = refl }
same-shape inside (outport port reset initial) = record { on_input = refl; on_output = refl; enables = refl; triggers = refl }
same-shape inside (subsystem system) = record { on_input = refl; on_output = refl; enables = refl; triggers = refl }
same-shape inside (constant said) = record { on_input = refl; on_output = refl; enables = refl; triggers = refl }
same-shape inside ground = record { on_input = refl; on_output = refl; enables = refl; triggers = refl }
same-shape inside terminator = record { on_input = refl; on_output = refl; enables = refl; triggers = refl }
same-shape inside (gain factor factor_type how) = record { on_input = refl; on_output = refl; enables = refl; triggers = refl }
same-shape inside (sum count minus how) = record { on_input = refl; on_output = refl; enables = refl; triggers = refl }
same-shape inside (product count how) = record { on_input = refl; on_output = refl; enables = refl; triggers = refl }
same-shape inside (unit_delay initial) = record { on_input = refl; on_output = refl; enables = refl; triggers = refl }
same-shape inside (delay length initial) = record { on_input = refl; on_output = refl; enables = refl; triggers = refl }
same-shape inside zero_order_hold = record { on_input = refl; on_output = refl; enables = refl; triggers = refl }
same-shape inside (switch criterion threshold how) = record { on_input = refl; on_output = refl; enables = refl; triggers = refl }
same-shape inside (relational comparison) = record { on_input = refl; on_output = refl; enables = refl; triggers = refl }
same-shape inside (logic op count) = record { on_input = refl; on_output = refl; enables = refl; triggers = refl }
same-shape inside (convert how) = record { on_input = refl; on_output = refl; enables = refl; triggers = refl }
same-shape inside (rate_transition initial out) = record { on_input = refl; on_output = refl; enables = refl; triggers = refl }
same-shape inside (enable_port reset) = record { on_input = refl; on_output = refl; enables = refl; triggers = refl }
same-shape inside (trigger_port edge) = record { on_input = refl; on_output = refl; enables = refl; triggers = refl }
