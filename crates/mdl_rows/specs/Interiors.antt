-- What the port blocks inside a subsystem say of it.
use Rattle.std.specs.Prelude.{ℕ, ◌==◌, Bool, false, List, find, filter, filter_map, length, slice_get, Option, Some, None, is_some, option_map}
use Rattle.std.specs.Option.{option_map_or}
use Rattle.base_core.specs.declared.Control.{Control}
use Rattle.base_core.specs.declared.Control.TheVariants.{Plain, Enabled, Triggered, Both}
use Rattle.base_core.specs.declared.Edge.{Edge}
use Rattle.mdl_blocks.specs.Blocks.{KindText, inport, outport, subsystem, constant, ground, terminator, gain, sum, product, unit_delay, delay, zero_order_hold, switch, relational, logic, convert, rate_transition, enable_port, trigger_port}
use Rattle.mdl_wiring.specs.declared.shape.Inside.{Inside}
use Rattle.mdl_rows.specs.Models.{Block, kind_of, blocks_of}

-- ---- Port blocks

-- the port of an Inport
abbrev pub inport_number : KindText → Option ℕ
inport_number (inport port) = Some port
inport_number _ = None

-- the port of an Outport
abbrev pub outport_number : KindText → Option ℕ
outport_number (outport port reset initial) = Some port
outport_number _ = None

-- whether an EnablePort resets the states
abbrev pub states_reset : KindText → Option Bool
states_reset (enable_port reset) = Some reset
states_reset _ = None

-- what a TriggerPort waits for
abbrev pub edge_waited : KindText → Option Edge
edge_waited (trigger_port edge) = Some edge
edge_waited _ = None

-- ---- Of a subsystem

-- how many of some blocks are of a kind that has this
abbrev pub count_that : {A : Type 0} → (KindText → Option A) → List Block → ℕ
count_that what blocks = length (filter (λ b. is_some (what (kind_of b))) blocks)

-- what the first of some blocks has that has it
abbrev pub first_that : {A : Type 0} → (KindText → Option A) → List Block → Option A
first_that what blocks = slice_get (filter_map (λ b. what (kind_of b)) blocks) 0

-- the port blocks among these
abbrev pub inside_among : List Block → Inside
inside_among own = record {
  inports = count_that inport_number own;
  outports = count_that outport_number own;
  enable = is_some (first_that states_reset own);
  trigger = is_some (first_that edge_waited own);
}

-- a control by whether an enable resets the states, if there is one, and what a trigger waits for,
-- if there is one
abbrev pub control_by : Option Bool → Option Edge → Control
control_by None None = Plain
control_by (Some reset) None = Enabled reset
control_by None (Some edge) = Triggered edge
control_by (Some reset) (Some edge) = Both reset edge

-- how a subsystem with these blocks is controlled, by the first EnablePort and the first
-- TriggerPort among them
abbrev pub control_among : List Block → Control
control_among own = control_by (first_that states_reset own) (first_that edge_waited own)

-- the port blocks inside the subsystem block e
abbrev pub inside_of : List Block → (e : ℕ) → Inside
inside_of blocks e = inside_among (blocks_of blocks (Some e))

-- how the subsystem block e is controlled
abbrev pub control_of : List Block → (e : ℕ) → Control
control_of blocks e = control_among (blocks_of blocks (Some e))

-- whether a block is the Outport with this port
abbrev pub is_outport_at : (port : ℕ) → Block → Bool
is_outport_at port b = option_map_or (λ own. own == port) (outport_number (kind_of b)) false

-- the number of the first Outport with a port among these blocks
abbrev pub outport_among : List Block → (port : ℕ) → Option ℕ
outport_among own port = option_map (λ (b : Block). b.number) (find (is_outport_at port) own)

-- the Outport with a port inside the subsystem block e
abbrev pub outport_of : List Block → (e port : ℕ) → Option ℕ
outport_of blocks e port = outport_among (blocks_of blocks (Some e)) port
