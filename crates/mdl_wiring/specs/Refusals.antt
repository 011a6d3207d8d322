-- Why the names and lines of a system are refused.
use Rattle.std.specs.Prelude.{ℕ, ◌+◌, Bool, true, false, not, ◌||◌, ◌==◌, List, [], ◌∷◌, take, filter, find, Option, Some, None, is_none, is_some, option_map, slice_get, flat_map, codes, if◌then◌else◌}
use Rattle.std.specs.Option.{option_map_or}
use Rattle.std.specs.List.{list_any, range_with_len}
use Rattle.base_refusals.specs.Refusals.{PlainRefusal, Unsupported, DoubleName, NoBlock, NoPort, TwoSources, Unconnected, TwoControls}
use Rattle.base_refusals.specs.FirstRefusal.{earlier_of, least_in, first_there, found_where}
use Rattle.mdl_tree.specs.Spelling.{Items}
use Rattle.mdl_tree.specs.Walks.{SectionTree, first_value}
use Rattle.mdl_wiring.specs.declared.member.Shape.{Shape}
use Rattle.mdl_wiring.specs.declared.member.Shape.TheVariants.{Inport, Outport, SubSystem, EnablePort, TriggerPort, Plain}
use Rattle.mdl_wiring.specs.declared.doubles.Side.{Side}
use Rattle.mdl_wiring.specs.declared.doubles.Side.TheVariants as side
use Rattle.mdl_wiring.specs.declared.controls.Control.{Control}
use Rattle.mdl_wiring.specs.declared.controls.Control.TheVariants as control
use Rattle.mdl_wiring.specs.Members.{Member, has_name, port_count, port_numbered}
use Rattle.mdl_wiring.specs.Lines.{Place, LineEnd, lines_in, parts_of_line, sources_in, ends_in}
use Rattle.mdl_wiring.specs.Ports.{input_at, output_at, leads_to}

-- the refusal with the least line that is found in some items, each with its place from this one on
abbrev pub least_from : {A : Type 0} → (ℕ → A → Option PlainRefusal) → ℕ → List A →
    Option PlainRefusal
least_from found at [] = None
least_from found at (a ∷ rest) = earlier_of (found at a) (least_from found (at + 1) rest)

-- ---- Lines that aren't read

-- whether a part of a line names its ends in the newer form
abbrev pub is_newer : SectionTree → Bool
is_newer part =
    is_some (first_value (codes "Src") part.items) || is_some (first_value (codes "Dst") part.items)

-- the refusal of a part of a line in the newer form
abbrev pub newer : SectionTree → Option PlainRefusal
newer part = found_where is_newer (λ (p : SectionTree). Unsupported p.line) part

-- the first part of the lines of a system in the newer form
abbrev pub newer_lines : Items → Option PlainRefusal
newer_lines items = least_in newer (flat_map parts_of_line (lines_in items))

-- ---- Names

-- the port that a block gives its system on one side
abbrev pub port_on : Side → Shape → Option ℕ
port_on side.Input (Inport port) = Some port
port_on side.Input (Outport port) = None
port_on side.Input (SubSystem inputs outputs enable trigger) = None
port_on side.Input EnablePort = None
port_on side.Input TriggerPort = None
port_on side.Input (Plain inputs output) = None
port_on side.Output (Inport port) = None
port_on side.Output (Outport port) = Some port
port_on side.Output (SubSystem inputs outputs enable trigger) = None
port_on side.Output EnablePort = None
port_on side.Output TriggerPort = None
port_on side.Output (Plain inputs output) = None

-- whether a block gives its system this port
abbrev pub has_port : Side → ℕ → Member → Bool
has_port side port m = option_map_or (λ own. port == own) (port_on side m.shape) false

-- whether two blocks have one name
abbrev pub same_name : Member → Member → Bool
same_name m other = has_name m.name other

-- whether two blocks are Inports of one port, or two Outports
abbrev pub same_port : Side → Member → Member → Bool
same_port side m other =
    option_map_or (λ port. has_port side port other) (port_on side m.shape) false

-- the refusal of a block that is like one of those before it
abbrev pub double_among : (Member → Member → Bool) → (before : List Member) → Member →
    Option PlainRefusal
double_among alike before m = if list_any (alike m) before then Some (DoubleName m.line) else None

-- the refusal of the block at a place, where an earlier one is like it
abbrev pub double : (Member → Member → Bool) → List Member → (at : ℕ) → Member → Option PlainRefusal
double alike ms at m = double_among alike (take at ms) m

-- the first block that an earlier one is like
abbrev pub first_double : (Member → Member → Bool) → List Member → Option PlainRefusal
first_double alike ms = least_from (double alike ms) 0 ms

-- the first block with the name of an earlier one, or with its port where both are Inports or both
-- are Outports
abbrev pub double_names : List Member → Option PlainRefusal
double_names ms =
    earlier_of (first_double same_name ms)
    (earlier_of (first_double (same_port side.Input) ms) (first_double (same_port side.Output) ms))

-- ---- Places of lines

-- the refusal of a place whose block isn't there
abbrev pub no_block : Place → Option PlainRefusal
no_block p = if is_none p.named then Some (NoBlock p.line) else None

-- the first place whose block isn't there
abbrev pub missing_blocks : List Place → List LineEnd → Option PlainRefusal
missing_blocks sources ends =
    earlier_of (least_in no_block sources) (least_in (λ (e : LineEnd). no_block e.target) ends)

-- the refusal of a source whose block hasn't the port, or that has no port
abbrev pub no_output : Place → Option PlainRefusal
no_output p = if is_none (output_at p) then Some (NoPort p.line) else None

-- the same of a target
abbrev pub no_input : Place → Option PlainRefusal
no_input p = if is_none (input_at p) then Some (NoPort p.line) else None

-- the first place whose block hasn't the port
abbrev pub missing_ports : List Place → List LineEnd → Option PlainRefusal
missing_ports sources ends =
    earlier_of (least_in no_output sources) (least_in (λ (e : LineEnd). no_input e.target) ends)

-- ---- Inputs

-- whether one of some line ends leads to the input to which this one leads
abbrev pub is_led_among : List LineEnd → LineEnd → Bool
is_led_among ends e =
    option_map_or (λ input. list_any (leads_to input) ends) (input_at e.target) false

-- the refusal of the line end at a place, where an earlier one leads to the same input
abbrev pub second_source : List LineEnd → ℕ → LineEnd → Option PlainRefusal
second_source ends at e =
    if is_led_among (take at ends) e then Some (TwoSources e.target.line) else None

-- the first line end at an input to which an earlier one leads
abbrev pub double_sources : List LineEnd → Option PlainRefusal
double_sources ends = least_from (second_source ends) 0 ends

-- the numbers of a block's inputs
abbrev pub numbers_of : Member → List ℕ
numbers_of m = range_with_len 1 (port_count m.shape)

-- whether no line end leads to an input of the block at a place
abbrev pub is_loose : List LineEnd → (at number : ℕ) → Bool
is_loose ends at number = not (list_any (leads_to (record { member = at; number = number })) ends)

-- the refusal of the block at a place for the first of its inputs to which no line leads
abbrev pub unconnected : List LineEnd → ℕ → Member → Option PlainRefusal
unconnected ends at m =
    option_map (λ number. Unconnected m.line (port_numbered m.shape number))
    (find (is_loose ends at) (numbers_of m))

-- the first input to which no line leads
abbrev pub unconnected_ports : List LineEnd → List Member → Option PlainRefusal
unconnected_ports ends ms = least_from (unconnected ends) 0 ms

-- ---- Control ports

-- whether a block is the port of a control
abbrev pub is_port_of : Control → Shape → Bool
is_port_of control.Enable (Inport port) = false
is_port_of control.Enable (Outport port) = false
is_port_of control.Enable (SubSystem inputs outputs enable trigger) = false
is_port_of control.Enable EnablePort = true
is_port_of control.Enable TriggerPort = false
is_port_of control.Enable (Plain inputs output) = false
is_port_of control.Trigger (Inport port) = false
is_port_of control.Trigger (Outport port) = false
is_port_of control.Trigger (SubSystem inputs outputs enable trigger) = false
is_port_of control.Trigger EnablePort = false
is_port_of control.Trigger TriggerPort = true
is_port_of control.Trigger (Plain inputs output) = false

-- the refusal of a control port
abbrev pub control_port : Member → PlainRefusal
control_port m = TwoControls m.line

-- the refusal of the second port of one control
abbrev pub second_control : Control → List Member → Option PlainRefusal
second_control control ms =
    option_map control_port (slice_get (filter (λ (m : Member). is_port_of control m.shape) ms) 1)

-- whether a block is a control port
abbrev pub is_control : Member → Bool
is_control m = is_port_of control.Enable m.shape || is_port_of control.Trigger m.shape

-- the first control port that a system may not have: any in the root, elsewhere the second of each
-- kind
abbrev pub double_controls : (is_root : Bool) → List Member → Option PlainRefusal
double_controls true ms = least_in (found_where is_control control_port) ms
double_controls false ms =
    earlier_of (second_control control.Enable ms) (second_control control.Trigger ms)

-- ---- The first refusal

-- the first refusal of these sources and ends of lines for what they name, or for two lines to one
-- input
abbrev pub ends_refusal : List Place → List LineEnd → Option PlainRefusal
ends_refusal sources ends =
    first_there (missing_blocks sources ends ∷ missing_ports sources ends ∷ double_sources ends
    ∷ [])

-- the first refusal of blocks for an input without a line, or for control ports
abbrev pub ports_refusal : (is_root : Bool) → List Member → List LineEnd → Option PlainRefusal
ports_refusal is_root ms ends =
    first_there (unconnected_ports ends ms ∷ double_controls is_root ms ∷ [])

-- the first refusal of a system with these sources and ends of lines for how they lead
abbrev pub lines_refusal : (is_root : Bool) → List Member → List Place → List LineEnd →
    Option PlainRefusal
lines_refusal is_root ms sources ends =
    first_there (missing_blocks sources ends ∷ missing_ports sources ends ∷ double_sources ends
    ∷ unconnected_ports ends ms
    ∷ double_controls is_root ms ∷ [])

-- the first refusal of a system with these blocks and items for its names and lines
abbrev pub wiring_refusal : (is_root : Bool) → List Member → Items → Option PlainRefusal
wiring_refusal is_root ms items =
    first_there (double_names ms ∷ lines_refusal is_root ms (sources_in ms items) (ends_in ms items)
    ∷ [])
