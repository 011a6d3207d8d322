-- The blocks of a system as lines see them, and their ports.
use Rattle.std.specs.Prelude.{ℕ, ◌+◌, Bool, true, false, ◌&&◌, ◌==◌, nat_le, if◌then◌else◌, List, map, Option, Some, None, bytes_eq}
use Rattle.std.specs.List.{position_from}
use Rattle.base_core.specs.declared.Port.{Port}
use Rattle.base_core.specs.declared.Port.TheVariants.{Number, Enable, Trigger}
use Rattle.mdl_wiring.specs.declared.member.Shape.{Shape}
use Rattle.mdl_wiring.specs.declared.member.Shape.TheVariants.{Inport, Outport, SubSystem, EnablePort, TriggerPort, Plain}
use Rattle.mdl_wiring.specs.declared.member.Member as held

-- ---- Blocks

-- What lines see of a block: its name, the line of its section, its ports.
pub record Member : Type 0 where
  pub name : List ℕ
  pub line : ℕ
  pub shape : Shape

-- a block in memory as a plain one
abbrev pub member_seen : held.Member → Member
member_seen m = record { name = m.name.now; line = m.line; shape = m.shape }

-- the same of all in a list
abbrev pub members_seen : List held.Member → List Member
members_seen ms = map member_seen ms

-- whether a block has this name
abbrev pub has_name : List ℕ → Member → Bool
has_name name m = bytes_eq name m.name

-- the place of the first block with this name, from 0
abbrev pub place_of : List ℕ → List Member → Option ℕ
place_of name ms = position_from (has_name name) 0 ms

-- ---- Ports

-- 1 for something that is there
abbrev pub one_if : Bool → ℕ
one_if true = 1
one_if false = 0

-- how many data inputs a block has: all but the controls of a subsystem
abbrev pub input_count : Shape → ℕ
input_count (Inport port) = 0
input_count (Outport port) = 1
input_count (SubSystem inputs outputs enable trigger) = inputs
input_count EnablePort = 0
input_count TriggerPort = 0
input_count (Plain inputs output) = inputs

-- how many outputs a block has
abbrev pub output_count : Shape → ℕ
output_count (Inport port) = 1
output_count (Outport port) = 0
output_count (SubSystem inputs outputs enable trigger) = outputs
output_count EnablePort = 0
output_count TriggerPort = 0
output_count (Plain inputs output) = one_if output

-- whether a line may lead to the enable of a block
abbrev pub has_enable : Shape → Bool
has_enable (SubSystem inputs outputs enable trigger) = enable
has_enable _ = false

-- whether a line may lead to the trigger of a block
abbrev pub has_trigger : Shape → Bool
has_trigger (SubSystem inputs outputs enable trigger) = trigger
has_trigger _ = false

-- how many inputs a block has: they are numbered from 1, first the data inputs, then the enable,
-- then the trigger
abbrev pub port_count : Shape → ℕ
port_count shape = input_count shape + one_if (has_enable shape) + one_if (has_trigger shape)

-- the number of a block's enable, if it has one
abbrev pub enable_number : Shape → Option ℕ
enable_number shape = if has_enable shape then Some (input_count shape + 1) else None

-- the number of a block's trigger, if it has one: it is the last input
abbrev pub trigger_number : Shape → Option ℕ
trigger_number shape = if has_trigger shape then Some (port_count shape) else None

-- the port of a block's input with this number
abbrev pub port_numbered : Shape → (number : ℕ) → Port
port_numbered shape number =
    if nat_le number (input_count shape) then Number number
    else if has_enable shape && number == input_count shape + 1 then Enable
    else Trigger
