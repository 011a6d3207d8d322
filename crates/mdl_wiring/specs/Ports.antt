-- The inputs and outputs at the ends of lines.
use Rattle.std.specs.Prelude.{ℕ, Bool, false, ◌&&◌, ◌==◌, List, Option, option_map, option_and_then, if◌then◌else◌, bytes_eq, codes}
use Rattle.std.specs.Option.{option_map_or}
use Rattle.mdl_blocks.specs.Words.{number_up_to}
use Rattle.mdl_wiring.specs.declared.member.Shape.{Shape}
use Rattle.mdl_wiring.specs.declared.lines.Named.{Named}
use Rattle.mdl_wiring.specs.declared.ports.Source.{Source}
use Rattle.mdl_wiring.specs.declared.ports.Input.{Input}
use Rattle.mdl_wiring.specs.Members.{input_count, output_count, enable_number, trigger_number}
use Rattle.mdl_wiring.specs.Lines.{Place, LineEnd}

-- the number of the input that a text at the end of a line names, if a block with these ports has
-- it
abbrev pub input_named : Shape → List ℕ → Option ℕ
input_named shape text =
    if bytes_eq text (codes "enable") then enable_number shape
    else if bytes_eq text (codes "trigger") then trigger_number shape
    else number_up_to (input_count shape) text

-- the output that a text names, if a block with these ports has it
abbrev pub output_named : Shape → List ℕ → Option ℕ
output_named shape text = number_up_to (output_count shape) text

-- the input that a place names, if its block is there and has it
abbrev pub input_at : Place → Option Input
input_at p =
    option_and_then (λ (b : Named). option_map (λ n. record { member = b.at; number = n })
    (option_and_then (input_named b.shape) p.port)) p.named

-- the output that a place names, if its block is there and has it
abbrev pub output_at : Place → Option Source
output_at p =
    option_and_then (λ (b : Named). option_map (λ k. record { member = b.at; output = k })
    (option_and_then (output_named b.shape) p.port)) p.named

-- whether two inputs are one
abbrev pub are_one : Input → Input → Bool
are_one input other = input.member == other.member && input.number == other.number

-- whether an input is there and this one
abbrev pub is_input : Input → Option Input → Bool
is_input wanted input = option_map_or (are_one wanted) input false

-- whether a line end leads to an input
abbrev pub leads_to : Input → LineEnd → Bool
leads_to input e = is_input input (input_at e.target)
