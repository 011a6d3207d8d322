use Rattle.std.proofs.Common.{◌≡◌, ◌-◌, map}
use Rattle.std.specs.Prelude.{filter_map}
use Rattle.std.specs.List.{range_with_len}
use Rattle.diagram_meaning.specs.Types.{type_at}
use Rattle.tool_compiler.specs.Inputs.{root_inport_with}
use Rattle.tool_compiler.proofs.inputs.input_types.Given as goal

abbrev pub invariant-loop-port : goal.invariant-loop-port
invariant-loop-port l = l.inputs.items ≡ map (type_at l.types) (filter_map (root_inport_with l.rows) (range_with_len 1 (l.port - 1)))
