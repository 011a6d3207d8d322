use Rattle.std.proofs.Common.{◌≡◌, map, take}
use Rattle.diagram_meaning.specs.Types.{type_at}
use Rattle.diagram_types.proofs.faults.input_types.Given as goal

abbrev pub invariant-loop-input : goal.invariant-loop-input
invariant-loop-input l = l.inputs.items ≡ map (type_at l.types) (take l.input-index l.fn.row.inputs)
