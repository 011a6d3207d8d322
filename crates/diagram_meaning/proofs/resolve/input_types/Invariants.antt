use Rattle.std.proofs.Common.{◌≡◌, map, take}
use Rattle.diagram_meaning.specs.Types.{type_at}
use Rattle.diagram_meaning.proofs.resolve.input_types.Given as goal

abbrev pub invariant-loop-wire : goal.invariant-loop-wire
invariant-loop-wire l = l.inputs.items ≡ map (type_at l.types) (take l.wire-index l.wire-items)
