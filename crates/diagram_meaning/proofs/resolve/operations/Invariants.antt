use Rattle.std.proofs.Common.{◌≡◌, map}
use Rattle.std.specs.List.{range_with_len}
use Rattle.diagram_meaning.specs.Diagram.{op_in}
use Rattle.diagram_meaning.proofs.resolve.operations.Given as goal

abbrev pub invariant-loop-b : goal.invariant-loop-b
invariant-loop-b l = l.ops.items ≡ map (op_in l.table.rows l.types l.delays) (range_with_len 0 l.b)
