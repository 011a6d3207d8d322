use Rattle.std.proofs.Common.{◌≡◌, None, map}
use Rattle.std.specs.List.{range_with_len}
use Rattle.diagram_meaning.specs.ResolvedTree.{diagram_of}
use Rattle.diagram_meaning.specs.Run.{row_value}
use Rattle.test_solver.proofs.tick.round.Given as goal

abbrev pub invariant-loop-b : goal.invariant-loop-b
invariant-loop-b l =
    l.next.items
    ≡ map (row_value (diagram_of l.tick.diagram.now) None l.tick.number l.tick.inputs.now l.tick.before.now.values.items l.tick.before.now.memories.items
    l.tick.before.now.triggers.items l.values) (range_with_len 0 l.b)
