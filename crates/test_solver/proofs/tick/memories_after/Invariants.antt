use Rattle.std.proofs.Common.{◌≡◌, None, map, [], if◌then◌else◌}
use Rattle.std.specs.List.{range_with_len}
use Rattle.diagram_meaning.specs.ResolvedTree.{diagram_of}
use Rattle.diagram_meaning.specs.Run.{has_memory, row_memory}
use Rattle.test_solver.proofs.tick.memories_after.Given as goal

abbrev pub invariant-loop-b : goal.invariant-loop-b
invariant-loop-b l =
    l.next.items
    ≡ map (λ b. if has_memory (diagram_of l.tick.diagram.now) None b
    then row_memory (diagram_of l.tick.diagram.now) None l.tick.number l.tick.inputs.now l.tick.before.now.memories.items l.tick.before.now.triggers.items
    l.values b else []) (range_with_len 0 l.b)
