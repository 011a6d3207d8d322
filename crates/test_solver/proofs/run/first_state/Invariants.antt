use Rattle.std.proofs.Common.{◌≡◌, None, map, [], if◌then◌else◌}
use Rattle.std.specs.List.{range_with_len}
use Rattle.diagram_activity.specs.declared.TrigMem.TheVariants.{NotYet}
use Rattle.diagram_meaning.specs.ResolvedTree.{diagram_of}
use Rattle.diagram_meaning.specs.Run.{start_of, initial_memory, has_memory}
use Rattle.test_solver.proofs.run.first_state.Given as goal

abbrev pub invariant-loop-b : goal.invariant-loop-b
invariant-loop-b l = record {
  values : l.values.items ≡ map (start_of (diagram_of l.fn.r)) (range_with_len 0 l.b);
  memories : l.memories.items
      ≡ map (λ b. if has_memory (diagram_of l.fn.r) None b then initial_memory (diagram_of l.fn.r) b else [])
      (range_with_len 0 l.b);
  triggers : l.triggers.items ≡ map (λ b. NotYet) (range_with_len 0 l.b);
}
