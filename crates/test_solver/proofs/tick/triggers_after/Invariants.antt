use Rattle.std.proofs.Common.{◌≡◌, List, ℤ, None, map, if◌then◌else◌}
use Rattle.std.specs.List.{range_with_len}
use Rattle.diagram_activity.specs.declared.TrigMem.TheVariants.{NotYet}
use Rattle.diagram_meaning.specs.ResolvedTree.{diagram_of}
use Rattle.diagram_meaning.specs.Run.{has_trigger, row_trigger}
use Rattle.test_solver.proofs.tick.triggers_after.Given as goal

abbrev pub invariant-loop-e : goal.invariant-loop-e
invariant-loop-e l =
    (x : List ℤ) →
    l.next.items
    ≡ map (λ e. if has_trigger (diagram_of l.fn.r) None e
    then row_trigger (diagram_of l.fn.r) None x l.before l.values e else NotYet) (range_with_len 0 l.e)
