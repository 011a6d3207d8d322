use Rattle.std.proofs.Common.{◌≡◌, false, subst}
use Rattle.mdl_library.specs.References.{needs_itself}
use Rattle.mdl_library.specs.Held.{library_seen}
use Rattle.mdl_library.proofs.GraphLemmas.{circular_none, no_circle}
use Rattle.mdl_library.proofs.library.Library.circular_line.Goals as goal

pub returns-in-Ok-order : goal.returns-in-Ok-order
returns-in-Ok-order c =
    circular_none (library_seen c.args.self.now) (λ k. subst (λ g. needs_itself g k ≡ false) c.in_ok-graph.ensures
    (no_circle c.in_ok-graph.graph c.in-Ok-order.ensures.no_cycle k))
