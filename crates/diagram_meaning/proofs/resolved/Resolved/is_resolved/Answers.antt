use Rattle.std.proofs.Common.{subst}
use Rattle.diagram_meaning.specs.ResolvedTree.{IsResolvedTree}
use Rattle.diagram_meaning.proofs.resolved.Resolved.is_resolved.Goals as goal

pub returns : goal.returns
returns c = subst IsResolvedTree c.self.view_is c.self.invariant
