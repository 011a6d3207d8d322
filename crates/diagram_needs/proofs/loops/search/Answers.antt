use Rattle.std.proofs.Common.{subst}
use Rattle.diagram_needs.specs.Least.{IsLeastOf}
use Rattle.diagram_needs.specs.Needed.{needed, IsOnLoop}
use Rattle.diagram_needs.proofs.lemmas.LoopRows.{none-on_loop}
use Rattle.diagram_needs.proofs.loops.search.Goals as goal

pub returns-in-None : goal.returns-in-None
returns-in-None c =
    none-on_loop (needed c.args.g.now)
    (subst (IsLeastOf (IsOnLoop (needed c.args.g.now))) c.in-None.is c.in_ok-least_on_loop.ensures)
