use Rattle.diagram_meaning.specs.ResolvedTree.{diagram_of}
use Rattle.diagram_same.specs.Classes.{AreChained}
use Rattle.diagram_same.proofs.FirstSteps.{AreFirstsBelow}
use Rattle.diagram_same.proofs.finding.firsts.Given as goal

abbrev pub invariant-loop-e : goal.invariant-loop-e
invariant-loop-e l = AreChained (diagram_of l.r) l.classes × AreFirstsBelow (diagram_of l.r) l.e l.classes.list.items l.firsts.items
