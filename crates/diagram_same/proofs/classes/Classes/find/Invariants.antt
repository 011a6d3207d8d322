use Rattle.std.proofs.Common.{◌+◌}
use Rattle.std.specs.Option.{option_map_or}
use Rattle.diagram_meaning.specs.ResolvedTree.{diagram_of}
use Rattle.diagram_same.proofs.ChainSteps.{AreLeft}
use Rattle.diagram_same.proofs.classes.Classes.find.Given as goal

abbrev pub invariant-loop-place : goal.invariant-loop-place
invariant-loop-place l = AreLeft (diagram_of l.r) l.self.list.items l.inside.row l.place

abbrev pub decreases-loop-place : goal.decreases-loop-place
decreases-loop-place l = option_map_or (λ k. k + 1) l.place 0
