use Rattle.diagram_meaning.specs.Nested.{system_of}
use Rattle.diagram_meaning.specs.ResolvedTree.{diagram_of}
use Rattle.modules_profile.proofs.TreeSteps.{AreFirst}
use Rattle.modules_profile.proofs.tree_profiles.+profiles_inside.Given as goal

abbrev pub invariant-loop-child : goal.invariant-loop-child
invariant-loop-child l = AreFirst (diagram_of l.r) (system_of l.s) l.child-index l.children.items l.inner.items

abbrev pub decreases-profiles_inside : goal.decreases-profiles_inside
decreases-profiles_inside l = goal.size-profiles_inside l
