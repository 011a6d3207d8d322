use Rattle.std.proofs.Common.{map, take}
use Rattle.diagram_meaning.specs.Nested.{system_of}
use Rattle.diagram_meaning.specs.ResolvedTree.{diagram_of}
use Rattle.modules_profile.specs.Systems.{children_of}
use Rattle.emit_shape.specs.SystemTree.{system_tree}
use Rattle.emit_systems.proofs.TreeSteps.{AreCoded}
use Rattle.emit_systems.specs.ChildProfiles.{AreProfilesUnder}
use Rattle.emit_systems.proofs.systems.+codes_inside.Given as goal

abbrev pub invariant-loop-child : goal.invariant-loop-child
invariant-loop-child l = AreCoded l.r (system_of l.s) l.child-index l.children.items (map system_tree l.inner.items)
    × AreProfilesUnder (diagram_of l.r) (take l.child-index (children_of (system_of l.s))) l.below.items

abbrev pub decreases-codes_inside : goal.decreases-codes_inside
decreases-codes_inside l = goal.size-codes_inside l
