use Rattle.std.proofs.Common.{◌≡◌, map, take}
use Rattle.diagram_meaning.specs.ResolvedTree.{diagram_of}
use Rattle.modules_profile.specs.Locals.{child_use}
use Rattle.modules_profile.proofs.children.child_uses.Given as goal

abbrev pub invariant-loop-i : goal.invariant-loop-i
invariant-loop-i l = l.uses.items ≡ map (child_use (diagram_of l.r)) (take l.i l.headers)
