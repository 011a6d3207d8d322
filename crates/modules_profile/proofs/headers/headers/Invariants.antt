use Rattle.std.proofs.Common.{◌≡◌, take}
use Rattle.diagram_meaning.specs.ResolvedTree.{diagram_of}
use Rattle.modules_profile.specs.NodeFacts.{headers_with}
use Rattle.modules_profile.proofs.headers.headers.Given as goal

abbrev pub invariant-loop-i : goal.invariant-loop-i
invariant-loop-i l = l.headers.items ≡ headers_with (diagram_of l.r) (take l.i l.profiles)
