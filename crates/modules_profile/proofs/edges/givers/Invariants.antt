use Rattle.std.proofs.Common.{nat_eq, take}
use Rattle.indexmap.specs.IndexMap.{get}
use Rattle.modules_profile.specs.NodeWires.{AreGivers}
use Rattle.modules_profile.proofs.edges.givers.Given as goal

abbrev pub invariant-loop-a : goal.invariant-loop-a
invariant-loop-a l = AreGivers (take l.a l.nodes) (get nat_eq l.givers)
