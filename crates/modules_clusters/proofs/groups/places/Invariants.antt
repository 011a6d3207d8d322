use Rattle.std.proofs.Common.{◌≡◌, map, take}
use Rattle.modules_clusters.specs.Classes.{place_of}
use Rattle.modules_clusters.proofs.groups.places.Given as goal

abbrev pub invariant-loop-set : goal.invariant-loop-set
invariant-loop-set l = l.of.items ≡ map (place_of l.sets) (take l.set-index l.holds)
