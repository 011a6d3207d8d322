use Rattle.std.proofs.Common.{◌≡◌, take}
use Rattle.modules_clusters.specs.Classes.{classes_of, class_count}
use Rattle.modules_clusters.proofs.equal_needs.classes.Given as goal

abbrev pub invariant-loop-k : goal.invariant-loop-k
invariant-loop-k l = (take l.k l.into ≡ classes_of (take l.k l.masks)) × (l.count ≡ class_count (take l.k l.masks))
