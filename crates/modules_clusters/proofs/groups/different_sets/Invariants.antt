use Rattle.std.proofs.Common.{◌≡◌, ℕ, take}
use Rattle.std.specs.BTreeSet.{contains}
use Rattle.std.specs.Ordering.{nat_cmp}
use Rattle.base_core.specs.Interface.{different}
use Rattle.base_core.proofs.lemmas.Different.{has}
use Rattle.modules_clusters.proofs.groups.different_sets.Given as goal

abbrev pub invariant-loop-set : goal.invariant-loop-set
invariant-loop-set l =
    (l.sets.items ≡ different (take l.set-index l.holds)) × ((x : ℕ) → contains nat_cmp l.seen x ≡ has (take l.set-index l.holds) x)
