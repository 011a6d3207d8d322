use Rattle.std.proofs.Common.{arith}
use Rattle.std.proofs.lemmas.List.Sorted.{length_permutation}
use Rattle.base_core.specs.Interface.{different}
use Rattle.modules_clusters.proofs.Members.{length-different}
use Rattle.modules_clusters.proofs.groups.groups_of.Goals as goal

pub places-requires-clause-few : goal.places-requires-clause-few
places-requires-clause-few c =
    let same =
    length_permutation (different c.args.holds.now) c.in_ok-holds_of_groups.holds_of_groups.items
    c.in_ok-holds_of_groups.ensures.sets in
    let few = length-different c.args.holds.now in
    omega (arith, c.deref.ensures.len)
