-- What a node needs is held by each function that holds the node.
use Rattle.std.specs.Prelude.{List, [], ◌∷◌, ◌++◌}
use Rattle.std.proofs.Common.{subst, inl, inr}
use Rattle.modules_profile.specs.declared.Node.{Node}
use Rattle.modules_profile.specs.declared.Node.TheVariants.{Row}
use Rattle.modules_profile.specs.LocalSystem.{LocalSystem}
use Rattle.modules_profile.specs.LocalNodes.{NodeNeeds, NodeWalk, NodeReaches}
use Rattle.right_relation.specs.StandingLaws.{NeededIsHeld}

-- a walk with one step more
longer : (local : LocalSystem) (a x y : Node) (path : List Node) → NodeWalk local a path y → NodeNeeds local y x →
    NodeWalk local a (path ++ y ∷ []) x
longer local a x y [] walk needs = (walk, needs)
longer local a x y (z ∷ path) walk needs = (walk.0, longer local z x y path walk.1 needs)

reaches-too : (local : LocalSystem) (x y z : Node) → NodeNeeds local y x → NodeReaches local y z → NodeReaches local x z
reaches-too local x y z needs (inl same) = inr ([], subst (λ a. NodeNeeds local a x) same needs)
reaches-too local x y z needs (inr (path, walk)) = inr (path ++ y ∷ [], longer local z x y path walk needs)

pub needed_is_held : NeededIsHeld
needed_is_held local h held j x y are some below in_x in_y needs holds =
    let by = (are.nodes j y some below in_y).0 holds in
    (are.nodes j x some below in_x).1 (by.0, by.1, reaches-too local x y (Row by.0) needs by.2)
