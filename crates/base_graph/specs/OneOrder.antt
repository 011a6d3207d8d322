-- The one order of a graph: at each place the least node that may be there.
use Rattle.std.specs.Prelude.{ℕ, ◌<◌, ◌≤◌, List, [], ◌∷◌, ◌++◌, Contains}
use Rattle.base_graph.specs.NeedsGraph.{NeedsGraph, Needs}

-- node b may be after these nodes: it is none of them, and all that it needs is among them
pub record MayStand (g : NeedsGraph) (placed : List ℕ) (b : ℕ) : Type 0 where
  pub is_node : b < g.n
  pub is_new : Contains placed b → ⊥
  pub needs_placed : (a : ℕ) → Needs g b a → Contains placed a

-- the least of the nodes that may be after these
pub record IsNext (g : NeedsGraph) (placed : List ℕ) (b : ℕ) : Type 0 where
  pub may_stand : MayStand g placed b
  pub is_least : (c : ℕ) → MayStand g placed c → b ≤ c

-- after the nodes placed, each of these is the least that may be at its place
abbrev pub Follows : NeedsGraph → List ℕ → List ℕ → Type 0
Follows g placed [] = Unit {0}
Follows g placed (b ∷ list) = IsNext g placed b × Follows g (placed ++ b ∷ []) list

-- each node is in the list, and at each place the least that may be there: so each node
-- is there once, after what it needs
pub record IsOrder (g : NeedsGraph) (list : List ℕ) : Type 0 where
  pub has_all : (b : ℕ) → b < g.n → Contains list b
  pub is_least_first : Follows g [] list
