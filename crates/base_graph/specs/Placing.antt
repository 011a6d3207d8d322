-- An order on the way: what is placed, what each other node still needs, and what may be next.
use Rattle.std.specs.Prelude.{◌≡◌, ℕ, ◌<◌, List, [], length, slice_index, Contains, ◌↔◌}
use Rattle.base_graph.specs.NeedsGraph.{NeedsGraph, Needs}
use Rattle.base_graph.specs.OneOrder.{Follows, IsOrder}
use Rattle.base_graph.specs.Counts.{unmet_needs}

-- for each node the number of edges from nodes that are not placed
pub record AreUnmet (g : NeedsGraph) (placed unmet : List ℕ) : Type 0 where
  pub len : length unmet ≡ g.n
  pub counts : (b : ℕ) → b < g.n → slice_index unmet b ≡ unmet_needs g.edges placed b

-- the nodes that need nothing more and are not placed are ready
pub record IsPlacing (g : NeedsGraph) (placed unmet ready : List ℕ) : Type 0 where
  pub follows : Follows g [] placed
  pub are_unmet : AreUnmet g placed unmet
  pub are_ready : (b : ℕ) →
      Contains ready b ↔ ((b < g.n) × (slice_index unmet b ≡ 0) × (Contains placed b → ⊥))
  pub are_done : (b : ℕ) → Contains placed b → (b < g.n) × (slice_index unmet b ≡ 0)

-- a node that needs something yet
abbrev pub IsBlocked : NeedsGraph → List ℕ → ℕ → Type 0
IsBlocked g unmet b = (b < g.n) × (0 < slice_index unmet b)

-- each blocked node needs a blocked one
abbrev pub EachBlockedNeeds : NeedsGraph → List ℕ → Type 0
EachBlockedNeeds g unmet =
    (b : ℕ) → IsBlocked g unmet b → (a : ℕ) × Needs g b a × IsBlocked g unmet a

-- for each blocked node a blocked one that it needs
pub record AreBlockedNeeds (g : NeedsGraph) (unmet needs : List ℕ) : Type 0 where
  pub len : length needs ≡ g.n
  pub need : (b : ℕ) → IsBlocked g unmet b → Needs g b (slice_index needs b)
  pub blocked : (b : ℕ) → IsBlocked g unmet b → IsBlocked g unmet (slice_index needs b)

-- where nothing is ready: an order if no node is blocked, and each blocked node needs a blocked one
pub record ArePlaced (g : NeedsGraph) (placed unmet : List ℕ) : Type 0 where
  pub len : length unmet ≡ g.n
  pub is_order : ((b : ℕ) → b < g.n → slice_index unmet b ≡ 0) → IsOrder g placed
  pub blocked_needs : EachBlockedNeeds g unmet
