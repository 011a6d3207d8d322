-- Masks along paths: for each node the union of the sources of all nodes that reach it.
use Rattle.std.specs.Prelude.{◌≡◌, ℕ, ◌<◌, List, length, slice_index, IsBitSet, ◌↔◌}
use Rattle.base_graph.specs.NeedsGraph.{NeedsGraph}
use Rattle.base_graph.specs.Reaching.{Reaches}

-- some node that reaches b has bit k in its source
abbrev pub ReachesWithBit : NeedsGraph → List ℕ → ℕ → ℕ → Type 0
ReachesWithBit g source b k =
    (a : ℕ) × (a < g.n) × Reaches g a b × IsBitSet (slice_index source a) k

-- bit k is in the mask of node b exactly where a node that reaches b has it in its source
pub record AreMasks (g : NeedsGraph) (source masks : List ℕ) : Type 0 where
  pub len : length masks ≡ g.n
  pub bits : (b k : ℕ) → b < g.n → IsBitSet (slice_index masks b) k ↔ ReachesWithBit g source b k
