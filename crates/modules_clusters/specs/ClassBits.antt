-- The classes of the outputs that a node is, and the graph turned round.
use Rattle.std.specs.Prelude.{◌≡◌, ◌↔◌, ℕ, ◌<◌, List, map, length, slice_index, IsBitSet}
use Rattle.base_graph.specs.NeedsGraph.{NeedsGraph}

-- the graph in which a node needs those that need it
abbrev pub turned : NeedsGraph → NeedsGraph
turned g = record { n = g.n; edges = map (λ (edge : ℕ × ℕ). (edge.1, edge.0)) g.edges }

-- node a is one of the first k outputs, of class c
abbrev pub IsOutputOf : List ℕ → List ℕ → ℕ → ℕ → ℕ → Type 0
IsOutputOf outputs class k a c =
    (i : ℕ) × (i < k) × (slice_index outputs i ≡ a) × (slice_index class i ≡ c)

-- bit c of node a says whether it is one of the first k outputs, of class c
pub record AreClassBits (n : ℕ) (outputs class : List ℕ) (k : ℕ) (bits : List ℕ) : Type 0 where
  pub len : length bits ≡ n
  pub at_node : (a c : ℕ) → a < n → IsBitSet (slice_index bits a) c ↔ IsOutputOf outputs class k a c
