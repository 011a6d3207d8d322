-- Clusters: for each node the classes with an output that it reaches.
use Rattle.std.specs.Prelude.{◌≡◌, ℕ, ◌<◌, List, length, slice_index, IsBitSet, ◌↔◌}
use Rattle.base_graph.specs.NeedsGraph.{NeedsGraph}
use Rattle.base_graph.specs.Reaching.{Reaches}

-- node a reaches an output of class c
abbrev pub ReachesClass : NeedsGraph → List ℕ → List ℕ → ℕ → ℕ → Type 0
ReachesClass g outputs class a c =
    (i : ℕ) × (i < length outputs) × (slice_index class i ≡ c) × Reaches g a (slice_index outputs i)

-- bit c is in the cluster of node a exactly where a reaches an output of class c
pub record AreClusters (g : NeedsGraph) (outputs class clusters : List ℕ) : Type 0 where
  pub one_each : length clusters ≡ g.n
  pub bits : (a c : ℕ) → a < g.n →
      IsBitSet (slice_index clusters a) c ↔ ReachesClass g outputs class a c
