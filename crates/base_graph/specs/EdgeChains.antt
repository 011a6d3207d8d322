-- Chains through a list of edges: from each node its last edge, and from each edge the one before
-- it from the same node.
use Rattle.std.specs.Prelude.{◌≡◌, ℕ, ◌-◌, ◌<◌, ◌≤◌, List, length, slice_index, slice_index_or}
use Rattle.base_graph.specs.NeedsGraph.{NeedsGraph}

-- the node that edge e leads from, and the one that it leads to
abbrev pub from : List (ℕ × ℕ) → ℕ → ℕ
from edges e = (slice_index_or edges e (0, 0)).0

abbrev pub to : List (ℕ × ℕ) → ℕ → ℕ
to edges e = (slice_index_or edges e (0, 0)).1

-- of the first k edges, the last one from node a is at place h, counted from 1; 0 where there is
-- none
pub record IsLast (edges : List (ℕ × ℕ)) (a k h : ℕ) : Type 0 where
  pub bound : h ≤ k
  pub leads : 0 < h → from edges (h - 1) ≡ a
  pub none : (e : ℕ) → h ≤ e → e < k → from edges e ≡ a → ⊥

-- the last edge from each node, and the one before each edge
pub record AreChains (g : NeedsGraph) (last before : List ℕ) : Type 0 where
  pub last_len : length last ≡ g.n
  pub before_len : length before ≡ length g.edges
  pub is_last : (a : ℕ) → a < g.n → IsLast g.edges a (length g.edges) (slice_index last a)
  pub is_before : (e : ℕ) → e < length g.edges →
      IsLast g.edges (from g.edges e) e (slice_index before e)
