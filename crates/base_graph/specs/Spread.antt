-- Masks on the way: some nodes wait to be looked at, and of one node the edges from a place on are
-- done.
use Rattle.std.specs.Prelude.{◌≡◌, ℕ, ◌<◌, ◌^◌, List, length, slice_index, All, Contains, IsBitSet, ◌⊎◌}
use Rattle.base_graph.specs.NeedsGraph.{NeedsGraph}
use Rattle.base_graph.specs.Masks.{ReachesWithBit}
use Rattle.base_graph.specs.EdgeChains.{from, to}

-- the mask of b has each bit of the mask of a
abbrev pub Covers : List ℕ → ℕ → ℕ → Type 0
Covers masks a b = (k : ℕ) → IsBitSet (slice_index masks a) k → IsBitSet (slice_index masks b) k

-- each bit comes from a source, and along each edge the bits have come but where its node waits, or
-- it is one of the first of a
pub record IsSpread (g : NeedsGraph) (source masks waiting : List ℕ) (a at : ℕ) : Type 0 where
  pub len : length masks ≡ g.n
  pub fits : All (λ mask. mask < 2 ^ 64) masks
  pub are_nodes : All (λ b. b < g.n) waiting
  pub begins : (b k : ℕ) → b < g.n → IsBitSet (slice_index source b) k →
      IsBitSet (slice_index masks b) k
  pub comes : (b k : ℕ) → b < g.n → IsBitSet (slice_index masks b) k → ReachesWithBit g source b k
  pub settled : (e : ℕ) → e < length g.edges →
      ((from g.edges e ≡ a) × (e < at))
      ⊎ (Contains waiting (from g.edges e) ⊎ Covers masks (from g.edges e) (to g.edges e))
