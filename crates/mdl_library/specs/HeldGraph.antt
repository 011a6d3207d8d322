-- Edges that lead from a marked node.
use Rattle.std.specs.Prelude.{ℕ, Bool, not, ◌&&◌, ◌==◌, List, slice_index, bit_and}

-- whether an edge leads to node k from a node whose mask has bit 0
abbrev pub marks : (masks : List ℕ) → (k : ℕ) → ℕ × ℕ → Bool
marks masks k edge = (edge.1 == k) && not (bit_and (slice_index masks edge.0) 1 == 0)
