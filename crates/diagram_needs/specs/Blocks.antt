-- Blocks of 64 rows, of which each has a bit of a mask.
use Rattle.std.specs.Prelude.{◌≡◌, ℕ, ◌+◌, ◌<◌, ◌≤◌, List, length, slice_index, IsBitSet, ◌↔◌}
use Rattle.diagram_needs.specs.Needed.{IsOnLoop}

-- row b is among the 64 rows from first on
abbrev pub IsInBlock : ℕ → ℕ → Type 0
IsInBlock first b = (first ≤ b) × (b < first + 64)

-- of n rows each of the 64 from first on has a bit of its own
pub record AreBlockBits (n first : ℕ) (source : List ℕ) : Type 0 where
  pub len : length source ≡ n
  pub bits : (b k : ℕ) → b < n → IsBitSet (slice_index source b) k ↔ ((b ≡ first + k) × (k < 64))

-- row b is one of these, and on a loop
abbrev pub IsOnLoopIn : (ℕ → List ℕ) → ℕ → ℕ → Type 0
IsOnLoopIn needs first b = IsInBlock first b × IsOnLoop needs b
