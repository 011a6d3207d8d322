-- The inputs of a system as bits, and for each row those that it reaches inside it.
use Rattle.std.specs.Prelude.{◌≡◌, ℕ, suc, ◌+◌, ◌<◌, ◌^◌, List, length, slice_index, Option, IsBitSet, ◌↔◌}
use Rattle.base_core.specs.declared.Control.{Control}
use Rattle.base_core.specs.declared.Control.TheVariants.{Plain, Enabled, Triggered, Both}
use Rattle.diagram_meaning.specs.declared.table.Row.{Row}
use Rattle.diagram_meaning.specs.Walk.{Reaches}
use Rattle.diagram_meaning.specs.Diagram.{Diagram}
use Rattle.diagram_meaning.specs.Needs.{needs_inside, IsInputRow}

-- of the first n rows, that of input k + 1 of the system s has bit k
pub record AreInputBits (rows : List Row) (s : Option ℕ) (n : ℕ) (source : List ℕ) : Type 0 where
  pub len : length source ≡ n
  pub bits : (b k : ℕ) → b < n →
      IsBitSet (slice_index source b) k ↔ ((k < 32) × IsInputRow rows s (suc k) b)

-- row b has bit k where it reaches input k + 1 of the system s
pub record AreReachedInputs (d : Diagram) (s : Option ℕ) (masks : List ℕ) : Type 0 where
  pub len : length masks ≡ length d.rows
  pub bits : (b k : ℕ) → b < length d.rows →
      IsBitSet (slice_index masks b) k
      ↔ ((k < 32) × ((i : ℕ) × IsInputRow d.rows s (suc k) i × Reaches (needs_inside d s) b i))
