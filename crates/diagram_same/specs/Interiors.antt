-- The rows inside a subsystem, by the row where they end.
use Rattle.std.specs.Prelude.{◌≡◌, ℕ, ◌+◌, ◌-◌, ◌<◌, ◌≤◌, Bool, false, nat_le, List, length, Option, Some, None}
use Rattle.std.specs.List.{range_with_len}
use Rattle.diagram_meaning.specs.declared.table.Row.{Row}
use Rattle.diagram_same.specs.Same.{rows_inside}

-- whether there is a number, and it is e or more
abbrev pub is_from : ℕ → Option ℕ → Bool
is_from e None = false
is_from e (Some o) = nat_le e o

-- the rows inside subsystem e are those after its own and before the end
pub record IsInterior (rows : List Row) (e end : ℕ) : Type 0 where
  pub late : e < end
  pub within : end ≤ length rows
  pub is_range : rows_inside rows e ≡ range_with_len (e + 1) (end - (e + 1))
