-- What contracts see of a table.
use Rattle.std.specs.Prelude.{List, Option}
use Rattle.base_core.specs.declared.Frac.{Frac}
use Rattle.diagram_meaning.specs.declared.table.Row.{Row}

-- all blocks of a model, in the order of the file, and its written step
pub record RowTable : Type 0 where
  pub rows : List Row
  pub fixed_step : Option Frac
