-- When names are those of a system.
use Rattle.std.specs.Prelude.{◌≡◌, ℕ, List, Option}
use Rattle.diagram_meaning.specs.declared.table.Row.{Row}
use Rattle.diagram_meaning.specs.Rows.{system_control}
use Rattle.diagram_meaning.specs.Inputs.{input_ports}
use Rattle.lustre_expressions.specs.declared.scopes.RowNames.{RowNames}

-- the names are those of a row of the system s, or of no row
pub record AreNamesOf (names : RowNames) (rows : List Row) (s b : Option ℕ) : Type 0 where
  pub control : names.control ≡ system_control rows s
  pub ports : names.ports.now ≡ input_ports rows s
  pub row : names.row ≡ b
