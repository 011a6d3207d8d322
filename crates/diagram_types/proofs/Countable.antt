-- The bits of the rows of a well-formed table can be counted.
use Rattle.diagram_meaning.specs.RowTable.{RowTable}
use Rattle.diagram_meaning.specs.WellFormed.{IsWellFormed}
use Rattle.diagram_meaning.proofs.lemmas.Resolving.{has_types, within_limits}
use Rattle.diagram_types.specs.Inferred.{AreCountable}

pub countable : (table : RowTable) → IsWellFormed table → AreCountable table.rows
countable table formed b inside = ((λ types. has_types table types b formed inside), within_limits table b formed inside)
