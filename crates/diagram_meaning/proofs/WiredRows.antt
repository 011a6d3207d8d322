-- The wires of a row are rows of the table.
use Rattle.std.proofs.Common.{ℕ, ◌<◌, List, length, All}
use Rattle.std.proofs.lemmas.List.Elements.{All-from_recursion}
use Rattle.diagram_meaning.specs.declared.table.Row.{Row}
use Rattle.diagram_meaning.specs.WellFormed.{IsWired, IsWireIn, reading_system}
use Rattle.diagram_meaning.specs.Rows.{row_at}

pub wires-inside : (rows : List Row) → IsWired rows → (b : ℕ) → b < length rows → All (λ c. c < length rows) (row_at rows b).inputs
wires-inside rows wired b below k d low =
    (All-from_recursion (IsWireIn rows (reading_system rows (row_at rows b).kind (row_at rows b).owner))
    (row_at rows b).inputs (wired.wires b below) k d low).0
