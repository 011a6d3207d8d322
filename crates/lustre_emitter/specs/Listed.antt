-- The systems of a model in a list.
use Rattle.std.specs.Prelude.{ℕ, List, map, All, Option}
use Rattle.std.specs.Borrow.{Bor}
use Rattle.diagram_meaning.specs.declared.subsystem.Subsystem.{Subsystem}
use Rattle.diagram_meaning.specs.declared.table.Row.{Row}
use Rattle.diagram_meaning.specs.Nested.{Agrees, row_of, system_of}

-- the rows of systems
abbrev pub listed_rows : List (Bor Subsystem) → List (Option ℕ)
listed_rows systems = map (λ s. row_of (system_of s.now)) systems

-- each of them agrees with the table
abbrev pub AreAgreed : List Row → List (Bor Subsystem) → Type 0
AreAgreed rows systems = All (λ s. Agrees rows (system_of s.now)) systems
