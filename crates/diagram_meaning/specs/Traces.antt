-- Traces of a system: for each tick a number for each input, in its type.
use Rattle.std.specs.Prelude.{ℕ, List, length, Option, unwrap_or, ℤ}
use Rattle.std.specs.List.{AllByRecursion, AllZip}
use Rattle.base_core.specs.declared.Port.{Port}
use Rattle.base_fixed_point.specs.declared.FixType.{FixType}
use Rattle.base_fixed_point.specs.Conversion.{InType}
use Rattle.diagram_meaning.specs.Inputs.{input_ports, input_row}
use Rattle.diagram_meaning.specs.Diagram.{Diagram, type_at}

-- the type of an input of a system; what a system doesn't have is past the table, and no trace asks
-- for it
abbrev pub input_type_of : Diagram → Option ℕ → Port → FixType
input_type_of d s p = type_at d.types (unwrap_or (input_row d.rows s p) (length d.rows))

-- a row of a trace of the system s: a number for each of its inputs, in its type, and no other
abbrev pub IsTraceRow : Diagram → Option ℕ → List ℤ → Type 0
IsTraceRow d s x = AllZip (λ p v. InType (input_type_of d s p) v) (input_ports d.rows s) x

-- a trace of the system s
abbrev pub IsTrace : Diagram → Option ℕ → List (List ℤ) → Type 0
IsTrace d s xs = AllByRecursion (IsTraceRow d s) xs
