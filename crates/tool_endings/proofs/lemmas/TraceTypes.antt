-- The rows of a trace are rows of the root's inputs.
use Rattle.std.proofs.Common.{◌≡◌, ℕ, ◌+◌, List, [], ◌∷◌, map, refl}
use Rattle.std.specs.Prelude.{Bool, true, false, ℤ, Result, Ok, Err, None, Some, ◌==◌, if◌then◌else◌}
use Rattle.std.specs.List.{AllByRecursion, AllZip}
use Rattle.std.specs.Str.Lines.{lines}
use Rattle.base_core.specs.declared.Port.{Port}
use Rattle.base_fixed_point.specs.declared.types.FixType.{FixType}
use Rattle.base_fixed_point.specs.Conversion.{InType}
use Rattle.diagram_meaning.specs.Diagram.{Diagram}
use Rattle.diagram_meaning.specs.Inputs.{input_ports}
use Rattle.tool_traces.specs.declared.rows.BadWhy.{BadWhy}
use Rattle.tool_traces.specs.declared.rows.BadWhy.TheVariants.{Many}
use Rattle.tool_traces.specs.Rows.{Trace, with_row, row_of, rows_behind, most_lines}
use Rattle.diagram_meaning.specs.Traces.{input_type_of, IsTrace}
use Rattle.tool_compiled.specs.Compilation.{root_types}
use Rattle.tool_traces.proofs.lemmas.RowWalk.{row_in_types}
use Rattle.tool_endings.specs.Runs.{rows_in}

-- numbers of the types of some ports are numbers for the ports
by-port : (type : Port → FixType) (ports : List Port) (row : List ℤ) → AllZip InType (map type ports) row →
    AllZip (λ p v. InType (type p) v) ports row
by-port type [] [] h = h
by-port type [] (v ∷ vs) h = h
by-port type (p ∷ ps) [] h = h
by-port type (p ∷ ps) (v ∷ vs) h = (h.0, by-port type ps vs h.1)

-- each row after some lines is one of the types
with-row : (types : List FixType) (line : ℕ) (row : Result (List ℤ) BadWhy) (rest : Trace) →
    ((values : List ℤ) → row ≡ Ok values → AllZip InType types values) →
    AllByRecursion (AllZip InType types) rest.rows → AllByRecursion (AllZip InType types) (with_row line row rest).rows
with-row types line (Ok values) rest first later = (first values refl, later)
with-row types line (Err why) rest first later = tt

rows-typed : (line : ℕ) (types : List FixType) (texts : List (List ℕ)) →
    AllByRecursion (AllZip InType types) (rows_behind line types texts).rows
rows-typed line types [] = tt
rows-typed line types (text ∷ texts) = by_line (line == most_lines) (rows-typed (line + 1) types texts)
  where
    by_line : (last : Bool) → AllByRecursion (AllZip InType types) (rows_behind (line + 1) types texts).rows →
        AllByRecursion (AllZip InType types)
        (if last then record { rows = []; bad = Some (record { line = most_lines; why = Many }) }
        else with_row (line + 1) (row_of types text) (rows_behind (line + 1) types texts)).rows
    by_line true later = tt
    by_line false later = with-row types (line + 1) (row_of types text) (rows_behind (line + 1) types texts) (row_in_types types text) later

all-ports : (type : Port → FixType) (ports : List Port) (rows : List (List ℤ)) →
    AllByRecursion (AllZip InType (map type ports)) rows →
    AllByRecursion (λ x. AllZip (λ p v. InType (type p) v) ports x) rows
all-ports type ports [] h = tt
all-ports type ports (row ∷ rows) h = (by-port type ports row h.0, all-ports type ports rows h.1)

pub rows-trace : (d : Diagram) (bytes : List ℕ) → IsTrace d None (rows_in (root_types d) bytes)
rows-trace d bytes =
    all-ports (input_type_of d None) (input_ports d.rows None) (rows_in (root_types d) bytes) (rows-typed 0 (root_types d) (lines bytes))
