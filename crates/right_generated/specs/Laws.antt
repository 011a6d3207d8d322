-- The law of generated traces.
use Rattle.std.specs.Prelude.{◌≡◌, ℕ, map, None}
use Rattle.diagram_meaning.specs.Inputs.{input_ports}
use Rattle.diagram_meaning.specs.ResolvedTable.{ResolvedTable, diagram_of_table}
use Rattle.diagram_meaning.specs.Traces.{input_type_of}
use Rattle.diagram_verdict.specs.Verdict.{Accepted, HasVerdict}
use Rattle.tool_traces.specs.Rows.{rows_of}
use Rattle.tool_generator.specs.Models.{model_text, trace_text}

-- where a generated model is accepted, no line of its generated trace is bad for its root's inputs
abbrev pub GeneratedTracesAreRows : Type 0
GeneratedTracesAreRows =
    (start size : ℕ) →
    (r : ResolvedTable) → HasVerdict (model_text start size) (Accepted r) →
    let d = diagram_of_table r in
    let types = map (input_type_of d None) (input_ports d.rows None) in
    (rows_of (trace_text start size) types).bad ≡ None
