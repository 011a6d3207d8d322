use Rattle.std.proofs.Common.{◌≡◌, ◌<◌, ℕ, false}
use Rattle.diagram_meaning.specs.Rows.{row_at}
use Rattle.tool_compiler.specs.Inputs.{is_root_inport_with}
use Rattle.tool_compiler.proofs.inputs.inport_with.Given as goal

abbrev pub invariant-loop-b : goal.invariant-loop-b
invariant-loop-b l = (k : ℕ) → k < l.b → is_root_inport_with l.port (row_at l.rows k) ≡ false
