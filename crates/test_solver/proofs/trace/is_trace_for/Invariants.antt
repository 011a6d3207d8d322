use Rattle.std.proofs.Common.{ℕ, ◌<◌, None, [], map, slice_index_or}
use Rattle.diagram_meaning.specs.ResolvedTree.{diagram_of}
use Rattle.diagram_meaning.specs.Traces.{IsTraceRow}
use Rattle.test_solver.proofs.trace.is_trace_for.Given as goal

abbrev pub invariant-loop-row : goal.invariant-loop-row
invariant-loop-row l = (t : ℕ) → t < l.row-index → IsTraceRow (diagram_of l.fn.r) None (slice_index_or (map (λ x. x.items) l.inputs) t [])
