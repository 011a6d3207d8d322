use Rattle.std.proofs.Common.{◌≡◌, ◌++◌, length}
use Rattle.diagram_meaning.specs.Rows.{around_inside, enclosing}
use Rattle.diagram_meaning.specs.Inputs.{wires_of_rows}
use Rattle.diagram_needs.proofs.GraphSteps.{inside_wires, IsBelow, rank, edges_to}
use Rattle.diagram_needs.proofs.needs_graph.push_controls.Given as goal

abbrev pub invariant-loop-outer : goal.invariant-loop-outer
invariant-loop-outer l = record {
  below : IsBelow (length l.rows) l.outer;
  total : l.edges.items ++ edges_to l.b (inside_wires l.rows l.system (enclosing l.rows l.system l.outer))
      ≡ l.fn.edges.items ++ edges_to l.b (wires_of_rows l.rows (around_inside l.rows l.system l.b));
}

abbrev pub decreases-loop-outer : goal.decreases-loop-outer
decreases-loop-outer l = rank l.outer
