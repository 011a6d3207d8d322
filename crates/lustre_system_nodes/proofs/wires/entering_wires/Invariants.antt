use Rattle.std.proofs.Common.{◌≡◌, map, take}
use Rattle.std.specs.Prelude.{slice_get}
use Rattle.diagram_meaning.specs.Rows.{row_at}
use Rattle.lustre_system_nodes.proofs.wires.entering_wires.Given as goal

abbrev pub invariant-loop-i : goal.invariant-loop-i
invariant-loop-i l = l.wires.items ≡ map (λ i. slice_get (row_at l.table i).inputs 0) (take l.i-index l.inports)
