use Rattle.std.proofs.Common.{◌≡◌, take}
use Rattle.diagram_meaning.specs.Inputs.{wires_of_rows}
use Rattle.modules_profile.proofs.local_rows.entering_wires.Given as goal

abbrev pub invariant-loop-i : goal.invariant-loop-i
invariant-loop-i l = l.wires.items ≡ wires_of_rows l.r.tree.table.rows (take l.i-index l.inports)
