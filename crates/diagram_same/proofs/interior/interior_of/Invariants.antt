use Rattle.std.proofs.Common.{◌-◌, ◌<◌, ◌≤◌, length}
use Rattle.diagram_same.proofs.lemmas.Interiors.{AllWithin}
use Rattle.diagram_same.proofs.interior.interior_of.Given as goal

abbrev pub invariant-loop-end : goal.invariant-loop-end
invariant-loop-end l = (l.e < l.end) × (l.end ≤ length l.r.tree.table.rows) × AllWithin l.r.tree.table.rows l.e l.end

abbrev pub decreases-loop-end : goal.decreases-loop-end
decreases-loop-end l = length l.r.tree.table.rows - l.end
