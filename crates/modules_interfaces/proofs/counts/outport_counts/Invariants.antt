use Rattle.std.proofs.Common.{◌≡◌, ◌+◌, length, take}
use Rattle.diagram_blocks.specs.Kinds.{is_outport}
use Rattle.modules_interfaces.specs.PortCounts.{AreCounts}
use Rattle.modules_interfaces.proofs.counts.outport_counts.Given as goal

abbrev pub invariant-loop-row : goal.invariant-loop-row
invariant-loop-row l = (length l.counts.items ≡ length l.rows + 1) × AreCounts is_outport (take l.row-index l.rows) l.counts.items
