use Rattle.std.proofs.Common.{take}
use Rattle.diagram_times.specs.Searching.{Among, IsFound}
use Rattle.diagram_times.proofs.inputs.found_among.Given as goal

abbrev pub invariant-loop-row : goal.invariant-loop-row
invariant-loop-row l = IsFound (Among l.found (take l.row-index l.rows)) l.all
