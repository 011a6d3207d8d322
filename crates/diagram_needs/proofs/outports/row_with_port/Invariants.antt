use Rattle.std.proofs.Common.{◌≡◌, ◌==◌, None, find, take}
use Rattle.diagram_meaning.specs.Rows.{row_at}
use Rattle.diagram_blocks.specs.Kinds.{port_of}
use Rattle.diagram_needs.proofs.outports.row_with_port.Given as goal

abbrev pub invariant-loop-b : goal.invariant-loop-b
invariant-loop-b l = find (λ b. port_of (row_at l.rows b).kind == l.port) (take l.b-index l.own) ≡ None
