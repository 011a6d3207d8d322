use Rattle.std.proofs.Common.{◌≡◌, eqb, None, find, take}
use Rattle.diagram_blocks.specs.Kinds.{port_of}
use Rattle.diagram_meaning.specs.Rows.{row_at}
use Rattle.lustre_expressions.proofs.ports.with_port.Given as goal

abbrev pub invariant-loop-b : goal.invariant-loop-b
invariant-loop-b l = find (λ b. eqb (port_of (row_at l.rows b).kind) l.port) (take l.b-index l.among) ≡ None
