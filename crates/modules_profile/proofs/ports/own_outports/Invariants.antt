use Rattle.std.proofs.Common.{◌≡◌, filter, take}
use Rattle.diagram_meaning.specs.Rows.{row_at}
use Rattle.diagram_blocks.specs.Kinds.{is_outport}
use Rattle.modules_profile.proofs.ports.own_outports.Given as goal

abbrev pub invariant-loop-b : goal.invariant-loop-b
invariant-loop-b l =
    l.outports.items ≡ filter (λ b. is_outport (row_at l.r.tree.table.rows b).kind) (take l.b-index l.own)
