use Rattle.std.proofs.Common.{◌≡◌, filter, take}
use Rattle.diagram_meaning.specs.Rows.{row_at}
use Rattle.diagram_blocks.specs.Kinds.{is_inport}
use Rattle.modules_profile.proofs.ports.own_inports.Given as goal

abbrev pub invariant-loop-b : goal.invariant-loop-b
invariant-loop-b l =
    l.inports.items ≡ filter (λ b. is_inport (row_at l.r.tree.table.rows b).kind) (take l.b-index l.own)
