use Rattle.std.proofs.Common.{◌<◌, All, length, sym, subst, take}
use Rattle.std.proofs.lemmas.List.Elements.{All-filter, All-take}
use Rattle.diagram_meaning.specs.Rows.{row_at}
use Rattle.diagram_blocks.specs.Kinds.{is_outport}
use Rattle.modules_profile.proofs.ports.own_outports.Goals as goal

pub returns-clause-rows : goal.returns-clause-rows
returns-clause-rows c =
    subst (All (λ b. b < length c.args.r.now.tree.table.rows)) (sym c.loop-b.invariant)
    (All-filter (λ b. is_outport (row_at c.args.r.now.tree.table.rows b).kind) (λ b. b < length c.args.r.now.tree.table.rows)
    (take c.loop-b.b-index c.args.own.now)
    (All-take (λ b. b < length c.args.r.now.tree.table.rows) c.loop-b.b-index c.args.own.now c.requires))
