use Rattle.diagram_blocks.specs.Kinds.{is_inport}
use Rattle.modules_interfaces.proofs.PortLists.{counted}
use Rattle.modules_interfaces.proofs.ports.inputs_of.Goals as goal

pub returns : goal.returns
returns c =
    counted c.args.r.now.tree.table.rows is_inport c.args.system (c.is_resolved.ensures.tree.table.inports c.args.system)
    c.args.counts.now c.count_at.result c.requires c.count_at.ensures
