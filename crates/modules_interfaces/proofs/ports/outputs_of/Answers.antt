use Rattle.std.proofs.Common.{arith}
use Rattle.diagram_blocks.specs.Kinds.{is_outport}
use Rattle.modules_interfaces.proofs.PortLists.{counted, few-ports}
use Rattle.modules_interfaces.proofs.ports.outputs_of.Goals as goal

pub returns-clause-is : goal.returns-clause-is
returns-clause-is c =
    counted c.args.r.now.tree.table.rows is_outport c.args.system (c.is_resolved.ensures.tree.table.outports c.args.system)
    c.args.counts.now c.count_at.result c.requires c.count_at.ensures

pub returns-clause-few : goal.returns-clause-few
returns-clause-few c =
    let has = c.is_resolved.ensures.tree.table.outports c.args.system in
    let many = counted c.args.r.now.tree.table.rows is_outport c.args.system has
    c.args.counts.now c.count_at.result c.requires c.count_at.ensures in
    let few = few-ports c.args.r.now.tree.table.rows is_outport c.args.system has in
    omega (arith, many, few)
