use Rattle.diagram_meaning.specs.ResolvedTable.{table_of_tree}
use Rattle.tool_system_driver.proofs.DrivenShapes.{drivable, ready}
use Rattle.tool_system_driver.proofs.driver.driver_of.Goals as goal

pub new-requires : goal.new-requires
new-requires c =
    drivable c.machines_can_be_driven.ensures c.args.machine
    (table_of_tree c.args.r.now) c.args.system.row c.requires.machine c.requires.system
    c.in_ok-instance.instance c.in_ok-shape.shape c.in_ok-instance.ensures c.in_ok-shape.ensures.shape

pub returns : goal.returns
returns c = λ w is.
    c.in_ok-driver.ensures.stands w
    (ready c.machines_can_be_driven.ensures c.args.machine
    (table_of_tree c.args.r.now) c.args.system.row c.requires.machine c.requires.system
    c.in_ok-instance.instance c.in_ok-shape.shape c.in_ok-instance.ensures w is (c.in_ok-shape.ensures.driven w is.of_model))
