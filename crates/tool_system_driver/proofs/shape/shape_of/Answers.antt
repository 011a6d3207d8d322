use Rattle.diagram_meaning.specs.ResolvedTable.{table_of_tree}
use Rattle.tool_system_driver.proofs.DrivenShapes.{shape-driven}
use Rattle.tool_system_driver.proofs.shape.shape_of.Goals as goal

pub returns-clause-driven : goal.returns-clause-driven
returns-clause-driven c = λ w same.
    shape-driven c.profiles_are_one.ensures (table_of_tree c.args.r.now) c.args.system.row c.in_ok-shape.shape w c.in_ok-shape.ensures same
