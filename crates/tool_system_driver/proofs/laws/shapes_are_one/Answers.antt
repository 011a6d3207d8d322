use Rattle.tool_system_driver.proofs.DrivenShapes.{shapes_are_one}
use Rattle.tool_system_driver.proofs.laws.shapes_are_one.Goals as goal

pub returns : goal.returns
returns c = shapes_are_one c.profiles_are_one.ensures
