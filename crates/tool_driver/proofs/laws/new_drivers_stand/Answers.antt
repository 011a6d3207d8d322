use Rattle.tool_driver.proofs.GoingOn.{new_drivers_stand}
use Rattle.tool_driver.proofs.laws.new_drivers_stand.Goals as goal

pub returns : goal.returns
returns c = new_drivers_stand
