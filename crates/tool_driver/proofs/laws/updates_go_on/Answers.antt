use Rattle.tool_driver.proofs.GoingOn.{updates_go_on}
use Rattle.tool_driver.proofs.laws.updates_go_on.Goals as goal

pub returns : goal.returns
returns c = updates_go_on c.scripts_grow.ensures c.lawful_scripts_run.ensures
