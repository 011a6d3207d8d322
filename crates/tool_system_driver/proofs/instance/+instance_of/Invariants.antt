use Rattle.tool_system_driver.proofs.SystemRows.{rank}
use Rattle.tool_system_driver.proofs.instance.+instance_of.Given as goal

abbrev pub decreases-instance_of : goal.decreases-instance_of
decreases-instance_of l = rank l.system
