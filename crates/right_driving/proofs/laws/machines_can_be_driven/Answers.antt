use Rattle.right_driving.proofs.ReadMachines.{machines_can_be_driven}
use Rattle.right_driving.proofs.laws.machines_can_be_driven.Goals as goal

pub returns : goal.returns
returns c = machines_can_be_driven c.readings_agree.ensures c.instances_are_found.ensures c.right_code_is_drivable.ensures
