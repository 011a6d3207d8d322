use Rattle.right_driving.proofs.FoundInstances.{instances_are_found}
use Rattle.right_driving.proofs.laws.instances_are_found.Goals as goal

pub returns : goal.returns
returns c = instances_are_found
