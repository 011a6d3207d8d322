use Rattle.lustre_instances.proofs.SystemsHold.{systems_hold}
use Rattle.lustre_instances.proofs.systems.systems_hold.Goals as goal

pub returns : goal.returns
returns c = systems_hold
