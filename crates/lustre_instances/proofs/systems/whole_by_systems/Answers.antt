use Rattle.lustre_instances.proofs.WholeBySystems.{whole_by_systems}
use Rattle.lustre_instances.proofs.systems.whole_by_systems.Goals as goal

pub returns : goal.returns
returns c = whole_by_systems
