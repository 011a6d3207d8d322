use Rattle.mdl_systems.proofs.FoundLemmas.{systems-found}
use Rattle.mdl_systems.proofs.laws.systems_are_by_subsystems.Goals as goal

pub returns : goal.returns
returns c = systems-found
