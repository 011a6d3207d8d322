use Rattle.mdl_systems.proofs.PlaceLemmas.{owners-before}
use Rattle.mdl_systems.proofs.laws.owners_are_before.Goals as goal

pub returns : goal.returns
returns c = owners-before
