use Rattle.mdl_systems.proofs.PlaceLemmas.{depths-around}
use Rattle.mdl_systems.proofs.laws.depths_are_owners_around.Goals as goal

pub returns : goal.returns
returns c = depths-around
