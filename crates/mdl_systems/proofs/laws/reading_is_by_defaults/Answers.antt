use Rattle.mdl_systems.proofs.DefaultLemmas.{reading-same}
use Rattle.mdl_systems.proofs.laws.reading_is_by_defaults.Goals as goal

pub returns : goal.returns
returns c = reading-same
