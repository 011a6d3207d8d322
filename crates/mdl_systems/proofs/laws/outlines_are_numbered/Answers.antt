use Rattle.mdl_systems.proofs.NumberLemmas.{number-at}
use Rattle.mdl_systems.proofs.laws.outlines_are_numbered.Goals as goal

pub returns : goal.returns
returns c = number-at
