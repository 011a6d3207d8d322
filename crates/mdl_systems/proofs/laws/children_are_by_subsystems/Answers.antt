use Rattle.mdl_systems.proofs.TreeLemmas.{children-by-owner}
use Rattle.mdl_systems.proofs.laws.children_are_by_subsystems.Goals as goal

pub returns : goal.returns
returns c = children-by-owner
