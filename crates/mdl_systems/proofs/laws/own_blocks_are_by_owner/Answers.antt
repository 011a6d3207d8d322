use Rattle.mdl_systems.proofs.TreeLemmas.{own-by-owner}
use Rattle.mdl_systems.proofs.laws.own_blocks_are_by_owner.Goals as goal

pub returns : goal.returns
returns c = own-by-owner
