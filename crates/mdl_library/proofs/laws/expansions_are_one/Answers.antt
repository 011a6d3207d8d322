use Rattle.mdl_library.proofs.OneExpansion.{expansions_are_one}
use Rattle.mdl_library.proofs.laws.expansions_are_one.Goals as goal

pub returns : goal.returns
returns c = expansions_are_one
