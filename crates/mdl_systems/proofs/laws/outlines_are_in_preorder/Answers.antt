use Rattle.mdl_systems.proofs.PlaceLemmas.{in-preorder}
use Rattle.mdl_systems.proofs.laws.outlines_are_in_preorder.Goals as goal

pub returns : goal.returns
returns c = in-preorder
