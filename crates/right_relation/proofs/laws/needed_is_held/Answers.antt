use Rattle.right_relation.proofs.lemmas.NeededNodes as proof
use Rattle.right_relation.proofs.laws.needed_is_held.Goals as goal

pub returns : goal.returns
returns c = proof.needed_is_held
