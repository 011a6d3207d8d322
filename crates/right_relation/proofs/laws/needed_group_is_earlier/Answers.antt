use Rattle.right_relation.proofs.lemmas.EarlierGroups as proof
use Rattle.right_relation.proofs.laws.needed_group_is_earlier.Goals as goal

pub returns : goal.returns
returns c = proof.needed_group_is_earlier
