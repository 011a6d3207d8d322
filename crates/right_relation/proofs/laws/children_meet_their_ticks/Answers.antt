use Rattle.right_relation.proofs.lemmas.ChildTicks as proof
use Rattle.right_relation.proofs.laws.children_meet_their_ticks.Goals as goal

pub returns : goal.returns
returns c = proof.children_meet_their_ticks c.header_is_of_own_rows.ensures
