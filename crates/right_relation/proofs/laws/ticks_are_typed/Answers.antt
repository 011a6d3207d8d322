use Rattle.right_relation.proofs.lemmas.TypedTicks as proof
use Rattle.right_relation.proofs.laws.ticks_are_typed.Goals as goal

pub returns : goal.returns
returns c = proof.ticks_are_typed c.header_is_of_own_rows.ensures c.ticks_are_typed.ensures
