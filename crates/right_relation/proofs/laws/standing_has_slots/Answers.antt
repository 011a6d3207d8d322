use Rattle.right_relation.proofs.lemmas.StandingShapes as proof
use Rattle.right_relation.proofs.laws.standing_has_slots.Goals as goal

pub returns : goal.returns
returns c = proof.standing_has_slots
