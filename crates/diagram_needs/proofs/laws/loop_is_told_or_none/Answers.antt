use Rattle.diagram_needs.proofs.ToldLoops as proof
use Rattle.diagram_needs.proofs.laws.loop_is_told_or_none.Goals as goal

pub returns : goal.returns
returns c = proof.loop_is_told_or_none
