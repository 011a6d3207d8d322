use Rattle.diagram_needs.proofs.OneLoop as proof
use Rattle.diagram_needs.proofs.laws.told_loop_is_one.Goals as goal

pub returns : goal.returns
returns c = proof.told_loop_is_one
