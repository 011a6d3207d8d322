use Rattle.diagram_blocks.proofs.lemmas.InType as proof
use Rattle.diagram_blocks.proofs.laws.values_stay_in_type.Goals as goal

pub returns : goal.returns
returns c = proof.values_stay_in_type
