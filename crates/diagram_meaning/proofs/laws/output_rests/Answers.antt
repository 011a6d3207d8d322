use Rattle.diagram_meaning.proofs.lemmas.RestsOnNeeds as proof
use Rattle.diagram_meaning.proofs.laws.output_rests.Goals as goal

pub returns : goal.returns
returns c = proof.output_rests
