use Rattle.diagram_meaning.proofs.lemmas.TypeFollowed as proof
use Rattle.diagram_meaning.proofs.laws.type_is_followed.Goals as goal

pub returns : goal.returns
returns c = proof.type_followed
