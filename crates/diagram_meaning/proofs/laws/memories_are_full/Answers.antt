use Rattle.diagram_meaning.proofs.lemmas.FullMemories as proof
use Rattle.diagram_meaning.proofs.laws.memories_are_full.Goals as goal

pub returns : goal.returns
returns c = proof.memories_are_full
