use Rattle.diagram_meaning.proofs.WrittenTimes as proof
use Rattle.diagram_meaning.proofs.laws.tables_have_times.Goals as goal

pub returns : goal.returns
returns c = proof.tables_have_times
