use Rattle.diagram_meaning.proofs.lemmas.TickLaws as proof
use Rattle.diagram_meaning.proofs.laws.own_rows_stand_in.Goals as goal

pub returns : goal.returns
returns c = proof.own_rows_stand_in
