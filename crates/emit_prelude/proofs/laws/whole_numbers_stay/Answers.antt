use Rattle.emit_prelude.proofs.lemmas.PreludeLaws as proof
use Rattle.emit_prelude.proofs.laws.whole_numbers_stay.Goals as goal

pub returns : goal.returns
returns c = proof.whole_numbers_stay
