use Rattle.emit_inlined.proofs.InlinedLawful as proof
use Rattle.emit_inlined.proofs.laws.inlined_is_lawful.Goals as goal

pub returns : goal.returns
returns c = proof.inlined_is_lawful
