use Rattle.emit_inlined.proofs.InlinedRefines as proof
use Rattle.emit_inlined.proofs.laws.inlined_refines.Goals as goal

pub returns : goal.returns
returns c = proof.inlined_refines
