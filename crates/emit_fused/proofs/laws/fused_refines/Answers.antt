use Rattle.emit_fused.proofs.FusedRefines as proof
use Rattle.emit_fused.proofs.laws.fused_refines.Goals as goal

pub returns : goal.returns
returns c = proof.fused_refines
