use Rattle.emit_fused.proofs.FusedLawful as proof
use Rattle.emit_fused.proofs.laws.fused_is_lawful.Goals as goal

pub returns : goal.returns
returns c = proof.fused_is_lawful
