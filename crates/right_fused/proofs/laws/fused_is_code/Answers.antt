use Rattle.right_fused.proofs.FusedCode as proof
use Rattle.right_fused.proofs.laws.fused_is_code.Goals as goal

pub returns : goal.returns
returns c = proof.fused_is_code c.fused_is_lawful.ensures c.fused_refines.ensures c.refined_is_code.ensures
