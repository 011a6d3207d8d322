use Rattle.right_inlined.proofs.InlinedCode as proof
use Rattle.right_inlined.proofs.laws.inlined_is_code.Goals as goal

pub returns : goal.returns
returns c = proof.inlined_is_code c.inlined_is_lawful.ensures c.inlined_refines.ensures c.refined_is_code.ensures
