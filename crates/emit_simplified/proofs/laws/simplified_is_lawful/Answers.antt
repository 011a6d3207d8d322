use Rattle.emit_simplified.proofs.SimplifiedLaws as proof
use Rattle.emit_simplified.proofs.laws.simplified_is_lawful.Goals as goal

pub returns : goal.returns
returns c = proof.simplified_is_lawful c.inlined_is_lawful.ensures c.fused_is_lawful.ensures c.pruned_is_lawful.ensures
