use Rattle.emit_simplified.proofs.SimplifiedLaws as proof
use Rattle.emit_simplified.proofs.laws.simplified_has_none_idle.Goals as goal

pub returns : goal.returns
returns c = proof.simplified_has_none_idle c.inlined_is_lawful.ensures c.fused_is_lawful.ensures c.pruned_has_none_idle.ensures
