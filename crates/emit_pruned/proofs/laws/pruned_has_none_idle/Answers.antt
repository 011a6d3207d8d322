use Rattle.emit_pruned.proofs.NoneIdle as proof
use Rattle.emit_pruned.proofs.laws.pruned_has_none_idle.Goals as goal

pub returns : goal.returns
returns c = proof.pruned_has_none_idle
