use Rattle.emit_pruned.proofs.NoneIdle as proof
use Rattle.emit_pruned.proofs.laws.calls_mean_no_lines.Goals as goal

pub returns : goal.returns
returns c = proof.calls_mean_no_lines
