use Rattle.emit_pruned.specs.Needed.{is_needed}
use Rattle.emit_pruned.proofs.RunsAlike.{runs-as}
use Rattle.emit_pruned.proofs.Closed.{lawful-keeps}
use Rattle.emit_pruned.proofs.laws.pruned_runs_alike.Goals as goal

pub returns : goal.returns
returns c p lawful = runs-as (is_needed p) p (lawful-keeps p lawful)
