use Rattle.emit_pruned.specs.Needed.{is_needed}
use Rattle.emit_pruned.proofs.LawfulPruned.{kept-lawful}
use Rattle.emit_pruned.proofs.Closed.{lawful-keeps}
use Rattle.emit_pruned.proofs.laws.pruned_is_lawful.Goals as goal

pub returns : goal.returns
returns c p lawful = kept-lawful (is_needed p) p (lawful-keeps p lawful) lawful
