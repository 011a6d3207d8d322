use Rattle.diagram_same.proofs.InnerSubsystems.{inner_are_same}
use Rattle.diagram_same.proofs.laws.inner_are_same.Goals as goal

-- src/laws.rt:10:1
pub returns : goal.returns
returns c = inner_are_same
