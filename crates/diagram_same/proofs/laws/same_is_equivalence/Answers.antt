use Rattle.diagram_same.proofs.SameSubsystems.{same_is_equivalence}
use Rattle.diagram_same.proofs.laws.same_is_equivalence.Goals as goal

-- src/laws.rt:5:1
pub returns : goal.returns
returns c = same_is_equivalence
