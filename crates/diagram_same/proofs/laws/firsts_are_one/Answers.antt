use Rattle.diagram_same.proofs.OneFirsts.{firsts_are_one}
use Rattle.diagram_same.proofs.laws.firsts_are_one.Goals as goal

-- src/laws.rt:15:1
pub returns : goal.returns
returns c = firsts_are_one
