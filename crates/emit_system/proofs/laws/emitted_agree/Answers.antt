use Rattle.emit_system.proofs.Agreed.{emitted_agree}
use Rattle.emit_system.proofs.laws.emitted_agree.Goals as goal

pub returns : goal.returns
returns c = emitted_agree
