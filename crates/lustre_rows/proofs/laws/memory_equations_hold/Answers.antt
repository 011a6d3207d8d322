use Rattle.lustre_rows.proofs.Memories.{memory_equations_hold}
use Rattle.lustre_rows.proofs.laws.memory_equations_hold.Goals as goal

pub returns : goal.returns
returns c = memory_equations_hold
