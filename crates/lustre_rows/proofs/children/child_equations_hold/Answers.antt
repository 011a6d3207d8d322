use Rattle.lustre_rows.proofs.ChildCalls.{child_equations_hold}
use Rattle.lustre_rows.proofs.children.child_equations_hold.Goals as goal

pub returns : goal.returns
returns c = child_equations_hold
