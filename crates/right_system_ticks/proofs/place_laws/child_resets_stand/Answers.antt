use Rattle.right_system_ticks.proofs.ChildProcedures as proof
use Rattle.right_system_ticks.proofs.place_laws.child_resets_stand.Goals as goal

pub returns : goal.returns
returns c = proof.child_resets_stand
