use Rattle.right_system_shape.proofs.CalledOnce as proof
use Rattle.right_system_shape.proofs.laws.code_states_once.Goals as goal

pub returns : goal.returns
returns c = proof.code_states_once c.locals_are_lawful.ensures c.nodes_reach_as_rows.ensures
