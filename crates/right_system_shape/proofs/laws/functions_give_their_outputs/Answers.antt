use Rattle.right_system_shape.proofs.GivenOutputs as proof
use Rattle.right_system_shape.proofs.laws.functions_give_their_outputs.Goals as goal

pub returns : goal.returns
returns c = proof.functions_give_their_outputs c.locals_are_lawful.ensures c.nodes_reach_as_rows.ensures
