use Rattle.right_system_shape.proofs.UsedParts as proof
use Rattle.right_system_shape.proofs.laws.code_is_used.Goals as goal

pub returns : goal.returns
returns c = proof.code_is_used c.locals_are_lawful.ensures c.nodes_reach_as_rows.ensures
