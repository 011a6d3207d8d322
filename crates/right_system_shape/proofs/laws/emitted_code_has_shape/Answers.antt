use Rattle.right_system_shape.proofs.Whole as proof
use Rattle.right_system_shape.proofs.laws.emitted_code_has_shape.Goals as goal

pub returns : goal.returns
returns c = proof.emitted_code_has_shape c.locals_are_lawful.ensures c.nodes_reach_as_rows.ensures c.rows_read_their_leaves.ensures
