use Rattle.right_system_shape.proofs.KeptRules as proof
use Rattle.right_system_shape.proofs.laws.code_keeps_rules.Goals as goal

pub returns : goal.returns
returns c = proof.code_keeps_rules c.locals_are_lawful.ensures c.nodes_reach_as_rows.ensures c.rows_read_their_leaves.ensures
