use Rattle.right_system_rules.proofs.Alone as proof
use Rattle.right_system_rules.proofs.laws.structs_are_lawful.Goals as goal

pub returns : goal.returns
returns c =
    proof.structs_are_lawful c.locals_are_lawful.ensures c.resolved_rows_are_narrow.ensures
    c.row_ops_are_writable.ensures c.cycle_is_of_locals.ensures
