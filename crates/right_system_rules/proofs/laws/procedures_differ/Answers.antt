use Rattle.right_system_rules.proofs.Alone as proof
use Rattle.right_system_rules.proofs.laws.procedures_differ.Goals as goal

pub returns : goal.returns
returns c =
    proof.procedures_differ c.locals_are_lawful.ensures c.resolved_rows_are_narrow.ensures
    c.row_ops_are_writable.ensures c.cycle_is_of_locals.ensures
