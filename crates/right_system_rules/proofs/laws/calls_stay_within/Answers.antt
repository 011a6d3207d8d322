use Rattle.right_system_rules.proofs.Alone as proof
use Rattle.right_system_rules.proofs.laws.calls_stay_within.Goals as goal

pub returns : goal.returns
returns c =
    proof.calls_stay_within c.locals_are_lawful.ensures c.resolved_rows_are_narrow.ensures
    c.row_ops_are_writable.ensures c.cycle_is_of_locals.ensures
    (record {
      statements = c.statements_are_lawful.ensures;
      shallow = c.all_statements_are_shallow.ensures;
      rows = c.rows_are_lawful.ensures;
      depth = c.rows_are_shallow.ensures;
      tests = c.tests_are_lawful.ensures;
      plain = c.all_tests_are_plain.ensures;
    })
