use Rattle.lustre_rows.proofs.ValueEquations.{value_equations_hold}
use Rattle.lustre_rows.proofs.laws.value_equations_hold.Goals as goal

pub returns : goal.returns
returns c =
    value_equations_hold c.rows_are_computed.ensures c.nodes_give_the_same.ensures c.whole_numbers_stay.ensures
    c.rounding_is_one.ensures c.narrow_rows_fit.ensures
