use Rattle.right_program_starts.proofs.RenewedInside.{renewals_go_inside}
use Rattle.right_program_starts.proofs.laws.renewals_go_inside.Goals as goal

pub returns : goal.returns
returns c = renewals_go_inside c.systems_have_places.ensures c.fields_have_places.ensures c.budgets_sum_to_bound.ensures
