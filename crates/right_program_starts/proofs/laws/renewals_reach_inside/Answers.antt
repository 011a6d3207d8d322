use Rattle.right_program_starts.proofs.RenewedInside.{renewals_reach_inside}
use Rattle.right_program_starts.proofs.laws.renewals_reach_inside.Goals as goal

pub returns : goal.returns
returns c = renewals_reach_inside c.fields_have_places.ensures
