use Rattle.right_program_starts.proofs.RenewedInside.{restarts_follow}
use Rattle.right_program_starts.proofs.laws.restarts_follow.Goals as goal

pub returns : goal.returns
returns c = restarts_follow c.systems_have_places.ensures c.fields_have_places.ensures
