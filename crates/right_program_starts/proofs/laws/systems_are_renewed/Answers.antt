use Rattle.right_program_starts.proofs.RenewedSystems.{systems_are_renewed}
use Rattle.right_program_starts.proofs.laws.systems_are_renewed.Goals as goal

pub returns : goal.returns
returns c = systems_are_renewed c.offers_are_of_headers.ensures
