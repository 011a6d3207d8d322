use Rattle.tool_ending_laws.proofs.StatusLaws.{each_exactly}
use Rattle.tool_ending_laws.proofs.laws.each_status_is_exact.Goals as goal

pub returns : goal.returns
returns c = each_exactly c.statuses_are_exact.ensures
