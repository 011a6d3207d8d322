use Rattle.tool_ending_laws.proofs.Completeness.{complete}
use Rattle.tool_ending_laws.proofs.laws.endings_are_complete.Goals as goal

pub returns : goal.returns
returns c = complete c.statuses_are_exact.ensures
