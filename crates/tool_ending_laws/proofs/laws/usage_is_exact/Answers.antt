use Rattle.tool_ending_laws.proofs.StatusLaws.{usage}
use Rattle.tool_ending_laws.proofs.laws.usage_is_exact.Goals as goal

pub returns : goal.returns
returns c = usage
