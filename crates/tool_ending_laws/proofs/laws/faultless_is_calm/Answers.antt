use Rattle.tool_ending_laws.proofs.EndingLaws.{no_count}
use Rattle.tool_ending_laws.proofs.laws.faultless_is_calm.Goals as goal

pub returns : goal.returns
returns c = no_count
