use Rattle.tool_ending_laws.proofs.Unwritten.{unwritten}
use Rattle.tool_ending_laws.proofs.laws.nothing_is_written.Goals as goal

pub returns : goal.returns
returns c = unwritten
