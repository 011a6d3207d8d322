use Rattle.tool_ending_laws.proofs.Completeness.{done_unless_unread}
use Rattle.tool_ending_laws.proofs.laws.sure_are_done.Goals as goal

pub returns : goal.returns
returns c = done_unless_unread c.statuses_are_exact.ensures
