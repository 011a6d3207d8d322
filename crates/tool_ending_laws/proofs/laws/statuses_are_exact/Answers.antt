use Rattle.tool_ending_laws.proofs.StatusLaws.{comes_exactly}
use Rattle.tool_ending_laws.proofs.laws.statuses_are_exact.Goals as goal

pub returns : goal.returns
returns c = comes_exactly c.one_verdict.ensures c.readings_agree.ensures c.texts_are_judged.ensures c.shapes_are_one.ensures
