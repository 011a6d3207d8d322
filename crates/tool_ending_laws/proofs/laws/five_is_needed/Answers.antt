use Rattle.tool_ending_laws.proofs.ReadFaults.{five_to_nothing}
use Rattle.tool_ending_laws.proofs.laws.five_is_needed.Goals as goal

pub returns : goal.returns
returns c = five_to_nothing c.one_verdict.ensures c.readings_agree.ensures c.texts_are_judged.ensures
