use Rattle.tool_ending_laws.proofs.RightLaws.{does_right}
use Rattle.tool_ending_laws.proofs.laws.endings_do_right.Goals as goal

pub returns : goal.returns
returns c = does_right c.one_verdict.ensures c.readings_agree.ensures c.texts_are_judged.ensures c.back_ends_agree.ensures
    c.shapes_are_one.ensures
