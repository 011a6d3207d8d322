use Rattle.tool_entry.proofs.Endings.{ended, unsure_asked}
use Rattle.tool_entry.proofs.running.run.Goals as goal

pub returns-clause-ended : goal.returns-clause-ended
returns-clause-ended g c =
    let f = c.finish.ensures in ended _ _ _ _ _ _ _ _ _ c.act-ending.ensures.ends f.1 f.2

pub returns-clause-unsure : goal.returns-clause-unsure
returns-clause-unsure g c =
    let f = c.finish.ensures in unsure_asked c.five_is_read_fault.ensures _ _ _ _ _ _ _ c.act-ending.ensures.unsure f.1 f.2
