use Rattle.diagram_times.proofs.OneInput.{faster}
use Rattle.diagram_times.proofs.running.is_faster.Goals as goal

pub returns-in-Some : goal.returns-in-Some
returns-in-Some c table is_base =
    faster table c.args.base is_base c.args.text c.time_of.result c.in-Some.outside c.args.inside.period c.time_of.ensures c.in-Some.is
