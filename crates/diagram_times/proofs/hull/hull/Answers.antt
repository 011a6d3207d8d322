use Rattle.std.proofs.Common.{refl}
use Rattle.diagram_times.proofs.HullLemmas.{is-hull}
use Rattle.diagram_times.proofs.hull.hull.Goals as goal

pub returns : goal.returns
returns c = is-hull c.args.a c.args.b c.common_period-period.result c.common_period-period.ensures _ refl refl
