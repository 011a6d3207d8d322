use Rattle.std.proofs.Common.{◌≤◌, rules}
use Rattle.diagram_times.proofs.HullLemmas.{common-period, common-low}
use Rattle.diagram_times.proofs.hull.common_period.Goals as goal

pub overflow_cast-result : goal.overflow_cast-result
overflow_cast-result c =
    let is =
    common-period c.args.a c.args.b _ _ _ _ c.gcd.result (search rules) (search rules)
    (search rules) c.gcd-periods.ensures.greatest c.gcd.ensures.greatest in
    let low : c.gcd.result ≤ c.args.a.period = common-low c.args.a c.args.b c.gcd.result is in
    search rules

pub returns : goal.returns
returns c =
    common-period c.args.a c.args.b _ _ _ _ c.gcd.result (search rules) (search rules)
    (search rules) c.gcd-periods.ensures.greatest c.gcd.ensures.greatest
