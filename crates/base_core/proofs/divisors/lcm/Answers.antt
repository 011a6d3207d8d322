use Rattle.std.proofs.Common.{subst, sym, ◌/◌, ◌*◌, ◌<◌}
use Rattle.base_core.specs.Numbers.{IsLcm}
use Rattle.base_core.proofs.lemmas.Divisors.{gcd_pos}
use Rattle.base_core.proofs.lemmas.LeastMultiple.{lcm_is}
use Rattle.base_core.proofs.divisors.lcm.Goals as goal

pub nonzero_div-result : goal.nonzero_div-result
nonzero_div-result c = subst (λ g. 0 < g) (sym c.gcd.ensures.value) (gcd_pos c.args.a c.args.b c.requires.some_b)

pub returns-clause-least : goal.returns-clause-least
returns-clause-least c =
    subst (λ g. IsLcm c.args.a c.args.b (c.args.a * c.args.b / g)) (sym c.gcd.ensures.value)
    (lcm_is c.args.a c.args.b c.requires.some_b)
