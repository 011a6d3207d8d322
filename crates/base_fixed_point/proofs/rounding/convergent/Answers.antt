use Rattle.std.proofs.Common.{rules, ◌≡◌, ◌∙◌, pos, to_z, FitsSigned, arith}
use Rattle.std.specs.Int.{w128}
use Rattle.std.proofs.lemmas.Int.{ints, to_z-of_z}
use Rattle.base_fixed_point.proofs.lemmas.RoundingLaws.{convergent_from}
use Rattle.base_fixed_point.proofs.rounding.convergent.Goals as goal

pub returns-clause-value : goal.returns-clause-value
returns-clause-value c =
    let n_fits : FitsSigned w128 c.args.n = search rules in
    let below_fits : FitsSigned w128 c.floor-below.result = search rules in
    let rest_fits : FitsSigned w128 c.rem_euclid.result = search rules in
    let result_fits : FitsSigned w128 c.nearest_even.result = search rules in
    let divisor : to_z w128 c.args.d ≡ pos c.args.d = omega (arith, ints) in
    let value = simp to_z-of_z at c.nearest_even.ensures.value in
    let below = simp to_z-of_z at c.floor-below.ensures.value in
    let rest = simp (to_z-of_z, divisor) at c.rem_euclid.ensures.value in
    to_z-of_z w128 c.nearest_even.result result_fits ∙ value
    ∙ convergent_from c.args.n c.floor-below.result c.rem_euclid.result c.args.d c.requires.some below rest
