use Rattle.std.proofs.Common.{rules, ◌≡◌, ◌∙◌, ap, to_z, of_z, FitsSigned}
use Rattle.std.specs.Int.{w64, w128}
use Rattle.std.proofs.lemmas.Int.{to_z-of_z}
use Rattle.base_fixed_point.specs.Constants.{capped}
use Rattle.base_fixed_point.specs.Conversion.{clamped, nearest_at}
use Rattle.base_fixed_point.proofs.ConstantLaws.{clamped-capped}
use Rattle.base_fixed_point.proofs.constants.quantize.Goals as goal

pub returns-clause-value : goal.returns-clause-value
returns-clause-value c =
    let nearest_fits : FitsSigned w64 c.nearest_within.result = search rules in
    let copy_fits : FitsSigned w128 c.from.result = search rules in
    let cast_fits : FitsSigned w64 c.cast_into.result = search rules in
    let number : to_z w128 (of_z w128 c.from.result) ≡ capped (nearest_at c.args.d.now c.args.to.frac) =
    to_z-of_z w128 _ copy_fits ∙ c.from.ensures ∙ to_z-of_z w64 _ nearest_fits ∙ c.nearest_within.ensures in
    to_z-of_z w64 _ cast_fits ∙ c.cast_into.ensures.value ∙ ap (clamped c.args.to) number
    ∙ clamped-capped c.args.to (nearest_at c.args.d.now c.args.to.frac)
