use Rattle.std.proofs.Common.{rules, ◌≡◌, ◌∙◌, ◌≤◌, ◌^◌, ap, sym, subst, unsigned_abs, to_z, of_z, FitsSigned, le_trans}
use Rattle.std.specs.Int.{w128}
use Rattle.std.proofs.lemmas.Int.{to_z-of_z}
use Rattle.base_fixed_point.specs.Rounding.{floor_div}
use Rattle.base_fixed_point.specs.Conversion.{reduced_constant}
use Rattle.base_fixed_point.proofs.lemmas.GainLaws.{reduced_constant-even}
use Rattle.base_fixed_point.proofs.constants.reduced.Goals as goal

pub loop-left-preserved : goal.loop-left-preserved
loop-left-preserved c =
    let fits : FitsSigned w128 c.floor-odd.result = search rules in
    let same = to_z-of_z w128 c.floor-odd.result fits in
    let half : to_z w128 (of_z w128 c.floor-odd.result) ≡ floor_div (to_z w128 c.loop-left.odd-bits) 2 = same ∙ c.floor-odd.ensures.value in
    let even =
    reduced_constant-even c.loop-left.left (to_z w128 c.loop-left.odd-bits) c.loop-left-test.true
    (sym c.is_even.ensures ∙ c.if-is_even.true) in
    record {
      value = ap (reduced_constant _) half ∙ even ∙ c.loop-left.invariant.value;
      bound = subst (λ z. unsigned_abs z ≤ 2 ^ 40) (sym same) (le_trans c.floor-odd.ensures.bound c.loop-left.invariant.bound);
    }
