use Rattle.std.proofs.Common.{rules, ◌≡◌, ◌∙◌, ap, ◌+ℤ◌, ◌*ℤ◌, ◌^◌, ℤ, pos, to_z, of_z, FitsSigned, arith}
use Rattle.std.specs.Int.{w64, w128, int_rem_euclid}
use Rattle.std.proofs.lemmas.Int.{ints, to_z-of_z}
use Rattle.base_core.specs.declared.base.Decimal.{Decimal}
use Rattle.base_fixed_point.specs.Rounding.{floor_div, nearest}
use Rattle.base_fixed_point.specs.Constants.{capped}
use Rattle.base_fixed_point.specs.Conversion.{nearest_at}
use Rattle.base_fixed_point.proofs.ConstantLaws.{nearest-far_low, nearest-far_high, nearest-near}
use Rattle.base_fixed_point.proofs.constants.nearest_within.Goals as goal

-- the numerator in memory is the numerator
same_num : (d : Decimal) → to_z w128 (of_z w128 d.num) ≡ d.num
same_num d = let bound = d.num_bound in omega (arith, ints, bound)

whole_of : (d : Decimal) (w : ℤ) → w ≡ floor_div (to_z w128 (of_z w128 d.num)) d.den → w ≡ floor_div d.num d.den
whole_of d w e = e ∙ ap (λ z. floor_div z d.den) (same_num d)

pub returns-then-whole : goal.returns-then-whole
returns-then-whole c =
    let d = c.args.d.now in
    nearest-far_low d.num d.den c.floor-whole.result c.args.frac d.lowest.0
    (whole_of d c.floor-whole.result c.floor-whole.ensures.value) (omega (arith, ints, c.if-whole.true))

pub returns-then-whole-gt-FAR : goal.returns-then-whole-gt-FAR
returns-then-whole-gt-FAR c =
    let d = c.args.d.now in
    nearest-far_high d.num d.den c.floor-whole.result c.args.frac d.lowest.0
    (whole_of d c.floor-whole.result c.floor-whole.ensures.value) (omega (arith, ints, c.if-whole-gt-FAR.true))

pub overflow_add-scaled_up : goal.overflow_add-scaled_up
overflow_add-scaled_up c =
    let bound = c.args.d.now.den_bound in
    omega (arith, ints, bound, c.scaled_up.ensures.bound, c.scaled_up-2.ensures.bound, c.nearest.ensures.bound)

pub returns : goal.returns
returns c =
    let d = c.args.d.now in
    let bound = d.den_bound in
    let unit = pos (2 ^ c.args.frac) in
    let whole_fits : FitsSigned w128 c.floor-whole.result = search rules in
    let rest_fits : FitsSigned w128 c.rem_euclid-rest.result = search rules in
    let part_fits : FitsSigned w128 c.scaled_up-2.result = search rules in
    let result_fits : FitsSigned w64 c.capped.result = search rules in
    let den : to_z w128 d.den ≡ pos d.den = omega (arith, ints, bound) in
    let rest : c.rem_euclid-rest.result ≡ int_rem_euclid d.num (pos d.den) =
    c.rem_euclid-rest.ensures.value ∙ ap (λ z. int_rem_euclid z (to_z w128 d.den)) (same_num d) ∙ ap (int_rem_euclid d.num) den in
    let units : c.scaled_up.result ≡ c.floor-whole.result *ℤ unit =
    c.scaled_up.ensures.value ∙ ap (λ z. z *ℤ unit) (to_z-of_z w128 _ whole_fits) in
    let part : to_z w128 (of_z w128 c.scaled_up-2.result) ≡ c.rem_euclid-rest.result *ℤ unit =
    to_z-of_z w128 _ part_fits ∙ c.scaled_up-2.ensures.value ∙ ap (λ z. z *ℤ unit) (to_z-of_z w128 _ rest_fits) in
    let near : c.nearest.result ≡ nearest (c.rem_euclid-rest.result *ℤ unit) d.den =
    c.nearest.ensures.value ∙ ap (λ z. nearest z d.den) part in
    let sum : to_z w128 (of_z w128 (to_z w128 (of_z w128 c.scaled_up.result) +ℤ to_z w128 (of_z w128 c.nearest.result)))
    ≡ c.scaled_up.result +ℤ c.nearest.result =
    omega (arith, ints, bound, c.scaled_up.ensures.bound, c.scaled_up-2.ensures.bound, c.nearest.ensures.bound) in
    let value : to_z w128
    (of_z w128 (to_z w128 (of_z w128 c.scaled_up.result) +ℤ to_z w128 (of_z w128 c.nearest.result)))
    ≡ nearest_at d c.args.frac =
    sum ∙ ap (λ z. z +ℤ c.nearest.result) units ∙ ap (λ z. (c.floor-whole.result *ℤ unit) +ℤ z) near
    ∙ nearest-near d.num d.den c.floor-whole.result c.rem_euclid-rest.result c.args.frac d.lowest.0
    (whole_of d c.floor-whole.result c.floor-whole.ensures.value) rest in
    to_z-of_z w64 _ result_fits ∙ c.capped.ensures ∙ ap capped value
