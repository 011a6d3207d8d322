use Rattle.std.proofs.Common.{◌≡◌, ◌∙◌, ap, ◌+ℤ◌, ◌-ℤ◌, ◌^◌, pos, to_z, of_z, arith}
use Rattle.std.specs.Int.{w64, w128, int_rem_euclid}
use Rattle.std.proofs.lemmas.Int.{ints}
use Rattle.base_fixed_point.specs.Conversion.{least_of}
use Rattle.base_fixed_point.proofs.lemmas.ConversionLaws.{RangeBounds, range_bounds}
use Rattle.base_fixed_point.proofs.conversion.wrapped.Goals as goal

pub overflow_cast-result : goal.overflow_cast-result
overflow_cast-result c =
    let bounds : RangeBounds c.args.t = range_bounds c.args.t in
    let low = c.from-low.ensures in
    let least = c.least.ensures in
    let values = c.power_of_two-values.ensures.value in
    omega (
      arith,
      ints,
      bounds.low,
      bounds.least,
      bounds.values,
      low,
      least,
      values,
      c.rem_euclid.ensures.lower_bound,
      c.rem_euclid.ensures.upper_bound,
    )

pub returns : goal.returns
returns c =
    let bounds : RangeBounds c.args.t = range_bounds c.args.t in
    let least = c.least.ensures in
    let copied = c.from-low.ensures in
    let power = c.power_of_two-values.ensures.value in
    let low : c.from-low.result ≡ least_of c.args.t = omega (arith, ints, bounds.low, bounds.least, least, copied) in
    let above : to_z w128 (of_z w128 (to_z w128 (of_z w128 c.args.q) -ℤ to_z w128 (of_z w128 c.from-low.result)))
    ≡ c.args.q -ℤ least_of c.args.t = omega (arith, ints, low, bounds.low, bounds.least, c.requires) in
    let divisor : to_z w128 c.power_of_two-values.result ≡ pos (2 ^ c.args.t.bits) = omega (arith, ints, power, bounds.values) in
    let rest : c.rem_euclid.result ≡ int_rem_euclid (c.args.q -ℤ least_of c.args.t) (pos (2 ^ c.args.t.bits)) =
    c.rem_euclid.ensures.value ∙ ap (λ z. int_rem_euclid z (to_z w128 c.power_of_two-values.result)) above
    ∙ ap (int_rem_euclid (c.args.q -ℤ least_of c.args.t)) divisor in
    let sum : to_z w64
    (of_z w64
    (to_z w128 (of_z w128 (to_z w128 (of_z w128 c.from-low.result) +ℤ to_z w128 (of_z w128 c.rem_euclid.result)))))
    ≡ c.from-low.result +ℤ c.rem_euclid.result =
    omega (
      arith,
      ints,
      low,
      power,
      bounds.low,
      bounds.least,
      bounds.values,
      c.rem_euclid.ensures.lower_bound,
      c.rem_euclid.ensures.upper_bound,
    ) in
    sum ∙ ap (λ l. l +ℤ c.rem_euclid.result) low ∙ ap (λ r. least_of c.args.t +ℤ r) rest
