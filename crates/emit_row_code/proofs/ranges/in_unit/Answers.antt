use Rattle.std.proofs.Common.{rules, ◌≡◌, ◌≤◌, ◌-◌, ◌^◌, ◌∙◌, ap, ◌*ℤ◌, pos, w64, arith}
use Rattle.std.proofs.Math.Pow.{pow_mono}
use Rattle.std.proofs.lemmas.Int.{ints, to_z-of_z}
use Rattle.emit_row_code.proofs.RangeSteps.{as_it_is, pair}
use Rattle.emit_row_code.proofs.ranges.in_unit.Goals as goal

pub returns : goal.returns
returns c =
    let bits = c.args.unit - c.args.frac in
    let few : bits ≤ 62 = c.requires in
    let small : 2 ^ bits ≤ 2 ^ 62 = pow_mono few in
    let shift : 2 ^ c.saturating_sub.result ≡ 2 ^ bits = ap (λ n. 2 ^ n) c.saturating_sub.ensures in
    as_it_is c.product.result (c.args.v *ℤ pos (2 ^ bits)) (search rules)
    (c.product.ensures ∙ pair ◌*ℤ◌ _ _ c.args.v (pos (2 ^ bits)) (to_z-of_z w64 c.args.v c.ranges.v) (omega (arith, ints, small, shift)))
