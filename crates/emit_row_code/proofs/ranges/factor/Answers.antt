use Rattle.std.proofs.Common.{◌≡◌, ◌≤◌, ◌^◌, ◌*◌, ◌%◌, ◌∙◌, ap, sym, pos, to_z, w64, arith}
use Rattle.std.proofs.Math.Pow.{pow_mono}
use Rattle.std.proofs.lemmas.Int.{ints}
use Rattle.diagram_blocks.specs.Value.{signed_term}
use Rattle.emit_row_code.proofs.ranges.factor.Goals as goal

pub overflow_sub-result : goal.overflow_sub-result
overflow_sub-result c =
    let few : c.args.bits ≤ 62 = c.requires in
    let small : 2 ^ c.args.bits ≤ 2 ^ 62 = pow_mono few in
    omega (arith, ints, small)

pub returns-else-minus : goal.returns-else-minus
returns-else-minus c =
    let few : c.args.bits ≤ 62 = c.requires in
    let small : 2 ^ c.args.bits ≤ 2 ^ 62 = pow_mono few in
    let unit : to_z w64 (1 * 2 ^ c.args.bits % 18446744073709551616) ≡ pos (2 ^ c.args.bits) = omega (arith, ints, small) in
    unit ∙ sym (ap (λ minus. signed_term minus (pos (2 ^ c.args.bits))) c.if-minus.false)
