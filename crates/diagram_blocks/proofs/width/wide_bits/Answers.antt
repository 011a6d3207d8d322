use Rattle.std.proofs.Common.{◌≡◌, length, arith, subst}
use Rattle.diagram_blocks.specs.Limits.{HasInputTypes, IsWithinLimits, IsCount}
use Rattle.diagram_blocks.proofs.Widths.{total_bits_le}
use Rattle.diagram_blocks.proofs.width.wide_bits.Goals as goal

pub conversion_bits-requires-in-Product : goal.conversion_bits-requires-in-Product
conversion_bits-requires-in-Product c =
    let ts = c.args.inputs.now in
    let count : length ts ≡ c.in-Product.count = subst (λ k. HasInputTypes k ts) c.in-Product.is c.requires.has_types in
    let limits : IsCount c.in-Product.count = subst IsWithinLimits c.in-Product.is c.requires.within_limits in
    omega (arith, c.total_bits.ensures, total_bits_le ts, count, limits)
