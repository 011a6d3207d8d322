use Rattle.std.proofs.Common.{◌≡◌, ◌∙◌, ap, ◌+◌, ◌^◌, ◌<◌, suc, arith, pow-suc}
use Rattle.diagram_blocks.proofs.Widths.{least_power-more, exponent-le}
use Rattle.diagram_blocks.proofs.width.power_bits.Goals as goal

pub loop-power-preserved : goal.loop-power-preserved
loop-power-preserved c =
    let bits = c.loop-power.bits in
    let less : 2 ^ bits < c.args.n = omega (arith, c.loop-power.invariant.is_power) in
    record {
      is_power =
          omega (
            arith,
            c.loop-power.invariant.is_power,
            pow-suc 2 bits,
            ap (λ k. 2 ^ k) (let e : bits + 1 ≡ suc bits = omega arith in e),
          );
      same_search = c.loop-power.invariant.same_search ∙ least_power-more c.args.n bits less;
      bound = exponent-le c.args.n bits less (omega arith);
    }
