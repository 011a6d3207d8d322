use Rattle.std.proofs.Common.{ap, arith, ◌∙◌}
use Rattle.std.proofs.Math.ListN.{set}
use Rattle.base_fixed_point.specs.declared.FixType.{FixType}
use Rattle.diagram_blocks.proofs.Widths.{set_next}
use Rattle.diagram_blocks.proofs.operation.sum_fracs.Goals as goal

pub loop-i-preserved : goal.loop-i-preserved
loop-i-preserved c =
    let t = c.index-inputs-i.result in
    let i = c.loop-i.i in
    ap (λ fracs. set fracs i t.frac) c.loop-i.invariant
    ∙ set_next (λ (t : FixType). t.frac) c.args.inputs.now 16 i t.frac t (omega arith) (omega (arith, c.requires))
    (ap (λ (t : FixType). t.frac) c.index-inputs-i.is)
