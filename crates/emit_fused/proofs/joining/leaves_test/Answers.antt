use Rattle.std.proofs.Common.{◌∙◌, ◌&&◌}
use Rattle.emit_fused.specs.Kept.{stmts_keep}
use Rattle.emit_fused.specs.Turned.{turned}
use Rattle.emit_fused.proofs.joining.leaves_test.Goals as goal

pub returns : goal.returns
returns c =
    c.both_keep-leaves.ensures
    ∙ (λ i. stmts_keep ((c.as_slice.ensures.value ∙ c.in_ok-fields.ensures) i) (turned (c.as_slice-2.ensures.value i))
    && stmts_keep ((c.as_slice.ensures.value ∙ c.in_ok-fields.ensures) i) (turned (c.as_slice-3.ensures.value i)))
