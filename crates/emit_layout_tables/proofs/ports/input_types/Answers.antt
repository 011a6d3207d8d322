use Rattle.std.proofs.Common.{◌+◌, ◌++◌, ◌∷◌, [], sym, ap, ◌∙◌}
use Rattle.base_core.specs.declared.base.Port.TheVariants.{Number}
use Rattle.emit_layout_tables.proofs.PortTypes.{inputs-more}
use Rattle.emit_layout_tables.proofs.ports.input_types.Goals as goal

pub loop-k-preserved : goal.loop-k-preserved
loop-k-preserved c =
    let k = c.loop-k.k in
    let p = c.index-inports-k.result in
    c.in_ok-push.ensures.items ∙ ap (λ es. es ++ (Number (k + 1), p.out) ∷ []) c.loop-k.invariant
    ∙ sym (inputs-more c.args.inports.now k p c.loop-k-test.true c.index-inports-k.is)
