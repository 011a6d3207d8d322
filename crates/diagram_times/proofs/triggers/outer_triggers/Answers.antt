use Rattle.std.proofs.Common.{◌∙◌, ◌++◌, ◌∷◌, [], ap₂, sym, arith}
use Rattle.std.proofs.lemmas.List.FromFn.{map-range_with_len_more}
use Rattle.diagram_meaning.specs.SampleTimes.{outermost_trigger}
use Rattle.diagram_times.proofs.triggers.outer_triggers.Goals as goal

pub loop-b-preserved : goal.loop-b-preserved
loop-b-preserved c =
    c.in_ok-push.ensures.items ∙ ap₂ (λ xs x. xs ++ x ∷ []) c.loop-b.invariant c.outermost_trigger.ensures
    ∙ sym (map-range_with_len_more (outermost_trigger c.args.rows.now) 0 c.loop-b.b c.loop-b.b (omega arith))
