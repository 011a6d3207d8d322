use Rattle.std.proofs.Common.{ap, sym, ◌∙◌, ◌+◌, is_some}
use Rattle.std.specs.Prelude.{not}
use Rattle.mdl_wiring.specs.Refusals.{is_loose}
use Rattle.mdl_wiring.proofs.InputLemmas.{led, find-here, find-later, find-end}
use Rattle.mdl_wiring.proofs.loose.loose_input.Goals as goal

pub returns-then-is_none : goal.returns-then-is_none
returns-then-is_none c =
    λ ends h.
    let i = c.loop-index.index in
    find-here (is_loose ends c.args.at) i c.port_count-index-end.result _ c.loop-index-test.true
    (led ends c.args.inputs.now c.args.at (i + 1) h ∙ ap (λ o. not (is_some o)) (sym c.end_at.ensures)
    ∙ ap not c.if-is_none.ensures) (c.loop-index.invariant ends h)

pub loop-index-preserved : goal.loop-index-preserved
loop-index-preserved c =
    λ ends h.
    let i = c.loop-index.index in
    find-later (is_loose ends c.args.at) i c.port_count-index-end.result _ c.loop-index-test.true
    (led ends c.args.inputs.now c.args.at (i + 1) h ∙ ap (λ o. not (is_some o)) (sym c.end_at.ensures)
    ∙ ap not c.if-is_none.ensures) (c.loop-index.invariant ends h)

pub returns : goal.returns
returns c =
    λ ends h. find-end (is_loose ends c.args.at) c.loop-index.index c.port_count-index-end.result _
    c.loop-index-test.false (c.loop-index.invariant ends h)
