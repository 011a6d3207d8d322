use Rattle.std.proofs.Common.{◌≡◌, ◌∙◌, None, map, length, if◌then◌else◌, ap, arith}
use Rattle.std.specs.List.{range_with_len}
use Rattle.diagram_activity.specs.declared.TrigMem.TheVariants.{NotYet}
use Rattle.diagram_meaning.specs.ResolvedTree.{diagram_of}
use Rattle.diagram_meaning.specs.Run.{has_trigger, row_trigger}
use Rattle.test_solver.proofs.RowLists.{row-more}
use Rattle.test_solver.proofs.tick.triggers_after.Goals as goal

pub loop-e-preserved : goal.loop-e-preserved
loop-e-preserved c x =
    let d = diagram_of c.args.r.now in
    row-more (λ e. if has_trigger d None e then row_trigger d None x c.args.before.now c.args.values.now e else NotYet)
    c.loop-e.e c.loop-e.next.items _ _ (c.loop-e.invariant x) c.in_ok-push.ensures.items (c.row_trigger.ensures x)

pub returns : goal.returns
returns c x =
    let d = diagram_of c.args.r.now in
    let low = c.loop-e-test.false in
    let high = c.loop-e.auto.e-end in
    let all : c.loop-e.e ≡ length c.args.r.now.tree.table.rows = omega (arith, c.row_count-e-end.ensures.count, low, high) in
    c.loop-e.invariant x
    ∙ ap (λ n. map (λ e. if has_trigger d None e then row_trigger d None x c.args.before.now c.args.values.now e
    else NotYet) (range_with_len 0 n)) all
