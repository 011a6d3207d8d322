use Rattle.std.proofs.Common.{◌≡◌, ◌∙◌, None, map, length, sym, ap, subst, arith, rules, FitsSigned, w64}
use Rattle.std.specs.List.{range_with_len}
use Rattle.std.proofs.lemmas.Int.{to_z-of_z}
use Rattle.diagram_meaning.specs.ResolvedTree.{diagram_of}
use Rattle.diagram_meaning.specs.Run.{row_value}
use Rattle.diagram_typed_runs.specs.Fitting.{AreFit}
use Rattle.test_solver.proofs.RowLists.{row-more}
use Rattle.diagram_typed_runs.proofs.lemmas.Kept.{values-fit}
use Rattle.test_solver.proofs.tick.round.Goals as goal

pub loop-b-preserved : goal.loop-b-preserved
loop-b-preserved c =
    let value_fits : FitsSigned w64 c.in_ok-row_value.field-0 = search rules in
    row-more
    (row_value (diagram_of c.args.tick.now.diagram.now) None c.args.tick.now.number c.args.tick.now.inputs.now c.args.tick.now.before.now.values.items
    c.args.tick.now.before.now.memories.items c.args.tick.now.before.now.triggers.items c.args.values.now)
    c.loop-b.b c.loop-b.next.items _ _ c.loop-b.invariant c.in_ok-push.ensures.items (to_z-of_z w64 _ value_fits
    ∙ c.in_ok-row_value.ensures)

pub returns-clause-fit : goal.returns-clause-fit
returns-clause-fit c =
    let low = c.loop-b-test.false in
    let high = c.loop-b.auto.b-end in
    let all : c.loop-b.b ≡ length c.args.tick.now.diagram.now.tree.table.rows = omega (arith, c.row_count-b-end.ensures.count, low, high) in
    let made =
    c.loop-b.invariant
    ∙ ap (λ n.
    map (row_value (diagram_of c.args.tick.now.diagram.now) None c.args.tick.now.number c.args.tick.now.inputs.now c.args.tick.now.before.now.values.items
    c.args.tick.now.before.now.memories.items c.args.tick.now.before.now.triggers.items c.args.values.now) (range_with_len 0 n))
    all in
    subst (AreFit (diagram_of c.args.tick.now.diagram.now)) (sym made)
    (values-fit c.args.tick.now.diagram.now c.row_count-b-end.ensures.resolved None c.args.tick.now.number c.args.tick.now.inputs.now
    c.args.tick.now.before.now.values.items c.args.tick.now.before.now.memories.items c.args.values.now
    c.args.tick.now.before.now.triggers.items c.requires.inputs c.requires.before c.requires.values.each)
