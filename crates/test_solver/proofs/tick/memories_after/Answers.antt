use Rattle.std.proofs.Common.{◌≡◌, ◌∙◌, None, map, length, [], if◌then◌else◌, sym, ap, subst, arith}
use Rattle.std.specs.List.{range_with_len}
use Rattle.diagram_meaning.specs.ResolvedTree.{diagram_of}
use Rattle.diagram_meaning.specs.Run.{has_memory, row_memory}
use Rattle.diagram_typed_runs.specs.Fitting.{AreInTypes}
use Rattle.test_solver.proofs.RowLists.{row-more}
use Rattle.diagram_typed_runs.proofs.lemmas.Kept.{memories-fit}
use Rattle.test_solver.proofs.tick.memories_after.Goals as goal

pub loop-b-preserved : goal.loop-b-preserved
loop-b-preserved c =
    let d = diagram_of c.args.tick.now.diagram.now in
    row-more (λ b. if has_memory d None b
    then row_memory d None c.args.tick.now.number c.args.tick.now.inputs.now c.args.tick.now.before.now.memories.items
    c.args.tick.now.before.now.triggers.items c.args.values.now b else [])
    c.loop-b.b c.loop-b.next.items _ _ c.loop-b.invariant c.in_ok-push.ensures.items c.in_ok-row_memory.ensures

pub returns-clause-fit : goal.returns-clause-fit
returns-clause-fit c =
    let d = diagram_of c.args.tick.now.diagram.now in
    let low = c.loop-b-test.false in
    let high = c.loop-b.auto.b-end in
    let all : c.loop-b.b ≡ length c.args.tick.now.diagram.now.tree.table.rows = omega (arith, c.row_count-b-end.ensures.count, low, high) in
    let made =
    c.loop-b.invariant
    ∙ ap (λ n.
    map (λ b. if has_memory d None b
    then row_memory d None c.args.tick.now.number c.args.tick.now.inputs.now c.args.tick.now.before.now.memories.items
    c.args.tick.now.before.now.triggers.items c.args.values.now b else []) (range_with_len 0 n)) all in
    subst (AreInTypes d) (sym made)
    (memories-fit c.args.tick.now.diagram.now c.row_count-b-end.ensures.resolved None c.args.tick.now.number c.args.tick.now.inputs.now
    c.args.tick.now.before.now.values.items c.args.tick.now.before.now.memories.items c.args.values.now
    c.args.tick.now.before.now.triggers.items c.requires.inputs c.requires.before c.requires.values.each)
