use Rattle.std.proofs.Common.{◌∙◌, ◌<◌, List, length, slice_index_or, ap, subst, arith}
use Rattle.std.proofs.lemmas.List.{get_or_default}
use Rattle.diagram_blocks.specs.declared.Op.{Op}
use Rattle.diagram_blocks.specs.declared.Op.TheVariants.{Nothing}
use Rattle.diagram_meaning.specs.ResolvedTree.{ResolvedTree, IsResolvedTree}
use Rattle.test_solver.proofs.Resolved.{ops-len}
use Rattle.test_solver.proofs.reading.op.Goals as goal

pub index-requires : goal.index-requires
index-requires c =
    let ops = ap (λ (v : ResolvedTree). length v.ops) c.r.view_is in
    let same = ops-len c.args.r.now (subst IsResolvedTree c.r.view_is c.r.invariant) in
    omega (arith, ops, same, c.requires)

pub returns-clause-op : goal.returns-clause-op
returns-clause-op c =
    let ops = ap (λ (v : ResolvedTree). v.ops) c.r.view_is in
    let same = ops-len c.args.r.now (subst IsResolvedTree c.r.view_is c.r.invariant) in
    let inside : c.args.b < length c.r.inside.ops.items = omega (arith, ap (λ (l : List Op). length l) ops, same, c.requires) in
    c.index.ensures ∙ get_or_default c.r.inside.ops.items c.args.b c.index.result.now Nothing inside
    ∙ ap (λ (l : List Op). slice_index_or l c.args.b Nothing) ops
