use Rattle.std.proofs.Common.{◌≡◌, ◌<◌, ap, ◌∙◌, length, arith, subst}
use Rattle.std.proofs.lemmas.List.{get_or_read}
use Rattle.std.proofs.lemmas.List.FromFn.{length-map-range_with_len}
use Rattle.diagram_blocks.specs.declared.Op.TheVariants.{Nothing}
use Rattle.diagram_meaning.specs.Diagram.{op_in, op_at}
use Rattle.diagram_meaning.specs.ResolvedTree.{ResolvedTree, IsResolvedTree, diagram_of}
use Rattle.diagram_same.proofs.reading.op_at.Goals as goal

-- one operation for each row
ops-len : (r : ResolvedTree) → IsResolvedTree r → length r.ops ≡ length r.tree.table.rows
ops-len r is = ap length is.resolved.are_ops
    ∙ length-map-range_with_len (op_in r.tree.table.rows r.types r.times.delays) 0 (length r.tree.table.rows)

pub index-requires : goal.index-requires
index-requires c =
    let same = ops-len c.args.r.now (subst IsResolvedTree c.r.view_is c.r.invariant) in
    let read : length c.r.inside.ops.items ≡ length c.args.r.now.ops = ap (λ (r : ResolvedTree). length r.ops) c.r.view_is in
    omega (arith, same, read, c.r.inside.ops.ok.0)

pub returns : goal.returns
returns c =
    let same = ops-len c.args.r.now (subst IsResolvedTree c.r.view_is c.r.invariant) in
    let read : length c.r.inside.ops.items ≡ length c.args.r.now.ops = ap (λ (r : ResolvedTree). length r.ops) c.r.view_is in
    let below : c.args.b < length c.r.inside.ops.items = omega (arith, same, read) in
    get_or_read c.r.inside.ops.items c.args.b c.index.result.now below c.index.ensures Nothing
    ∙ ap (λ (r : ResolvedTree). op_at (diagram_of r) c.args.b) c.r.view_is
