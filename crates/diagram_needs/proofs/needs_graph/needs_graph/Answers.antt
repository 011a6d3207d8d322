use Rattle.std.proofs.Common.{◌∙◌, length, ap, subst, arith}
use Rattle.diagram_meaning.specs.RowTable.{RowTable}
use Rattle.diagram_meaning.specs.ResolvedTree.{ResolvedTree, IsResolvedTree, diagram_of}
use Rattle.diagram_needs.proofs.GraphSteps.{edges-graph, edges-graph_of, graph-whole}
use Rattle.diagram_needs.proofs.needs_graph.needs_graph.Goals as goal

pub invariant_of-result : goal.invariant_of-result
invariant_of-result c =
    let rows_is = ap (λ (t : RowTable). t.rows) (c.behind-r.view_is ∙ c.table.ensures.table)
    ∙ ap (λ (v : ResolvedTree). v.tree.table.rows) c.r.view_is in
    let lr = ap length rows_is in
    let read = c.len-n.ensures in
    let ok = c.behind-r.inside.rows.ok.0 in
    let is = subst IsResolvedTree c.r.view_is c.r.invariant in
    edges-graph (diagram_of c.args.r.now) c.args.system is.tree.table.wired c.in_ok-edges.edges.items
    c.in_ok-edges.ensures c.len-n.result (omega (arith, lr, read, ok))

pub returns-clause-inside : goal.returns-clause-inside
returns-clause-inside c =
    let rows_is = ap (λ (t : RowTable). t.rows) (c.behind-r.view_is ∙ c.table.ensures.table)
    ∙ ap (λ (v : ResolvedTree). v.tree.table.rows) c.r.view_is in
    let lr = ap length rows_is in
    let read = c.len-n.ensures in
    let ok = c.behind-r.inside.rows.ok.0 in
    let is = subst IsResolvedTree c.r.view_is c.r.invariant in
    edges-graph_of (diagram_of c.args.r.now) c.args.system is.tree.table.wired c.in_ok-edges.edges.items
    c.in_ok-edges.ensures c.len-n.result (omega (arith, lr, read, ok))

pub returns-clause-whole : goal.returns-clause-whole
returns-clause-whole c none =
    let rows_is = ap (λ (t : RowTable). t.rows) (c.behind-r.view_is ∙ c.table.ensures.table)
    ∙ ap (λ (v : ResolvedTree). v.tree.table.rows) c.r.view_is in
    let lr = ap length rows_is in
    let read = c.len-n.ensures in
    let ok = c.behind-r.inside.rows.ok.0 in
    let is = subst IsResolvedTree c.r.view_is c.r.invariant in
    graph-whole (diagram_of c.args.r.now) c.args.system none is.tree.table.wired _
    (edges-graph_of (diagram_of c.args.r.now) c.args.system is.tree.table.wired c.in_ok-edges.edges.items
    c.in_ok-edges.ensures c.len-n.result (omega (arith, lr, read, ok)))
