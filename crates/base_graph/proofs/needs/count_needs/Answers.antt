use Rattle.std.proofs.Common.{ℕ, List, length, slice_index_or, ap, subst, ◌∙◌, arith}
use Rattle.base_graph.specs.NeedsGraph.{IsGraph}
use Rattle.base_graph.proofs.Counts.{counts_step}
use Rattle.base_graph.proofs.needs.count_needs.Goals as goal

pub loop-edge-preserved : goal.loop-edge-preserved
loop-edge-preserved c =
    let same = c.deref-edge-items.ensures.value ∙ ap (λ v. v.edges) c.g.view_is in
    counts_step c.args.g.now (subst IsGraph c.g.view_is c.g.invariant) c.loop-edge.edge-index _ c.index_mut.result.now
    c.loop-edge.unmet.items
    (let t = c.loop-edge-test.true in let l = ap length same in omega arith)
    (ap (λ (es : List (ℕ × ℕ)). (slice_index_or es c.loop-edge.edge-index (0, 0)).1) same) c.index_mut.ensures.value c.loop-edge.invariant
