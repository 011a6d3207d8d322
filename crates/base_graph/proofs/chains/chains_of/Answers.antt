use Rattle.std.proofs.Common.{ℕ, List, length, slice_index_or, ap, subst, ◌∙◌, arith}
use Rattle.base_graph.specs.NeedsGraph.{IsGraph}
use Rattle.base_graph.proofs.ChainSteps.{chains_step}
use Rattle.base_graph.proofs.chains.chains_of.Goals as goal

pub loop-k-preserved : goal.loop-k-preserved
loop-k-preserved c =
    let same = c.deref-edge-items.ensures.value ∙ ap (λ v. v.edges) c.g.view_is in
    chains_step c.args.g.now c.loop-k.k _ c.index.result.now c.loop-k.last.items c.loop-k.before.items _
    (subst IsGraph c.g.view_is c.g.invariant) (let below = c.loop-k-test.true in let long = ap length same in
    omega arith) c.loop-k.invariant
    (ap (λ (es : List (ℕ × ℕ)). (slice_index_or es c.loop-k.k (0, 0)).0) same) c.index.ensures c.in_ok-push.ensures.items
