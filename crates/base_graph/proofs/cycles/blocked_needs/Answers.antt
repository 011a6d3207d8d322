use Rattle.std.proofs.Common.{ℕ, ◌+◌, ◌<◌, ◌≤◌, List, length, slice_index_or, ap, subst, sym, ◌∙◌, arith}
use Rattle.base_graph.specs.NeedsGraph.{IsGraph}
use Rattle.base_graph.proofs.PathSteps.{NeedsUpTo, needs_take, needs_skip, needs_done}
use Rattle.base_graph.proofs.cycles.blocked_needs.Goals as goal
use Rattle.base_graph.proofs.cycles.blocked_needs.Goals.{then-unmet-edge-gt0, else-unmet-edge-gt0}

pub loop-edge-preserved : goal.loop-edge-preserved
loop-edge-preserved c =
    let same = c.deref-edge-items.ensures.value ∙ ap (λ v. v.edges) c.g.view_is in
    let below : c.loop-edge.edge-index < length c.args.g.now.edges =
    let t = c.loop-edge-test.true in let l = ap length same in omega arith in
    let read = ap (λ (es : List (ℕ × ℕ)). slice_index_or es c.loop-edge.edge-index (0, 0)) same in
    elim c.if-unmet-edge-gt0.branch [
      | then-unmet-edge-gt0 w ↦ subst (λ v. NeedsUpTo c.args.g.now c.args.unmet.now v.items (c.loop-edge.edge-index + 1)) (sym w.needs-is)
          (needs_take c.args.g.now (subst IsGraph c.g.view_is c.g.invariant) c.args.unmet.now c.loop-edge.needs.items
          c.loop-edge.edge-index _ _ below
          (ap (λ (e : ℕ × ℕ). e.0) read) (ap (λ (e : ℕ × ℕ). e.1) read) w.if-unmet-edge-gt0.true c.loop-edge.invariant)
      | else-unmet-edge-gt0 w ↦ subst (λ v. NeedsUpTo c.args.g.now c.args.unmet.now v.items (c.loop-edge.edge-index + 1)) (sym w.needs-is)
          (needs_skip c.args.g.now c.args.unmet.now c.loop-edge.needs.items c.loop-edge.edge-index
          (subst (λ (e : ℕ × ℕ). slice_index_or c.args.unmet.now e.0 0 ≤ 0) read w.if-unmet-edge-gt0.false) c.loop-edge.invariant)
    ]

pub returns : goal.returns
returns c = needs_done c.args.g.now c.args.unmet.now c.loop-edge.needs.items c.loop-edge.edge-index
    (let t = c.loop-edge-test.false in
    let l = ap length (c.deref-edge-items.ensures.value ∙ ap (λ v. v.edges) c.g.view_is) in
    omega arith) c.requires.each c.loop-edge.invariant
