use Rattle.std.proofs.Common.{◌≡◌, ℕ, suc, ◌+◌, ◌<◌, List, length, get_or, Option, ap, subst, sym, ◌∙◌, arith, true≢false}
use Rattle.base_graph.specs.EdgeChains.{from, to}
use Rattle.base_graph.specs.NeedsGraph.{IsGraph}
use Rattle.diagram_needs.proofs.BlockSteps.{edge-inside}
use Rattle.diagram_needs.proofs.LevelSteps.{edge-at}
use Rattle.diagram_needs.proofs.LeastPathSteps.{NextLoop, next_begins, next_take, next_pass, next_ends}
use Rattle.diagram_needs.proofs.least_loop.find_next.Goals as goal
use Rattle.diagram_needs.proofs.least_loop.find_next.Goals.{then-is_nearer, else-is_nearer}

pub loop-edge-init : goal.loop-edge-init
loop-edge-init c = next_begins c.args.g.now.edges c.args.steps.now c.args.g.now.n c.args.next.now c.requires.none c.requires.len

pub loop-edge-preserved : goal.loop-edge-preserved
loop-edge-preserved c =
    let edges = c.args.g.now.edges in
    let i = c.loop-edge.edge-index in
    let same = c.deref-edge-items.ensures.value ∙ ap (λ v. v.edges) c.g.view_is in
    let edge : ℕ × ℕ = get_or c.deref-edge-items.result.now i (0, 0) in
    let from_is : edge.0 ≡ from edges i = ap (λ (es : List (ℕ × ℕ)). (get_or es i (0, 0)).0) same in
    let to_is : edge.1 ≡ to edges i = ap (λ (es : List (ℕ × ℕ)). (get_or es i (0, 0)).1) same in
    let more : i + 1 ≡ suc i = omega arith in
    let inside : i < length edges = let t = c.loop-edge-test.true in let l = ap length same in omega arith in
    let below =
    (edge-inside c.args.g.now.n edges (subst IsGraph c.g.view_is c.g.invariant) (from edges i) (to edges i)
    (edge-at edges i inside)).1 in
    let in_list : edge.1 < length c.args.steps.now = let n = c.requires.len in omega arith in
    elim c.if-is_nearer.branch [
      | then-is_nearer w ↦
          next_take edges c.args.steps.now i (i + 1) edge.0 edge.1 more from_is to_is c.loop-edge.next c.loop-edge.invariant in_list
          (c.is_nearer.ensures.0 w.if-is_nearer.true) c.if-is_nearer.next (w.next-is ∙ w.keep_lesser.ensures)
      | else-is_nearer w ↦
          subst (λ (xs : List (Option ℕ)). NextLoop edges c.args.steps.now xs (i + 1)) (sym w.next-is)
          (next_pass edges c.args.steps.now i (i + 1) edge.0 edge.1 more from_is to_is c.loop-edge.next c.loop-edge.invariant
          (λ p. true≢false (sym (c.is_nearer.ensures.1 p) ∙ w.if-is_nearer.false)))
    ]

pub returns : goal.returns
returns c =
    let low = c.loop-edge-test.false in let high = c.loop-edge.auto.edge-index-end in
    let l = ap length (c.deref-edge-items.ensures.value ∙ ap (λ v. v.edges) c.g.view_is) in
    let all : c.loop-edge.edge-index ≡ length c.args.g.now.edges = omega arith in
    next_ends c.args.g.now c.args.steps.now c.loop-edge.edge-index c.loop-edge.next all c.loop-edge.invariant
