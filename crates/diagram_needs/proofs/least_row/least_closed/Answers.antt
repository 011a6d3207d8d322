use Rattle.std.proofs.Common.{◌≡◌, ℕ, suc, ◌+◌, List, length, slice_index_or, Some, Option, ap, subst, sym, ◌∙◌, arith, true≢false}
use Rattle.base_graph.specs.EdgeChains.{from, to}
use Rattle.base_graph.specs.NeedsGraph.{IsGraph}
use Rattle.diagram_needs.specs.Least.{IsLeastOf}
use Rattle.diagram_needs.proofs.LeastSteps.{IsAmong}
use Rattle.diagram_needs.proofs.BlockSteps.{Closes, block_take, block_pass, block_done}
use Rattle.diagram_needs.proofs.least_row.least_closed.Goals as goal
use Rattle.diagram_needs.proofs.least_row.least_closed.Goals.{then-has_bit_of, else-has_bit_of}

pub loop-edge-preserved : goal.loop-edge-preserved
loop-edge-preserved c =
    let same = c.deref-edge-items.ensures.value ∙ ap (λ v. v.edges) c.g.view_is in
    let edge : ℕ × ℕ = slice_index_or c.deref-edge-items.result.now c.loop-edge.edge-index (0, 0) in
    let from_is : edge.0 ≡ from c.args.g.now.edges c.loop-edge.edge-index =
    ap (λ (es : List (ℕ × ℕ)). (slice_index_or es c.loop-edge.edge-index (0, 0)).0) same in
    let to_is : edge.1 ≡ to c.args.g.now.edges c.loop-edge.edge-index =
    ap (λ (es : List (ℕ × ℕ)). (slice_index_or es c.loop-edge.edge-index (0, 0)).1) same in
    let next : c.loop-edge.edge-index + 1 ≡ suc c.loop-edge.edge-index = omega arith in
    let is_graph = subst IsGraph c.g.view_is c.g.invariant in
    let Least : Option ℕ → Type 0 =
    IsLeastOf (IsAmong (Closes c.args.g.now c.args.first c.args.reached.now) (to c.args.g.now.edges)
    (c.loop-edge.edge-index + 1)) in
    elim c.if-has_bit_of.branch [
      | then-has_bit_of w ↦ subst Least (sym (w.least-is ∙ ap Some w.lesser.ensures))
          (block_take c.args.g.now is_graph c.args.first c.args.reached.now c.loop-edge.edge-index
          (c.loop-edge.edge-index + 1) edge.0 edge.1 next from_is to_is c.loop-edge.least
          (c.has_bit_of.ensures.0 w.if-has_bit_of.true) c.loop-edge.invariant)
      | else-has_bit_of w ↦ subst Least (sym w.least-is)
          (block_pass c.args.g.now is_graph c.args.first c.args.reached.now c.loop-edge.edge-index
          (c.loop-edge.edge-index + 1) edge.0 edge.1 next from_is to_is c.loop-edge.least
          (λ p. true≢false (sym (c.has_bit_of.ensures.1 p) ∙ w.if-has_bit_of.false)) c.loop-edge.invariant)
    ]

pub returns : goal.returns
returns c =
    let low = c.loop-edge-test.false in let high = c.loop-edge.auto.edge-index-end in
    let l = ap length (c.deref-edge-items.ensures.value ∙ ap (λ v. v.edges) c.g.view_is) in
    let all : c.loop-edge.edge-index ≡ length c.args.g.now.edges = omega arith in
    block_done c.args.g.now (subst IsGraph c.g.view_is c.g.invariant) c.args.first c.args.bits.now c.args.reached.now
    c.requires.own c.requires.masks c.loop-edge.edge-index c.loop-edge.least all c.loop-edge.invariant
