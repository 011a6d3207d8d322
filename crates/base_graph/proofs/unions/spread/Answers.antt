use Rattle.std.proofs.Common.{◌≡◌, ℕ, ◌-◌, ◌<◌, List, bit_or, get_or, ap, subst, sym, ◌∙◌, inl, inr, arith, true≢false, length}
use Rattle.std.proofs.lemmas.Bool.{cases_eq}
use Rattle.std.proofs.lemmas.List.{get_or_default}
use Rattle.base_graph.specs.NeedsGraph.{IsGraph}
use Rattle.base_graph.specs.Spread.{IsSpread}
use Rattle.base_graph.proofs.SpreadSteps.{SpreadLoop, spread_step, WaitsIfGrown, all_done}
use Rattle.base_graph.proofs.unions.spread.Goals as goal
use Rattle.base_graph.proofs.unions.spread.Goals.{then-absorb+in_ok-push, else-absorb}

pub loop-at-preserved : goal.loop-at-preserved
loop-at-preserved c =
    let edge : ℕ × ℕ = c.index.result.now in
    let same = ap (λ v. v.edges) c.g.view_is in
    let below : c.loop-at.at - 1 < length c.args.g.now.edges =
    let b = c.loop-at.invariant.below in let p = c.loop-at-test.true in omega arith in
    let read : edge ≡ get_or c.args.g.now.edges (c.loop-at.at - 1) (0, 0) =
    c.index.ensures ∙ ap (λ (es : List (ℕ × ℕ)). get_or es (c.loop-at.at - 1) edge) same
    ∙ get_or_default c.args.g.now.edges (c.loop-at.at - 1) edge (0, 0) below in
    let waits : WaitsIfGrown c.loop-at.masks c.loop-at.waiting.items c.if-absorb.waiting.items c.args.a edge.1 = elim c.if-absorb.branch [
      | then-absorb+in_ok-push w ↦
          inl (ap (λ v. v.items) w.waiting-is ∙ w.in_ok-push.ensures.items, c.absorb.ensures.grew.0 w.if-absorb.true)
      | else-absorb w ↦ inr (
        ap (λ v. v.items) w.waiting-is,
        elim (cases_eq (bit_or (get_or c.loop-at.masks edge.1 0) (get_or c.loop-at.masks c.args.a 0)) (get_or c.loop-at.masks edge.1 0)) [
          | inl full ↦ full
          | inr grew ↦ absurd (true≢false (sym (c.absorb.ensures.grew.1 grew) ∙ w.if-absorb.false))
        ],
      )
    ] in
    subst (λ xs. SpreadLoop c.args.g.now c.args.a c.index-at-in-loop-at.result.now c.args.masks.now
    c.args.waiting.now.items xs c.if-absorb.waiting.items) (sym c.absorb.ensures.after)
    (spread_step c.args.g.now (subst IsGraph c.g.view_is c.g.invariant) c.args.chains.now.last.items
    c.args.chains.now.before.items c.requires.chained c.args.a edge.1 c.loop-at.at c.index-at-in-loop-at.result.now
    c.args.masks.now c.args.waiting.now.items c.loop-at.masks c.loop-at.waiting.items c.if-absorb.waiting.items
    c.requires.node (c.loop-at.auto.masks ∙ c.requires.len) c.loop-at-test.true
    (ap (λ (e : ℕ × ℕ). e.1) read) c.index-at-in-loop-at.ensures c.loop-at.invariant waits)

pub returns-clause-spread : goal.returns-clause-spread
returns-clause-spread c source s = subst-at (c.loop-at.invariant.spread source s)
  where
    subst-at : IsSpread c.args.g.now source c.loop-at.masks c.loop-at.waiting.items c.args.a c.loop-at.at →
        IsSpread c.args.g.now source c.loop-at.masks c.loop-at.waiting.items 0 0
    subst-at h = all_done c.args.g.now source c.loop-at.masks c.loop-at.waiting.items c.args.a c.loop-at.at c.loop-at-test.false h
