use Rattle.std.proofs.Common.{◌≡◌, ℕ, ◌-◌, ◌<◌, List, length, get_or, ap, subst, ◌∙◌, inl, inr, arith}
use Rattle.std.proofs.lemmas.List.{get_or_default}
use Rattle.base_graph.specs.NeedsGraph.{IsGraph}
use Rattle.base_graph.specs.EdgeChains.{to}
use Rattle.diagram_needs.proofs.NumberSteps.{Gets, number_begins, number_goes_on, number_ends}
use Rattle.diagram_needs.proofs.levels.number.Goals as goal
use Rattle.diagram_needs.proofs.levels.number.Goals.{then-steps-b-eq0+in_ok-push, else-steps-b-eq0}

pub loop-place-init : goal.loop-place-init
loop-place-init c =
    number_begins c.args.g.now c.args.chains.now.last.items c.args.chains.now.before.items c.requires.chained c.args.a
    c.args.count c.index-place.result.now
    c.args.steps.now c.args.next.now.items c.requires.row c.index-place.ensures

pub loop-place-preserved : goal.loop-place-preserved
loop-place-preserved c =
    let edge : ℕ × ℕ = c.index.result.now in
    let below : c.loop-place.place - 1 < length c.args.g.now.edges =
    let b = c.loop-place.invariant.below in let p = c.loop-place-test.true in omega arith in
    let goes : edge.1 ≡ to c.args.g.now.edges (c.loop-place.place - 1) =
    ap (λ (e : ℕ × ℕ). e.1) (c.index.ensures
    ∙ ap (λ (es : List (ℕ × ℕ)). get_or es (c.loop-place.place - 1) edge) (ap (λ v. v.edges) c.g.view_is)
    ∙ get_or_default c.args.g.now.edges (c.loop-place.place - 1) edge (0, 0) below) in
    let gets : Gets c.args.count c.loop-place.steps c.loop-place.next.items c.if-steps-b-eq0.steps
    c.if-steps-b-eq0.next.items edge.1 = elim c.if-steps-b-eq0.branch [
      | then-steps-b-eq0+in_ok-push w ↦ inl (w.if-steps-b-eq0.true, w.steps-is, ap (λ v. v.items) w.next-is ∙ w.in_ok-push.ensures.items)
      | else-steps-b-eq0 w ↦ inr (omega (arith, w.if-steps-b-eq0.false), w.steps-is, ap (λ v. v.items) w.next-is)
    ] in
    number_goes_on c.args.g.now c.args.chains.now.last.items c.args.chains.now.before.items c.requires.chained c.args.a c.args.count
    (subst IsGraph c.g.view_is c.g.invariant) c.requires.count c.loop-place.place c.index-place-in-loop-place.result.now
    edge.1 c.args.steps.now c.args.next.now.items
    c.loop-place.steps c.loop-place.next.items c.if-steps-b-eq0.steps c.if-steps-b-eq0.next.items
    (c.loop-place.auto.steps ∙ c.requires.len) c.loop-place-test.true goes c.index-place-in-loop-place.ensures c.loop-place.invariant gets

pub returns : goal.returns
returns c =
    number_ends c.args.g.now c.args.chains.now.last.items c.args.chains.now.before.items c.requires.chained c.args.a
    c.args.count c.loop-place.place
    c.args.steps.now c.args.next.now.items c.loop-place.steps c.loop-place.next.items c.loop-place-test.false c.loop-place.invariant
