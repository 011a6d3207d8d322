use Rattle.std.proofs.Common.{◌≡◌, ℕ, ◌-◌, ◌<◌, Bool, List, get_or, ap, subst, ◌∙◌, arith, length}
use Rattle.std.proofs.lemmas.List.{get_or_default}
use Rattle.base_graph.specs.NeedsGraph.{IsGraph}
use Rattle.base_graph.specs.EdgeChains.{to}
use Rattle.diagram_times.specs.Searching.{TakesUp}
use Rattle.diagram_times.proofs.SpreadSteps.{spread_same, spread_wider, all_done}
use Rattle.diagram_times.proofs.search.spread.Goals as goal
use Rattle.diagram_times.proofs.search.spread.Goals.{then-take_up+in_ok-push, else-take_up}

pub loop-place-preserved : goal.loop-place-preserved
loop-place-preserved c =
    let edge : ℕ × ℕ = c.index.result.now in
    let below : c.loop-place.place - 1 < length c.args.g.now.edges =
    let b = c.loop-place.invariant.below in let p = c.loop-place-test.true in omega arith in
    let goes : edge.1 ≡ to c.args.g.now.edges (c.loop-place.place - 1) =
    ap (λ (e : ℕ × ℕ). e.1) (c.index.ensures
    ∙ ap (λ (es : List (ℕ × ℕ)). get_or es (c.loop-place.place - 1) edge) (ap (λ v. v.edges) c.g.view_is)
    ∙ get_or_default c.args.g.now.edges (c.loop-place.place - 1) edge (0, 0) below) in
    let takes : Bool → Type 0 = TakesUp c.loop-place.found c.take_up.new.found c.args.a edge.1 in
    elim c.if-take_up.branch [
      | then-take_up+in_ok-push w ↦
          spread_wider c.args.g.now (subst IsGraph c.g.view_is c.g.invariant) c.args.chains.now.last.items
          c.args.chains.now.before.items c.requires.chained
          c.args.a edge.1 c.loop-place.place c.index-place-in-loop-place.result.now c.args.found.now
          c.args.waiting.now.items c.loop-place.found c.take_up.new.found
          c.loop-place.waiting.items c.if-take_up.waiting.items c.requires.node (c.loop-place.auto.found
          ∙ c.requires.len) c.loop-place-test.true goes
          c.index-place-in-loop-place.ensures c.loop-place.invariant (subst takes w.if-take_up.true c.take_up.ensures)
          (ap (λ v. v.items) w.waiting-is ∙ w.in_ok-push.ensures.items)
      | else-take_up w ↦
          spread_same c.args.g.now (subst IsGraph c.g.view_is c.g.invariant) c.args.chains.now.last.items
          c.args.chains.now.before.items c.requires.chained
          c.args.a edge.1 c.loop-place.place c.index-place-in-loop-place.result.now c.args.found.now
          c.args.waiting.now.items c.loop-place.found c.take_up.new.found
          c.loop-place.waiting.items c.if-take_up.waiting.items c.requires.node (c.loop-place.auto.found
          ∙ c.requires.len) c.loop-place-test.true goes
          c.index-place-in-loop-place.ensures c.loop-place.invariant (subst takes w.if-take_up.false c.take_up.ensures)
          (ap (λ v. v.items) w.waiting-is)
    ]

pub returns-clause-spread : goal.returns-clause-spread
returns-clause-spread c given s =
    all_done c.args.g.now given c.loop-place.found c.loop-place.waiting.items c.args.a c.loop-place.place
    c.loop-place-test.false (c.loop-place.invariant.spread given s)
