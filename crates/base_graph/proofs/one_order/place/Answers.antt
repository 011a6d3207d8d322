use Rattle.std.proofs.Common.{◌≡◌, ℕ, ◌<◌, ◌↔◌, Contains, get_or, ap, subst, sym}
use Rattle.base_graph.specs.NeedsGraph.{IsGraph}
use Rattle.base_graph.specs.Placing.{IsPlacing}
use Rattle.base_graph.proofs.PlaceSteps.{place_begins, place_step, place_ends, node-ready, enough}
use Rattle.base_graph.proofs.one_order.place.Goals as goal

pub loop-x-init : goal.loop-x-init
loop-x-init c = subst (λ xs. IsPlacing c.args.g.now xs c.args.unmet.now.items c.in_ok-ready.ready.keys) (sym c.new-placed.ensures.items)
    (place_begins c.args.g.now c.args.unmet.now.items c.in_ok-ready.ready.keys c.requires
    (subst (λ n. (b : ℕ) → Contains c.in_ok-ready.ready.keys b ↔ ((b < n) × (get_or c.args.unmet.now.items b 0 ≡ 0)))
    (ap (λ v. v.n) c.g.view_is)
    (subst (λ xs. (b : ℕ) → Contains c.in_ok-ready.ready.keys b ↔ ((b < c.g.inside.n) × (get_or xs b 0 ≡ 0)))
    c.deref.ensures.value c.in_ok-ready.ensures)))

pub release-requires-clause-node : goal.release-requires-clause-node
release-requires-clause-node c =
    node-ready c.args.g.now (subst IsGraph c.g.view_is c.g.invariant) c.loop-x.placed.items c.loop-x.unmet.items
    c.loop-x.ready.keys c.loop-x.invariant c.in-Some.x _ c.in-Some.ensures.0 c.in-Some.ensures.1

pub release-requires-clause-counted : goal.release-requires-clause-counted
release-requires-clause-counted c =
    enough c.args.g.now (subst IsGraph c.g.view_is c.g.invariant) c.loop-x.placed.items c.loop-x.unmet.items
    c.loop-x.ready.keys c.loop-x.invariant c.in-Some.x _ c.in-Some.ensures.0 c.in-Some.ensures.1

pub loop-x-preserved : goal.loop-x-preserved
loop-x-preserved c =
    subst (λ xs. IsPlacing c.args.g.now xs c.release.new.unmet.items c.release.new.ready.keys)
    (sym c.in_ok-push.ensures.items)
    (place_step c.args.g.now (subst IsGraph c.g.view_is c.g.invariant) c.loop-x.placed.items c.loop-x.unmet.items
    c.loop-x.ready.keys c.loop-x.invariant c.in-Some.x _ c.in-Some.ensures.0 c.in-Some.ensures.1
    c.release.new.unmet.items c.release.new.ready.keys c.in_ok-release.ensures.len c.in_ok-release.ensures.unmet
    c.in_ok-release.ensures.ready)

pub returns : goal.returns
returns c =
    place_ends c.args.g.now (subst IsGraph c.g.view_is c.g.invariant) c.loop-x.placed.items c.loop-x.unmet.items
    c.loop-x.ready.keys c.loop-x.invariant c.in_default.ensures
