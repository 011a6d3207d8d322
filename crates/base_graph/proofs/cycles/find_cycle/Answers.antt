use Rattle.std.proofs.Common.{rules, ◌≡◌, ◌+◌, ◌-◌, length, set, drop, ap, subst, sym, ◌∙◌, Result, Ok, Err, IfOk}
use Rattle.base_graph.specs.Reaching.{IsCycle}
use Rattle.base_graph.proofs.PathSteps.{PathLoop, path_step, path_done, path_new, place_above}
use Rattle.base_graph.proofs.cycles.find_cycle.Goals as goal

pub loop-path-preserved : goal.loop-path-preserved
loop-path-preserved c =
    let long : c.len.result ≡ length c.loop-path.path.items + 1 = search rules in
    subst (λ m. PathLoop c.args.g.now c.args.unmet.now (set c.loop-path.places.items c.loop-path.at m)
    c.push.new.self.items c.index-at.result.now) (sym long)
    (subst (λ xs. PathLoop c.args.g.now c.args.unmet.now
    (set c.loop-path.places.items c.loop-path.at (length c.loop-path.path.items + 1)) xs c.index-at.result.now)
    (sym c.in_ok-push.ensures.items)
    (path_step c.args.g.now c.args.unmet.now c.in_ok-needs.needs.items c.loop-path.places.items c.loop-path.path.items
    c.loop-path.at c.index-at.result.now c.in_ok-needs.ensures
    (path_new c.loop-path.places.items c.loop-path.at c.index.result.now c.index.ensures c.loop-path-test.true)
    c.index-at.ensures c.loop-path.invariant))

on-ok : {V E : Type 0} (P Q : V → Type 0) → ((v : V) → P v → Q v) → (r : Result V E) → IfOk r P → IfOk r Q
on-ok P Q f (Ok v) h = f v h
on-ok P Q f (Err e) h = h

pub returns : goal.returns
returns c =
    let above =
    place_above c.args.g.now c.args.unmet.now c.loop-path.places.items c.loop-path.path.items c.loop-path.at
    c.index.result.now c.index.ensures c.loop-path-test.false c.loop-path.invariant in
    let cycle =
    path_done c.args.g.now c.args.unmet.now c.loop-path.places.items c.loop-path.path.items c.loop-path.at
    c.index-place.result.now c.index-place.ensures above c.loop-path.invariant in
    on-ok (λ v. v.items ≡ drop (c.index-place.result.now - 1) c.deref.result.now) (λ v. IsCycle c.args.g.now v.items)
    (λ v same. subst (λ xs. IsCycle c.args.g.now xs)
    (sym (same ∙ ap (λ xs. drop (c.index-place.result.now - 1) xs) c.deref.ensures.value)) cycle)
    c.from_place.result c.from_place.ensures
