use Rattle.std.proofs.Common.{rules, ℕ, ◌<◌, All, Contains, ap, subst}
use Rattle.base_graph.specs.NeedsGraph.{IsGraph}
use Rattle.diagram_times.specs.Searching.{IsSpread}
use Rattle.diagram_times.proofs.SpreadSteps.{begin, finish, last-node}
use Rattle.diagram_times.proofs.search.spread_all.Goals as goal

pub loop-a-init : goal.loop-a-init
loop-a-init c =
    let all =
    subst (λ n. All (λ b. b < n) c.in_ok-waiting.waiting.items
    × ((a : ℕ) → a < n → Contains c.in_ok-waiting.waiting.items a))
    (ap (λ v. v.n) c.g.view_is) c.in_ok-waiting.ensures in
    begin c.args.g.now c.args.found.now c.in_ok-waiting.waiting.items (subst IsGraph c.g.view_is c.g.invariant) c.requires all.0 all.1

pub spread-requires-clause-node : goal.spread-requires-clause-node
spread-requires-clause-node c =
    last-node c.args.g.now c.args.found.now c.loop-a.found c.pop.new.self.items c.in-Some.a
    (subst (λ xs. IsSpread c.args.g.now c.args.found.now c.loop-a.found xs 0 0) c.in-Some.ensures.items c.loop-a.invariant)

pub loop-a-preserved : goal.loop-a-preserved
loop-a-preserved c =
    c.in_ok-spread.ensures.spread c.args.found.now
    (subst (λ xs. IsSpread c.args.g.now c.args.found.now c.loop-a.found xs 0 0) c.in-Some.ensures.items c.loop-a.invariant)

pub returns : goal.returns
returns c = finish c.args.g.now c.args.found.now c.loop-a.found c.loop-a.waiting.items c.loop-a.invariant (search rules)
