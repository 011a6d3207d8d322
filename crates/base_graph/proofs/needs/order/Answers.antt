use Rattle.std.proofs.Common.{◌≡◌, ◌<◌, get_or, ap, subst, sym}
use Rattle.base_graph.specs.NeedsGraph.{IsGraph}
use Rattle.base_graph.proofs.NoCycle.{order-has_no_cycle}
use Rattle.base_graph.proofs.needs.order.Goals as goal

pub returns-in-None-clause-no_cycle : goal.returns-in-None-clause-no_cycle
returns-in-None-clause-no_cycle c = order-has_no_cycle c.args.g.now c.in_ok-placed.placed.items (subst IsGraph c.g.view_is c.g.invariant)
    (c.in_ok-placed.ensures.is_order (λ b below. subst (λ xs. get_or xs b 0 ≡ 0) c.deref.ensures.value
    (c.in-None.ensures b (subst (λ n. b < n) (sym (ap (λ v. v.n) c.g.view_is)) below))))
