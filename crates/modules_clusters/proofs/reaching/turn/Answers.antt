use Rattle.std.proofs.Common.{◌≡◌, ℕ, ◌<◌, map, subst, sym, ap, ◌∙◌}
use Rattle.std.specs.List.{AllByRecursion}
use Rattle.std.proofs.lemmas.List.{take_all}
use Rattle.modules_clusters.proofs.ClusterSteps.{turned-inside}
use Rattle.modules_clusters.proofs.reaching.turn.Goals as goal

all-turned : (c : goal.After-loop-a) → c.loop-a.edges.items ≡ map (λ (edge : ℕ × ℕ). (edge.1, edge.0)) c.g.inside.edges.items
all-turned c =
    c.loop-a.invariant
    ∙ ap (map (λ (edge : ℕ × ℕ). (edge.1, edge.0)))
    (take_all c.loop-a.a-index c.deref-a-items.result.now c.loop-a-test.false ∙ c.deref-a-items.ensures.value)

pub invariant_of-result : goal.invariant_of-result
invariant_of-result c =
    subst (AllByRecursion (λ (edge : ℕ × ℕ). (edge.0 < c.g.inside.n) × (edge.1 < c.g.inside.n))) (sym (all-turned c))
    (turned-inside c.g.inside.n c.g.inside.edges.items c.g.invariant)
