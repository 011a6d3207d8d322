use Rattle.std.proofs.Common.{ℕ, ◌<◌, List, length, get_or, subst, refl}
use Rattle.std.proofs.lemmas.List.Elements.{recursion_from_All, All-from_get_or}
use Rattle.test_diagram.proofs.tests.graph_of.Goals as goal

pub invariant_of-result : goal.invariant_of-result
invariant_of-result c = recursion_from_All (λ (edge : ℕ × ℕ). (edge.0 < c.args.n) × (edge.1 < c.args.n)) c.args.edges.items
    (All-from_get_or (λ (edge : ℕ × ℕ). (edge.0 < c.args.n) × (edge.1 < c.args.n)) c.args.edges.items (0, 0)
    (subst (λ (xs : List (ℕ × ℕ)). (k : ℕ) → k < length xs →
    ((get_or xs k (0, 0)).0 < c.args.n) × ((get_or xs k (0, 0)).1 < c.args.n)) c.deref.ensures.value
    (c.if-are_inside.ensures refl)))
