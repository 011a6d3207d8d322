-- The order of a graph of three nodes, and a cycle of two.
use Rattle.std.specs.Prelude.{◌≡◌, ℕ, zero, suc, ◌<◌, ◌≤◌, [], ◌∷◌, Contains, refl}
use Rattle.std.proofs.Common.{sym, ap, subst, arith, lit<}
use Rattle.base_graph.specs.NeedsGraph.{NeedsGraph, Needs}
use Rattle.base_graph.specs.Reaching.{IsCycle}
use Rattle.base_graph.specs.OneOrder.{MayStand, IsNext, IsOrder}

-- node 0 needs node 2
abbrev needing : NeedsGraph
needing = record { n = 3; edges = (2, 0) ∷ [] }

-- nothing is needed but node 2, and that by node 0
one-need : (b a : ℕ) → Needs needing b a → (a ≡ 2) × (b ≡ 0)
one-need b a (zero, below, same) = (sym (ap (λ (e : ℕ × ℕ). e.0) same), sym (ap (λ (e : ℕ × ℕ). e.1) same))
one-need b a (suc k, below, same) = absurd (omega arith)

none-in : (x : ℕ) → Contains [] x → ⊥
none-in x (k, below, same) = omega arith

only-one : (x : ℕ) → Contains (1 ∷ []) x → x ≡ 1
only-one x (zero, below, same) = sym same
only-one x (suc k, below, same) = absurd (omega arith)

first : IsNext needing [] 1
first = record {
  may_stand = record { is_node = lit< tt; is_new = none-in 1; needs_placed = λ a h. absurd (let e = (one-need 1 a h).1 in omega arith) };
  is_least = least;
}
  where
    least : (c : ℕ) → MayStand needing [] c → 1 ≤ c
    least zero may = absurd (none-in 2 (may.needs_placed 2 (0, lit< tt, refl)))
    least (suc c) may = omega arith

second : IsNext needing (1 ∷ []) 2
second = record {
  may_stand =
      record {
        is_node = lit< tt;
        is_new = λ h. (let e = only-one 2 h in omega arith);
        needs_placed = λ a h. absurd (let e = (one-need 2 a h).1 in omega arith);
      };
  is_least = least;
}
  where
    least : (c : ℕ) → MayStand needing (1 ∷ []) c → 2 ≤ c
    least zero may = absurd (let e = only-one 2 (may.needs_placed 2 (0, lit< tt, refl)) in omega arith)
    least (suc zero) may = absurd (may.is_new (0, lit< tt, refl))
    least (suc (suc c)) may = omega arith

third : IsNext needing (1 ∷ 2 ∷ []) 0
third = record {
  may_stand =
      record {
        is_node = lit< tt;
        is_new = new;
        needs_placed = λ a h. subst (λ x. Contains {X = ℕ} (1 ∷ 2 ∷ []) x) (sym (one-need 0 a h).0) (1, lit< tt, refl);
      };
  is_least = λ c may. omega arith;
}
  where
    new : Contains {X = ℕ} (1 ∷ 2 ∷ []) 0 → ⊥
    new (zero, below, same) = omega (arith, same)
    new (suc zero, below, same) = omega (arith, same)
    new (suc (suc k), below, same) = omega arith

-- node 1 is the least that may be first, and node 0 is after node 2
pub order_of_three : IsOrder needing (1 ∷ 2 ∷ 0 ∷ [])
order_of_three = record { has_all = all; is_least_first = (first, (second, (third, tt))) }
  where
    all : (b : ℕ) → b < 3 → Contains (1 ∷ 2 ∷ 0 ∷ []) b
    all zero below = (2, lit< tt, refl)
    all (suc zero) below = (0, lit< tt, refl)
    all (suc (suc zero)) below = (1, lit< tt, refl)
    all (suc (suc (suc b))) below = absurd (omega arith)

-- two nodes that need each other
abbrev circular : NeedsGraph
circular = record { n = 2; edges = (0, 1) ∷ (1, 0) ∷ [] }

pub cycle_of_two : IsCycle circular (0 ∷ 1 ∷ [])
cycle_of_two = ((1, lit< tt, refl), (0, lit< tt, refl))
