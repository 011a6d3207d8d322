-- Where a graph has an order, it has no cycle.
use Rattle.std.proofs.Common.{ℕ, zero, suc, ◌<◌, List, [], ◌∷◌, ◌++◌, Contains, All, refl, sym, subst, arith, inl, inr, append_assoc, append-nil}
use Rattle.std.proofs.lemmas.List.Elements.{Contains-push_cases, All-contains, All-tail, All-contains_itself, All-from_recursion}
use Rattle.base_graph.specs.NeedsGraph.{NeedsGraph, IsGraph, Needs}
use Rattle.base_graph.specs.Reaching.{Walk, HasNoCycle}
use Rattle.base_graph.specs.OneOrder.{Follows, IsOrder}

pub needs-inside : (g : NeedsGraph) (b a : ℕ) → IsGraph g → Needs g b a → (a < g.n) × (b < g.n)
needs-inside g b a inside needs =
    All-contains (λ (e : ℕ × ℕ). (e.0 < g.n) × (e.1 < g.n)) g.edges (a, b)
    (All-from_recursion (λ (e : ℕ × ℕ). (e.0 < g.n) × (e.1 < g.n)) g.edges inside) needs

-- each of a set of nodes needs one of them
abbrev pub NeedsItself : NeedsGraph → (ℕ → Type 0) → Type 0
NeedsItself g among = (b : ℕ) → among b → (a : ℕ) × among a × Needs g b a

-- where each of a set of nodes needs one of them, an order places none of them
pub avoids : (g : NeedsGraph) (among : ℕ → Type 0) → NeedsItself g among → (placed list : List ℕ) → Follows g placed list →
    ((b : ℕ) → among b → Contains placed b → ⊥) → (b : ℕ) → among b → Contains (placed ++ list) b → ⊥
avoids g among closed placed [] f none b h c = none b h (subst (λ xs. Contains xs b) (append-nil placed) c)
avoids g among closed placed (x ∷ list) f none b h c = avoids g among closed (placed ++ x ∷ []) list f.1 more b h (rw append_assoc c)
  where
    more : (d : ℕ) → among d → Contains (placed ++ x ∷ []) d → ⊥
    more d m k = elim (Contains-push_cases placed x d k) [
      | inl old ↦ none d m old
      | inr here ↦ let n = closed d m in none n.0 n.1 (f.0.may_stand.needs_placed n.0 (subst (λ y. Needs g y n.0) (sym here) n.2))
    ]

-- a walk goes by nodes each of which needs the next, and the last one the end
pub on-walk : (g : NeedsGraph) (b : ℕ) (path : List ℕ) (a : ℕ) → Walk g b path a → (among : ℕ → Type 0) → among a → All among (b ∷ path) →
    (c : ℕ) → Contains (b ∷ path) c → (d : ℕ) × among d × Needs g c d
on-walk g b [] a w among last all c (zero, below, here) = (a, last, subst (λ x. Needs g x a) here w)
on-walk g b [] a w among last all c (suc k, below, here) = absurd (omega arith)
on-walk g b (p ∷ path) a w among last all c (zero, below, here) = (p, all 1 0 (omega arith), subst (λ x. Needs g x p) here w.0)
on-walk g b (p ∷ path) a w among last all c (suc k, below, here) =
    on-walk g p path a w.1 among last (All-tail among b (p ∷ path) all) c (k, omega arith, here)

pub order-has_no_cycle : (g : NeedsGraph) (list : List ℕ) → IsGraph g → IsOrder g list → HasNoCycle g
order-has_no_cycle g list inside order [] h = h
order-has_no_cycle g list inside order (a ∷ path) walk =
    avoids g (Contains (a ∷ path))
    (on-walk g a path a walk (Contains (a ∷ path)) first (All-contains_itself (a ∷ path)))
    [] list order.is_least_first (λ b m k. Contains-nil b k) a first
    (order.has_all a
    (needs-inside g a _ inside
    (on-walk g a path a walk (Contains (a ∷ path)) first (All-contains_itself (a ∷ path)) a first).2).1)
  where
    first : Contains (a ∷ path) a
    first = (0, omega arith, refl)

    Contains-nil : (b : ℕ) → Contains [] b → ⊥
    Contains-nil b (k, below, here) = omega arith
