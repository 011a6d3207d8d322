-- A graph without a cycle has an order.
use Rattle.std.specs.Prelude.{◌≡◌, ◌⊎◌, ℕ, zero, suc, ◌+◌, ◌<◌, ◌≤◌, Bool, true, false, eqb, ◌||◌, List, [], ◌∷◌, ◌++◌, length, Contains, refl}
use Rattle.std.specs.List.{AllByRecursion, IsDistinct, list_any}
use Rattle.std.proofs.Common.{arith, sym, subst, inl, inr, true-eqb, true≢false, append_assoc, append-nil}
use Rattle.std.proofs.lemmas.Bool.{cases_lt}
use Rattle.std.proofs.lemmas.List.Elements.{Contains-push, Contains-append_left}
use Rattle.std.proofs.lemmas.Map.Steps.{length-le_from_distinct_below}
use Rattle.base_graph.specs.NeedsGraph.{NeedsGraph, IsGraph}
use Rattle.base_graph.specs.Reaching.{HasNoCycle}
use Rattle.base_graph.specs.OneOrder.{MayStand, IsNext, Follows, IsOrder}
use Rattle.diagram_meaning.proofs.lemmas.Walks.{Within}
use Rattle.modules_profile.proofs.lemmas.Members.{in-none, in-first, in-rest, in-cases}
use Rattle.right_any_system.proofs.Decided.{Decided, contains-decided, any-decided, least-below}
use Rattle.right_any_system.proofs.Clustered.{needed, needed-edge, edge-needed, needs-inside, short}

not-decided : {P : Type 0} → Decided P → Decided (P → ⊥)
not-decided (inl p) = inr (λ none. none p)
not-decided (inr none) = inl none

below-decided : (b n : ℕ) → Decided (b < n)
below-decided b n = elim (cases_lt b n) [ inl low ↦ inl low | inr high ↦ inr (λ low. omega arith) ]

stable : {P : Type 0} → Decided P → ((P → ⊥) → ⊥) → P
stable (inl p) double = p
stable (inr none) double = absurd (double none)

-- one more node at the end
follows-push : (g : NeedsGraph) (placed list : List ℕ) (b : ℕ) → Follows g placed list →
    IsNext g (placed ++ list) b → Follows g placed (list ++ b ∷ [])
follows-push g placed [] b f next = (subst (λ xs. IsNext g xs b) (append-nil placed) next, tt)
follows-push g placed (x ∷ list) b f next = (f.0, follows-push g (placed ++ x ∷ []) list b f.1 (rw append_assoc next))

module _ (g : NeedsGraph) (inside : IsGraph g) (none : HasNoCycle g) where
  -- something that node b needs isn't placed
  abbrev Lacks : List ℕ → ℕ → Type 0
  Lacks placed b = (a : ℕ) × Contains (needed g b) a × (Contains placed a → ⊥)

  lacks-decided : (placed : List ℕ) (b : ℕ) → Decided (Lacks placed b)
  lacks-decided placed b = any-decided (λ a. Contains placed a → ⊥) (needed g b) (λ a m. not-decided (contains-decided placed a))

  stands : (placed : List ℕ) (b : ℕ) → b < g.n → (Contains placed b → ⊥) → (Lacks placed b → ⊥) → MayStand g placed b
  stands placed b below new full = record {
    is_node = below;
    is_new = new;
    needs_placed = λ a need. stable (contains-decided placed a) (λ missing. full (a, edge-needed g b a need, missing));
  }

  may_stand-decided : (placed : List ℕ) (b : ℕ) → Decided (MayStand g placed b)
  may_stand-decided placed b = by (below-decided b g.n) (contains-decided placed b) (lacks-decided placed b)
    where
      by : Decided (b < g.n) → Decided (Contains placed b) → Decided (Lacks placed b) → Decided (MayStand g placed b)
      by (inr out) there lacks = inr (λ may. out may.is_node)
      by (inl below) (inl there) lacks = inr (λ may. may.is_new there)
      by (inl below) (inr new) (inl (a, need, missing)) = inr (λ may. missing (may.needs_placed a (needed-edge g b a need)))
      by (inl below) (inr new) (inr full) = inl (stands placed b below new full)

  -- from a node that isn't placed one goes down to a node that may come next
  down : (placed : List ℕ) (k b : ℕ) → Within (needed g) k b → b < g.n → (Contains placed b → ⊥) → (c : ℕ) × MayStand g placed c
  down placed zero b within below new = absurd within
  down placed (suc k) b within below new = by (lacks-decided placed b)
      (λ a need. down placed k a (within a need) (needs-inside g b a inside (needed-edge g b a need)).0)
    where
      by : Decided (Lacks placed b) →
          ((a : ℕ) → Contains (needed g b) a → (Contains placed a → ⊥) → (c : ℕ) × MayStand g placed c) →
          (c : ℕ) × MayStand g placed c
      by (inl (a, need, missing)) lower = lower a need missing
      by (inr full) lower = (b, stands placed b below new full)

  -- ---- One node after another

  -- the nodes that are placed, and the same backward, each once
  record IsBegun (placed seen : List ℕ) : Type 0 where
    follows : Follows g [] placed
    distinct : IsDistinct eqb seen
    below : (q : ℕ) → list_any (eqb q) seen ≡ true → q < g.n
    among : (q : ℕ) → Contains seen q → Contains placed q

  apart : (b : ℕ) (seen : List ℕ) → (Contains seen b → ⊥) → AllByRecursion (λ a. eqb b a ≡ false) seen
  apart b [] new = tt
  apart b (a ∷ seen) new = (by (eqb b a) refl, apart b seen (λ m. new (in-rest a b seen m)))
    where
      by : (r : Bool) → eqb b a ≡ r → eqb b a ≡ false
      by false e = e
      by true e = absurd (new (subst (λ x. Contains (x ∷ seen) b) (true-eqb b a (sym e)) (in-first b seen)))

  more-below : (b : ℕ) (seen : List ℕ) → b < g.n → ((q : ℕ) → list_any (eqb q) seen ≡ true → q < g.n) → (q : ℕ) →
      list_any (eqb q) (b ∷ seen) ≡ true → q < g.n
  more-below b seen low all q m = by (eqb q b) refl m
    where
      by : (r : Bool) → eqb q b ≡ r → (r || list_any (eqb q) seen) ≡ true → q < g.n
      by true e k = let same : q ≡ b = true-eqb q b (sym e) in omega arith
      by false e k = all q k

  one-more : (placed seen : List ℕ) (b : ℕ) → IsBegun placed seen → MayStand g placed b → ((c : ℕ) → MayStand g placed c → b ≤ c) →
      IsBegun (placed ++ b ∷ []) (b ∷ seen)
  unfolding IsDistinct
  one-more placed seen b so_far may least = record {
    follows = follows-push g [] placed b so_far.follows (record { may_stand = may; is_least = least });
    distinct = (apart b seen (λ m. may.is_new (so_far.among b m)), so_far.distinct);
    below = more-below b seen may.is_node so_far.below;
    among = λ q m. elim (in-cases b q seen m) [
      | inl same ↦ subst (Contains (placed ++ b ∷ [])) same (Contains-push placed b)
      | inr earlier ↦ Contains-append_left placed (b ∷ []) q (so_far.among q earlier)
    ];
  }

  whole : (placed : List ℕ) → Follows g [] placed → ((b : ℕ) → b < g.n → MayStand g placed b → ⊥) → IsOrder g placed
  whole placed follows no_next = record {
    has_all = λ b below. stable (contains-decided placed b) (λ missing.
        let next = down placed (suc g.n) b (short g inside none b) below missing in
        no_next next.0 next.1.is_node next.1);
    is_least_first = follows;
  }

  grow : (k : ℕ) (placed seen : List ℕ) → length seen + k ≡ suc g.n → IsBegun placed seen → (list : List ℕ) × IsOrder g list
  grow zero placed seen e so_far =
      let most = length-le_from_distinct_below seen g.n so_far.distinct so_far.below in absurd (omega arith)
  grow (suc k) placed seen e so_far = by (least-below (MayStand g placed) (may_stand-decided placed) g.n)
      (λ b may least. grow k (placed ++ b ∷ []) (b ∷ seen) (omega arith) (one-more placed seen b so_far may least))
    where
      by : ((b : ℕ) → b < g.n → MayStand g placed b → ⊥) ⊎ ((b : ℕ) × MayStand g placed b × ((c : ℕ) → MayStand g placed c → b ≤ c)) →
          ((b : ℕ) → MayStand g placed b → ((c : ℕ) → MayStand g placed c → b ≤ c) → (list : List ℕ) × IsOrder g list) →
          (list : List ℕ) × IsOrder g list
      by (inl no_next) on = (placed, whole placed so_far.follows no_next)
      by (inr (b, may, least)) on = on b may least

  pub order-there : (list : List ℕ) × IsOrder g list
  unfolding IsDistinct
  order-there = grow (suc g.n) [] [] (omega arith) (record {
    follows = tt;
    distinct = tt;
    below = λ q h. absurd (true≢false (sym h));
    among = λ q m. absurd (in-none q m);
  })
