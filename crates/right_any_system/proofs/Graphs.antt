-- The graph of a system's nodes: an edge for each pair of which the second needs the first.
use Rattle.std.specs.Prelude.{◌≡◌, ◌↔◌, ℕ, ◌<◌, List, [], ◌∷◌, map, flat_map, length, slice_get, Contains, Option, Some, None, refl}
use Rattle.std.specs.List.{range_with_len}
use Rattle.std.proofs.Common.{arith, sym, ap, subst, ◌∙◌, inl, inr}
use Rattle.std.proofs.lemmas.List.Elements.{Contains-append_left, Contains-append_right, Contains-append_cases}
use Rattle.std.proofs.lemmas.Option.{same_Some}
use Rattle.diagram_blocks.specs.Kinds.{is_outport}
use Rattle.modules_profile.specs.declared.Node.{Node}
use Rattle.modules_profile.specs.LocalSystem.{LocalSystem}
use Rattle.modules_profile.specs.SystemNodes.{SystemNodes}
use Rattle.modules_profile.specs.LocalNodes.{node_list, node_gives, node_needs, NodeNeeds, AreNodesOf}
use Rattle.modules_profile.specs.Places.{ported_places, places_by_port}
use Rattle.modules_profile.specs.LawfulLocals.{IsLocal}
use Rattle.modules_profile.proofs.lemmas.PlaceSteps.{places-are, places-stand}
use Rattle.modules_profile.proofs.lemmas.Members.{in-none, in-first, in-cases, in-rest, in-map, of-map, in-range, of-range, at-below}
use Rattle.right_any_system.proofs.Decided.{Decided, contains-decided, any-decided, same-decided, kept, all-members}

-- ---- Pairs of numbers

in-flat : {A B : Type 0} (f : A → List B) (xs : List A) (x : A) (y : B) → Contains xs x → Contains (f x) y → Contains (flat_map f xs) y
in-flat f [] x y h m = absurd (in-none x h)
in-flat f (z ∷ xs) x y h m = elim (in-cases z x xs h) [
  | inl same ↦ Contains-append_left (f z) (flat_map f xs) y (subst (λ w. Contains (f w) y) (sym same) m)
  | inr more ↦ Contains-append_right (f z) (flat_map f xs) y (in-flat f xs x y more m)
]

of-flat : {A B : Type 0} (f : A → List B) (xs : List A) (y : B) → Contains (flat_map f xs) y → (x : A) × Contains xs x × Contains (f x) y
of-flat f [] y h = absurd (in-none y h)
of-flat f (x ∷ xs) y h = elim (Contains-append_cases (f x) (flat_map f xs) y h) [
  | inl here ↦ (x, in-first x xs, here)
  | inr there ↦ let m = of-flat f xs y there in (m.0, in-rest x m.0 xs m.1, m.2)
]

-- all pairs of numbers below n
abbrev pairs_from : ℕ → ℕ → List (ℕ × ℕ)
pairs_from n a = map (λ b. (a, b)) (range_with_len 0 n)

abbrev all_pairs : ℕ → List (ℕ × ℕ)
all_pairs n = flat_map (pairs_from n) (range_with_len 0 n)

in-pairs : (n a b : ℕ) → a < n → b < n → Contains (all_pairs n) (a, b)
in-pairs n a b low high =
    in-flat (pairs_from n) (range_with_len 0 n) a (a, b) (in-range 0 n a (omega arith) (omega arith))
    (in-map (λ c. (a, c)) (range_with_len 0 n) b (in-range 0 n b (omega arith) (omega arith)))

of-pairs : (n : ℕ) (e : ℕ × ℕ) → Contains (all_pairs n) e → (e.0 < n) × (e.1 < n)
of-pairs n e h =
    let m = of-flat (pairs_from n) (range_with_len 0 n) e h in
    let p = of-map (λ b. (m.0, b)) (range_with_len 0 n) e m.2 in
    let first = (of-range 0 n m.0 m.1).1 in
    let second = (of-range 0 n p.0 p.1).1 in
    let e₀ : m.0 ≡ e.0 = ap (λ (q : ℕ × ℕ). q.0) p.2 in
    let e₁ : p.0 ≡ e.1 = ap (λ (q : ℕ × ℕ). q.1) p.2 in
    (omega arith, omega arith)

-- ---- Edges

module _ (local : LocalSystem) (is : IsLocal local) where
  abbrev list : List Node
  list = node_list local

  -- the node at the second place needs the one at the first
  record IsEdge (e : ℕ × ℕ) : Type 0 where
    giver : Node
    taker : Node
    from : slice_get list e.0 ≡ Some giver
    to : slice_get list e.1 ≡ Some taker
    needed : NodeNeeds local taker giver

  none-some : (x : Node) → (let o : Option Node = None in o ≡ Some x) → ⊥
  none-some x e = cc e

  edge-decided : (e : ℕ × ℕ) → Decided (IsEdge e)
  edge-decided e = by (slice_get list e.0) refl (slice_get list e.1) refl
    where
      by : (from : Option Node) → slice_get list e.0 ≡ from → (to : Option Node) → slice_get list e.1 ≡ to → Decided (IsEdge e)
      by None p to q = inr (λ h. none-some h.giver (sym p ∙ h.from))
      by (Some x) p None q = inr (λ h. none-some h.taker (sym q ∙ h.to))
      by (Some x) p (Some y) q =
          same-decided {P = NodeNeeds local y x} {Q = IsEdge e}
          (λ n. record { giver = x; taker = y; from = p; to = q; needed = n })
          (λ h. subst (NodeNeeds local y) (same_Some h.giver x (sym h.from ∙ p))
          (subst (λ z. NodeNeeds local z h.giver) (same_Some h.taker y (sym h.to ∙ q)) h.needed))
          (any-decided (λ c. Contains (node_gives local x) c) (node_needs local y) (λ c m. contains-decided (node_gives local x) c))

  edges : (es : List (ℕ × ℕ)) × ((e : ℕ × ℕ) → Contains es e ↔ (Contains (all_pairs (length list)) e × IsEdge e))
  edges = kept IsEdge (all_pairs (length list)) edge-decided

  pub nodes-there : (nodes : SystemNodes) × AreNodesOf local nodes
  nodes-there = (
    record {
      graph = record { n = length list; edges = edges.0 };
      list = list;
      outputs = places_by_port (ported_places is_outport local.rows);
    },
    record {
      list = refl;
      count = refl;
      inside = all-members (λ (e : ℕ × ℕ). (e.0 < length list) × (e.1 < length list)) edges.0
          (λ e m. of-pairs (length list) e ((edges.1 e).0 m).0);
      edges = λ a b x y from to. (
        λ h. let edge = ((edges.1 (a, b)).0 h).1 in
            subst (NodeNeeds local y) (same_Some edge.giver x (sym edge.from ∙ from))
            (subst (λ z. NodeNeeds local z edge.giver) (same_Some edge.taker y (sym edge.to ∙ to)) edge.needed),
        λ n. (edges.1 (a, b)).1 (
          in-pairs (length list) a b (at-below list a x from) (at-below list b y to),
          record { giver = x; taker = y; from = from; to = to; needed = n },
        ),
      );
      outputs = ap (map Some) (places-are local is is_outport) ∙ places-stand local is is_outport;
    },
  )
