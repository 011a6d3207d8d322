-- What a node of a graph needs, as a list.
use Rattle.std.specs.Prelude.{◌≡◌, ℕ, zero, suc, Bool, true, false, cond, eqb, List, [], ◌∷◌, map, filter, Contains, refl, ◌⊎◌}
use Rattle.std.proofs.Common.{arith, sym, ap, subst, ◌∙◌, inl, inr, true-eqb, true≢false}
use Rattle.std.proofs.lemmas.Bool.{eq-eqb}
use Rattle.base_graph.specs.NeedsGraph.{NeedsGraph}
use Rattle.base_graph.specs.Reaching as graph
use Rattle.diagram_meaning.specs.Walk.{Walk}
use Rattle.diagram_needs.specs.Needed.{needed}

-- one more item in front
pub Contains-front : {X : Type 0} (x : X) (xs : List X) → Contains (x ∷ xs) x
Contains-front x xs = (0, omega arith, refl)

pub Contains-behind : {X : Type 0} (y : X) (xs : List X) (x : X) → Contains xs x → Contains (y ∷ xs) x
Contains-behind y xs x (k, below, same) = (suc k, omega arith, same)

pub Contains-cases : {X : Type 0} (y : X) (xs : List X) (x : X) → Contains (y ∷ xs) x → (y ≡ x) ⊎ Contains xs x
Contains-cases y xs x (zero, below, same) = inl same
Contains-cases y xs x (suc k, below, same) = inr (k, omega arith, same)

abbrev those_to : ℕ → List (ℕ × ℕ) → List ℕ
those_to b edges = map (λ edge. edge.0) (filter (λ edge. eqb edge.1 b) edges)

-- one more edge
needed-one : (b a : ℕ) (edge : ℕ × ℕ) (edges : List (ℕ × ℕ)) (t : Bool) → eqb edge.1 b ≡ t →
    (Contains (those_to b edges) a → Contains edges (a, b)) →
    Contains (map (λ e. e.0) (cond t (edge ∷ filter (λ e. eqb e.1 b) edges) (filter (λ e. eqb e.1 b) edges))) a →
    Contains (edge ∷ edges) (a, b)
needed-one b a edge edges false q rest k = Contains-behind edge edges (a, b) (rest k)
needed-one b a edge edges true q rest k = elim (Contains-cases edge.0 (those_to b edges) a k) [
  | inl same ↦ let both : edge ≡ (a, b) = λ i. (same i, true-eqb edge.1 b (sym q) i) in
      subst (λ e. Contains (e ∷ edges) (a, b)) (sym both) (Contains-front (a, b) edges)
  | inr more ↦ Contains-behind edge edges (a, b) (rest more)
]

pub needed-edge : (b a : ℕ) (edges : List (ℕ × ℕ)) → Contains (those_to b edges) a → Contains edges (a, b)
needed-edge b a [] h = absurd (let l = h.1 in omega arith)
needed-edge b a (edge ∷ edges) h = needed-one b a edge edges (eqb edge.1 b) refl (λ k. needed-edge b a edges k) h

edge-one : (b a : ℕ) (edge : ℕ × ℕ) (edges : List (ℕ × ℕ)) (t : Bool) → eqb edge.1 b ≡ t →
    (Contains edges (a, b) → Contains (those_to b edges) a) →
    (edge ≡ (a, b)) ⊎ Contains edges (a, b) →
    Contains (map (λ e. e.0) (cond t (edge ∷ filter (λ e. eqb e.1 b) edges) (filter (λ e. eqb e.1 b) edges))) a
edge-one b a edge edges true q rest (inl same) =
    subst (λ x. Contains (edge.0 ∷ those_to b edges) x) (ap (λ (e : ℕ × ℕ). e.0) same)
    (Contains-front edge.0 (those_to b edges))
edge-one b a edge edges true q rest (inr more) = Contains-behind edge.0 (those_to b edges) a (rest more)
edge-one b a edge edges false q rest (inl same) = absurd (true≢false (sym (eq-eqb edge.1 b (ap (λ (x : ℕ × ℕ). x.1) same)) ∙ q))
edge-one b a edge edges false q rest (inr more) = rest more

pub edge-needed : (b a : ℕ) (edges : List (ℕ × ℕ)) → Contains edges (a, b) → Contains (those_to b edges) a
edge-needed b a [] h = absurd (let l = h.1 in omega arith)
edge-needed b a (edge ∷ edges) h =
    edge-one b a edge edges (eqb edge.1 b) refl (λ k. edge-needed b a edges k) (Contains-cases edge edges (a, b) h)

module _ (g : NeedsGraph) where
  -- walks in the graph and walks along its needs are the same
  pub walk-from_graph : (b : ℕ) (path : List ℕ) (a : ℕ) → graph.Walk g b path a → Walk (needed g) b path a
  walk-from_graph b [] a w = edge-needed b a g.edges w
  walk-from_graph b (c ∷ path) a w = (edge-needed b c g.edges w.0, walk-from_graph c path a w.1)

  pub walk-to_graph : (b : ℕ) (path : List ℕ) (a : ℕ) → Walk (needed g) b path a → graph.Walk g b path a
  walk-to_graph b [] a w = needed-edge b a g.edges w
  walk-to_graph b (c ∷ path) a w = (needed-edge b c g.edges w.0, walk-to_graph c path a w.1)
