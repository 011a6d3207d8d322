-- The nodes of a graph without a cycle have clusters, whatever the classes of its outputs.
use Rattle.std.specs.Prelude.{◌≡◌, ◌↔◌, ℕ, zero, suc, ◌+◌, ◌<◌, ◌≤◌, ◌==◌, List, [], ◌∷◌, map, filter, length, get_or, IsBitSet, Contains, refl}
use Rattle.std.specs.List.{range_with_len}
use Rattle.std.proofs.Common.{arith, sym, subst, ◌∙◌, inl, inr, true-eqb, eq-eqb}
use Rattle.std.proofs.lemmas.List.{length-map}
use Rattle.std.proofs.lemmas.List.Elements.{All-contains, All-from_recursion}
use Rattle.std.proofs.lemmas.List.FromFn.{length-range_with_len}
use Rattle.std.proofs.lemmas.Bool.{cases_eq}
use Rattle.base_graph.specs.NeedsGraph.{NeedsGraph, IsGraph, Needs}
use Rattle.base_graph.specs.Reaching as graph
use Rattle.diagram_meaning.specs.Walk.{Walk, Reaches, HasNoLoop}
use Rattle.diagram_meaning.proofs.lemmas.ByRow.{map_range-at}
use Rattle.diagram_meaning.proofs.lemmas.Walks.{Within, within}
use Rattle.modules_clusters.specs.Clusters.{ReachesClass, AreClusters}
use Rattle.modules_profile.proofs.lemmas.Members.{in-map, of-map, in-filter, of-filter, in-range, of-range}
use Rattle.right_any_system.proofs.Decided.{Decided, any-decided, both-decided, same-decided}
use Rattle.right_any_system.proofs.Masks.{AnswersBits, mask-there}
use Rattle.right_any_system.proofs.Ways.{reaches-decided}

-- what node b needs
abbrev pub needed : NeedsGraph → ℕ → List ℕ
needed g b = map (λ (e : ℕ × ℕ). e.0) (filter (λ (e : ℕ × ℕ). e.1 == b) g.edges)

abbrev total : List ℕ → ℕ
total [] = 0
total (c ∷ cs) = c + total cs

-- both ends of an edge are nodes
pub needs-inside : (g : NeedsGraph) (b a : ℕ) → IsGraph g → Needs g b a → (a < g.n) × (b < g.n)
needs-inside g b a inside needs =
    All-contains (λ (e : ℕ × ℕ). (e.0 < g.n) × (e.1 < g.n)) g.edges (a, b)
    (All-from_recursion (λ (e : ℕ × ℕ). (e.0 < g.n) × (e.1 < g.n)) g.edges inside) needs

module _ (g : NeedsGraph) where
  pub needed-edge : (b a : ℕ) → Contains (needed g b) a → Needs g b a
  needed-edge b a h =
      let m = of-map (λ (e : ℕ × ℕ). e.0) (filter (λ (e : ℕ × ℕ). e.1 == b) g.edges) a h in
      let f = of-filter (λ (e : ℕ × ℕ). e.1 == b) g.edges m.0 m.1 in
      let same : m.0.1 ≡ b = true-eqb m.0.1 b (sym f.1) in
      subst (λ x. Contains g.edges (x, b)) m.2 (subst (λ y. Contains g.edges (m.0.0, y)) same f.0)

  pub edge-needed : (b a : ℕ) → Needs g b a → Contains (needed g b) a
  edge-needed b a h =
      in-map (λ (e : ℕ × ℕ). e.0) (filter (λ (e : ℕ × ℕ). e.1 == b) g.edges) (a, b)
      (in-filter (λ (e : ℕ × ℕ). e.1 == b) g.edges (a, b) h (eq-eqb b b refl))

  walk-from : (b : ℕ) (path : List ℕ) (a : ℕ) → graph.Walk g b path a → Walk (needed g) b path a
  walk-from b [] a w = edge-needed b a w
  walk-from b (c ∷ path) a w = (edge-needed b c w.0, walk-from c path a w.1)

  walk-to : (b : ℕ) (path : List ℕ) (a : ℕ) → Walk (needed g) b path a → graph.Walk g b path a
  walk-to b [] a w = needed-edge b a w
  walk-to b (c ∷ path) a w = (needed-edge b c w.0, walk-to c path a w.1)

  module _ (inside : IsGraph g) (none : graph.HasNoCycle g) where
    no-loop : HasNoLoop (needed g)
    no-loop [] loop = loop
    no-loop (a ∷ path) loop = none (a ∷ path) (walk-to a path a loop)

    pub short : (b : ℕ) → Within (needed g) (suc g.n) b
    short b = within (needed g) g.n (λ c a h. (needs-inside g c a inside (needed-edge c a h)).1) no-loop b

    reached-decided : (a b : ℕ) → Decided (graph.Reaches g a b)
    reached-decided a b = same-decided {P = Reaches (needed g) b a} to from (reaches-decided (needed g) a (suc g.n) b (short b))
      where
        to : Reaches (needed g) b a → graph.Reaches g a b
        to (inl same) = inl (sym same)
        to (inr (path, walk)) = inr (path, walk-to b path a walk)

        from : graph.Reaches g a b → Reaches (needed g) b a
        from (inl same) = inl (sym same)
        from (inr (path, walk)) = inr (path, walk-from b path a walk)

    -- ---- Classes that a node reaches

    module _ (outputs class : List ℕ) where
      class-decided : (a c : ℕ) → Decided (ReachesClass g outputs class a c)
      class-decided a c =
          same-decided {P = (i : ℕ) × Contains (range_with_len 0 (length outputs)) i
          × ((get_or class i 0 ≡ c) × graph.Reaches g a (get_or outputs i 0))}
          (λ h. let below = (of-range 0 (length outputs) h.0 h.1).1 in (h.0, omega arith, h.2.0, h.2.1))
          (λ h. (h.0, in-range 0 (length outputs) h.0 (omega arith) (let below = h.1 in omega arith), (h.2, h.3)))
          (any-decided (λ i. (get_or class i 0 ≡ c) × graph.Reaches g a (get_or outputs i 0)) (range_with_len 0 (length outputs))
          (λ i m. both-decided (cases_eq (get_or class i 0) c) (reached-decided a (get_or outputs i 0))))

      in-sum : (cs : List ℕ) (i : ℕ) → get_or cs i 0 ≤ total cs
      in-sum [] i = omega arith
      in-sum (c ∷ cs) zero = omega arith
      in-sum (c ∷ cs) (suc i) = let rest = in-sum cs i in omega arith

      mask-of_node : (a : ℕ) → (mask : ℕ) × AnswersBits (ReachesClass g outputs class a) (suc (total class)) mask
      mask-of_node a = mask-there (ReachesClass g outputs class a) (class-decided a) (suc (total class))

      pub clusters-there : (clusters : List ℕ) × AreClusters g outputs class clusters
      clusters-there = (
        map (λ a. (mask-of_node a).0) (range_with_len 0 g.n),
        record {
          one_each = length-map (range_with_len 0 g.n) (λ a. (mask-of_node a).0) ∙ length-range_with_len 0 g.n;
          bits = λ a c below.
              let at : get_or (map (λ b. (mask-of_node b).0) (range_with_len 0 g.n)) a 0 ≡ (mask-of_node a).0 =
              map_range-at (λ b. (mask-of_node b).0) g.n 0 a 0 below a (omega arith) in
              subst (λ m. IsBitSet m c ↔ ReachesClass g outputs class a c) (sym at) (
                λ set. (((mask-of_node a).1.1 c).0 set).1,
                λ reach. ((mask-of_node a).1.1 c).1
                    ((let low = in-sum class reach.0 in let of = reach.2 in omega arith), reach),
              );
        },
      )
