-- The rows of a block that are on loops, by what is reached from their bits.
use Rattle.std.specs.Prelude.{◌≡◌, ℕ, suc, ◌+◌, ◌-◌, ◌<◌, ◌≤◌, List, [], ◌∷◌, length, get_or, Contains, IsBitSet, Option, Some, None, refl}
use Rattle.std.specs.List.{AllByRecursion}
use Rattle.std.proofs.Common.{arith, sym, ap, subst, ◌∙◌, inl, inr}
use Rattle.std.proofs.lemmas.List.{get_or_default}
use Rattle.std.proofs.lemmas.List.Elements.{All-from_recursion}
use Rattle.base_graph.specs.NeedsGraph.{NeedsGraph, IsGraph}
use Rattle.base_graph.specs.EdgeChains.{from, to}
use Rattle.base_graph.specs.Masks.{AreMasks}
use Rattle.base_graph.specs.Reaching as graph
use Rattle.diagram_meaning.specs.Walk.{Walk}
use Rattle.diagram_needs.specs.Least.{IsLeastOf, lesser_of}
use Rattle.diagram_needs.specs.Needed.{needed, IsOnLoop}
use Rattle.diagram_needs.specs.Blocks.{IsInBlock, AreBlockBits, IsOnLoopIn}
use Rattle.diagram_needs.proofs.Comparing.{le-or-above}
use Rattle.diagram_needs.proofs.NeededSteps.{needed-edge, edge-needed, walk-from_graph, walk-to_graph}
use Rattle.diagram_needs.proofs.LeastSteps.{IsAmong, least-take, least-pass, least-same}

-- both ends of an edge are nodes
pub edge-inside : (n : ℕ) (edges : List (ℕ × ℕ)) → AllByRecursion (λ edge. (edge.0 < n) × (edge.1 < n)) edges →
    (a b : ℕ) → Contains edges (a, b) → (a < n) × (b < n)
edge-inside n edges all a b h =
    subst (λ (edge : ℕ × ℕ). (edge.0 < n) × (edge.1 < n)) h.2
    (All-from_recursion (λ (edge : ℕ × ℕ). (edge.0 < n) × (edge.1 < n)) edges all h.0 (a, b) h.1)

-- an edge that closes a loop through a row of the block
abbrev pub Closes : NeedsGraph → ℕ → List ℕ → ℕ → Type 0
Closes g first reached e = IsInBlock first (to g.edges e) × IsBitSet (get_or reached (from g.edges e) 0) (to g.edges e - first)

module _ (g : NeedsGraph) (is_graph : IsGraph g) where
  pub on_loop-below : (b : ℕ) → IsOnLoop (needed g) b → b < g.n
  on_loop-below b loop = by loop.0 loop.1
    where
      by : (path : List ℕ) → Walk (needed g) b path b → b < g.n
      by [] w = (edge-inside g.n g.edges is_graph b b (needed-edge b b g.edges w)).1
      by (c ∷ path) w = (edge-inside g.n g.edges is_graph c b (needed-edge b c g.edges w.0)).1

  module _ (first : ℕ) (bits reached : List ℕ) (own : AreBlockBits g.n first bits) (masks : AreMasks g bits reached) where
    closes-loop : (a b : ℕ) → Contains g.edges (a, b) → IsInBlock first b → IsBitSet (get_or reached a 0) (b - first) →
        IsOnLoop (needed g) b
    closes-loop a b edge block bit =
        let r = (masks.bits a (b - first) (edge-inside g.n g.edges is_graph a b edge).0).0 bit in
        let source = (own.bits r.0 (b - first) r.1).0 r.3 in
        let same : r.0 ≡ b = (let e = source.0 in let l = block.0 in omega arith) in
        elim r.2 [
          | inl is ↦ ([], edge-needed b b g.edges (subst (λ n. Contains g.edges (n, b)) (sym is ∙ same) edge))
          | inr walk ↦ (
            a ∷ walk.0,
            (
              edge-needed b a g.edges edge,
              walk-from_graph g a walk.0 b (subst (λ n. graph.Walk g a walk.0 n) same walk.1),
            ),
          )
        ]

    bit-of : (b : ℕ) → b < g.n → IsInBlock first b → IsBitSet (get_or bits b 0) (b - first)
    bit-of b below block =
        (own.bits b (b - first) below).1 (
          (let l = block.0 in omega arith),
          (let l = block.0 in let h = block.1 in omega arith),
        )

    loop-closes : (b : ℕ) (path : List ℕ) → Walk (needed g) b path b → IsInBlock first b →
        (a : ℕ) × Contains g.edges (a, b) × IsBitSet (get_or reached a 0) (b - first)
    loop-closes b [] w block =
        let edge = needed-edge b b g.edges w in
        let below = (edge-inside g.n g.edges is_graph b b edge).1 in
        (b, edge, (masks.bits b (b - first) below).1 (b, below, inl refl, bit-of b below block))
    loop-closes b (a ∷ path) w block =
        let edge = needed-edge b a g.edges w.0 in
        let ends = edge-inside g.n g.edges is_graph a b edge in
        (a, edge, (masks.bits a (b - first) ends.0).1 (b, ends.1, inr (path, walk-to_graph g a path b w.1), bit-of b ends.1 block))

    pub block_done : (i : ℕ) (found : Option ℕ) → i ≡ length g.edges →
        IsLeastOf (IsAmong (Closes g first reached) (to g.edges) i) found →
        IsLeastOf (IsOnLoopIn (needed g) first) found
    block_done i found all h = least-same (IsAmong (Closes g first reached) (to g.edges) i) (IsOnLoopIn (needed g) first) found
        (λ b m.
        let edge : Contains g.edges (from g.edges m.0, to g.edges m.0) = (
          m.0,
          (let l = m.1 in omega arith),
          get_or_default g.edges m.0 (from g.edges m.0, to g.edges m.0) (0, 0)
              (let l = m.1 in omega arith),
        ) in
        subst (IsOnLoopIn (needed g) first) (sym m.3) (m.2.0, closes-loop (from g.edges m.0) (to g.edges m.0) edge m.2.0 m.2.1))
        (λ b m.
        let c = loop-closes b m.1.0 m.1.1 m.0 in
        let read : get_or g.edges c.1.0 (0, 0) ≡ (c.0, b) = get_or_default g.edges c.1.0 (0, 0) (c.0, b) c.1.1 ∙ c.1.2 in
        let second : b ≡ to g.edges c.1.0 = sym (ap (λ (x : ℕ × ℕ). x.1) read) in
        let front : c.0 ≡ from g.edges c.1.0 = sym (ap (λ (x : ℕ × ℕ). x.0) read) in (
          c.1.0,
          (let l = c.1.1 in omega arith),
          (
            subst (IsInBlock first) second m.0,
            subst (λ n. IsBitSet (get_or reached (from g.edges c.1.0) 0) (n - first)) second
                (subst (λ n. IsBitSet (get_or reached n 0) (b - first)) front c.2),
          ),
          second,
        ))
        h

  module _ (first : ℕ) (reached : List ℕ) (i j a b : ℕ) (next : j ≡ suc i) (from_is : a ≡ from g.edges i) (to_is : b ≡ to g.edges i) where
    pub block_take : (found : Option ℕ) → IsInBlock first b × IsBitSet (get_or reached a 0) (b - first) →
        IsLeastOf (IsAmong (Closes g first reached) (to g.edges) i) found →
        IsLeastOf (IsAmong (Closes g first reached) (to g.edges) j) (Some (lesser_of found b))
    block_take found given h =
        subst (λ n. IsLeastOf (IsAmong (Closes g first reached) (to g.edges) n) (Some (lesser_of found b))) (sym next)
        (subst (λ n. IsLeastOf (IsAmong (Closes g first reached) (to g.edges) (suc i)) (Some (lesser_of found n))) (sym to_is)
        (least-take (Closes g first reached) (to g.edges) i found
        (subst (λ n. IsInBlock first n × IsBitSet (get_or reached (from g.edges i) 0) (n - first)) to_is
        (given.0, subst (λ n. IsBitSet (get_or reached n 0) (b - first)) from_is given.1)) h))

    pub block_pass : (found : Option ℕ) → (IsInBlock first b × IsBitSet (get_or reached a 0) (b - first) → ⊥) →
        IsLeastOf (IsAmong (Closes g first reached) (to g.edges) i) found →
        IsLeastOf (IsAmong (Closes g first reached) (to g.edges) j) found
    block_pass found fails h =
        subst (λ n. IsLeastOf (IsAmong (Closes g first reached) (to g.edges) n) found) (sym next)
        (least-pass (Closes g first reached) (to g.edges) i found
        (λ p.
        let q : IsInBlock first b × IsBitSet (get_or reached (from g.edges i) 0) (b - first) =
        subst (λ n. IsInBlock first n × IsBitSet (get_or reached (from g.edges i) 0) (n - first)) (sym to_is) p in
        fails (q.0, subst (λ n. IsBitSet (get_or reached n 0) (b - first)) (sym from_is) q.1)) h)

-- from block to block
module _ (needs : ℕ → List ℕ) (first : ℕ) (from_first : (b : ℕ) → IsOnLoop needs b → first ≤ b) where
  pub block_least : (a : ℕ) → IsLeastOf (IsOnLoopIn needs first) (Some a) → IsLeastOf (IsOnLoop needs) (Some a)
  block_least a h = (
    h.0.1,
    λ b on. elim (le-or-above (first + 64) b) [
      | inl later ↦ let l = h.0.0.1 in omega arith
      | inr within ↦ h.1 b ((from_first b on, within), on)
    ],
  )

  pub block_none : IsLeastOf (IsOnLoopIn needs first) None → (b : ℕ) → IsOnLoop needs b → first + 64 ≤ b
  block_none h b on = elim (le-or-above (first + 64) b) [
    | inl later ↦ later
    | inr within ↦ absurd (h b ((from_first b on, within), on))
  ]
