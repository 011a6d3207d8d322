-- One more level of rows from which a row is reached.
use Rattle.std.specs.Prelude.{◌≡◌, ℕ, zero, suc, ◌<◌, ◌≤◌, List, [], ◌∷◌, length, Contains, ◌⊎◌, refl}
use Rattle.std.proofs.Common.{get_or, sym, ap, subst, ◌∙◌, arith, inl, inr}
use Rattle.std.proofs.lemmas.List.{get_or_default}
use Rattle.base_graph.specs.EdgeChains.{from, to}
use Rattle.diagram_meaning.specs.Walk.{Walk}
use Rattle.diagram_needs.specs.Levels.{AreLevels, IsAtLevel, unreached}
use Rattle.diagram_needs.specs.Needed.{needed, IsOnLoop}
use Rattle.diagram_needs.proofs.NeededSteps.{needed-edge, edge-needed}
use Rattle.base_graph.specs.NeedsGraph.{NeedsGraph}
use Rattle.diagram_needs.proofs.Comparing.{le-or-above, zero-or-above}

-- the first i edges are looked at for rows from which k + 1 steps lead to z
pub record IsAdvancing (edges : List (ℕ × ℕ)) (z k : ℕ) (old new : List ℕ) (i : ℕ) : Type 0 where
  pub len : length new ≡ length old
  pub kept : (b : ℕ) → 0 < get_or old b 0 → get_or new b 0 ≡ get_or old b 0
  pub fresh : (b : ℕ) → 0 < get_or new b 0 →
      (0 < get_or old b 0) ⊎ ((get_or new b 0 ≡ suc k) × ((a : ℕ) × Contains edges (a, b) × IsAtLevel z old k a))
  pub done : (e : ℕ) → e < i → IsAtLevel z old k (from edges e) → 0 < get_or new (to edges e) 0
  pub moved : (new ≡ old) ⊎ (unreached new < unreached old)

-- what an index reads
pub edge-at : (edges : List (ℕ × ℕ)) (e : ℕ) → e < length edges → Contains edges (from edges e, to edges e)
edge-at edges e below = (e, below, get_or_default edges e (from edges e, to edges e) (0, 0) below)

-- a path of which one step is known
module _ (needs : ℕ → List ℕ) (edges : List (ℕ × ℕ)) (edge-of : (b a : ℕ) → Contains (needs b) a →
    Contains edges (a, b)) (need-of : (b a : ℕ) → Contains edges (a, b) → Contains (needs b) a) (z k : ℕ) (old : List ℕ)
    (levels : AreLevels needs z k old) where
  -- a row at level k has a walk of k more steps
  step-path : (k' : ℕ) → k' ≡ k → (b a : ℕ) → Contains (needs b) a → IsAtLevel z old k' a →
      (path : List ℕ) × Walk needs b path z × (suc (length path) ≡ suc k')
  step-path zero same b a need at = ([], subst (λ n. Contains (needs b) n) at need, refl)
  step-path (suc n) same b a need at =
      let way = (levels.walks a (omega arith)).1 in
      (a ∷ way.0, (need, way.1), (let e = way.2 in omega arith))

  -- what needs a row of k steps or fewer has a number, or k steps lead from that row
  next-level : (b a : ℕ) (path : List ℕ) → Contains (needs b) a → Walk needs a path z → suc (length path) ≤ k →
      (0 < get_or old b 0) ⊎ (IsAtLevel z old k a × (get_or old a 0 ≡ k))
  next-level b a path need w few =
      let r = levels.least a path w few in
      let way = levels.walks a r.0 in
      elim (le-or-above k (get_or old a 0)) [
        | inl full ↦ inr (level-of k refl (omega (arith, full, way.0)), omega (arith, full, way.0))
        | inr less ↦ inl (levels.least b (a ∷ way.1.0) (need, way.1.1) (let e = way.1.2 in omega arith)).0
      ]
    where
      level-of : (n : ℕ) → n ≡ k → get_or old a 0 ≡ n → IsAtLevel z old n a
      level-of zero same e = absurd (let r = levels.least a path w few in omega arith)
      level-of (suc n) same e = e

  done-at : (new : List ℕ) → IsAdvancing edges z k old new (length edges) → (b a : ℕ) → Contains (needs b) a →
      IsAtLevel z old k a → 0 < get_or new b 0
  done-at new adv b a need at =
      let c = edge-of b a need in
      let read : get_or edges c.0 (0, 0) ≡ (a, b) = get_or_default edges c.0 (0, 0) (a, b) c.1 ∙ c.2 in
      subst (λ n. 0 < get_or new n 0) (ap (λ (e : ℕ × ℕ). e.1) read)
      (adv.done c.0 c.1 (subst (λ n. IsAtLevel z old k n) (sym (ap (λ (e : ℕ × ℕ). e.0) read)) at))

  module _ (new : List ℕ) (adv : IsAdvancing edges z k old new (length edges)) where
    reached : (b : ℕ) (path : List ℕ) → Walk needs b path z → suc (length path) ≤ suc k → 0 < get_or new b 0
    reached b [] w few = elim (zero-or-above k) [
      | inl none ↦ done-at new adv b z w (at-z k none)
      | inr some ↦ let r = levels.least b [] w (omega arith) in let e = adv.kept b r.0 in omega (arith, e, r.0)
    ]
      where
        at-z : (n : ℕ) → n ≡ 0 → IsAtLevel z old n z
        at-z zero same = refl
        at-z (suc n) same = absurd (omega arith)
    reached b (a ∷ path) w few = elim (next-level b a path w.0 w.1 (omega arith)) [
      | inl was ↦ let e = adv.kept b was in omega (arith, e, was)
      | inr at ↦ done-at new adv b a w.0 at.0
    ]

    bounded : (b : ℕ) (path : List ℕ) → Walk needs b path z → suc (length path) ≤ suc k → get_or new b 0 ≤ suc (length path)
    bounded b path w few = elim (adv.fresh b (reached b path w few)) [
      | inl was ↦ let e = adv.kept b was in elim (le-or-above (suc (length path)) k) [
        | inl short ↦ let r = (levels.least b path w short).1 in omega (arith, e, r)
        | inr long ↦ let r = (levels.walks b was).0 in omega (arith, e, r, long)
      ]
      | inr now ↦ elim (le-or-above (suc k) (suc (length path))) [
        | inl long ↦ let e = now.0 in omega (arith, e, long)
        | inr short ↦ let r = levels.least b path w (omega (arith, short)) in let e = adv.kept b r.0 in omega (arith, e, r.1)
      ]
    ]

    pub advance-done : AreLevels needs z (suc k) new
    advance-done = record {
      walks = λ b h. elim (adv.fresh b h) [
        | inl was ↦ let e = adv.kept b was in let r = levels.walks b was in (omega (arith, e, r.0), (r.1.0, r.1.1, r.1.2 ∙ sym e))
        | inr now ↦ let p = step-path k refl b now.1.0 (need-of b now.1.0 now.1.1) now.1.2 in
            (let e = now.0 in omega (arith, e), (p.0, p.1, p.2 ∙ sym now.0))
      ];
      least = λ b path w few. (reached b path w few, bounded b path w few);
    }

  -- where nothing new was reached, all is
  pub all-reached : IsAdvancing edges z k old old (length edges) → (b : ℕ) (path : List ℕ) → Walk needs b path z → 0 < get_or old b 0
  all-reached adv b [] w = reached old adv b [] w (omega arith)
  all-reached adv b (a ∷ path) w =
      let way = levels.walks a (all-reached adv a path w.1) in
      elim (next-level b a way.1.0 w.0 way.1.1 (let e = way.1.2 in let l = way.0 in omega arith)) [
        | inl was ↦ was
        | inr at ↦ done-at old adv b a w.0 at.0
      ]

-- a graph's needs
module _ (g : NeedsGraph) (z k : ℕ) (old new : List ℕ) (levels : AreLevels (needed g) z k old)
    (adv : IsAdvancing g.edges z k old new (length g.edges)) where
  pub levels-more : (k1 : ℕ) → k1 ≡ suc k → AreLevels (needed g) z k1 new
  levels-more k1 e = subst (λ n. AreLevels (needed g) z n new) (sym e)
      (advance-done (needed g) g.edges (λ b a. needed-edge b a g.edges) (λ b a. edge-needed b a g.edges) z k old levels new adv)

  pub levels-fall : IsOnLoop (needed g) z → get_or old z 0 ≡ 0 → unreached new < unreached old
  levels-fall loop none = elim adv.moved [
    | inl same ↦ absurd (
        let there = all-reached (needed g) g.edges (λ b a. needed-edge b a g.edges) (λ b a. edge-needed b a g.edges) z k old levels
        (subst (λ l. IsAdvancing g.edges z k old l (length g.edges)) same adv) z loop.0 loop.1 in omega arith)
    | inr less ↦ less
  ]
