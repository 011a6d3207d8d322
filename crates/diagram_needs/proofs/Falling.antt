-- Where numbers fall along needs, or stay as they are at no row below a floor, no row below it is on a loop.
use Rattle.std.specs.Prelude.{◌≡◌, ℕ, ◌<◌, ◌≤◌, ◌||◌, ◌&&◌, ◌==◌, nat_lt, nat_le, true, false, Bool, List, [], ◌∷◌, Contains, ◌⊎◌, refl}
use Rattle.std.proofs.Common.{arith, sym, subst, inl, inr, true-eqb, true≢false}
use Rattle.std.proofs.lemmas.Bool.{ltb-true, leb-true}
use Rattle.std.proofs.lemmas.List.Sums.{AllPass-from_list_all}
use Rattle.base_graph.specs.NeedsGraph.{NeedsGraph}
use Rattle.diagram_meaning.specs.Walk.{Walk}
use Rattle.diagram_needs.specs.Needed.{needed, IsOnLoop}
use Rattle.diagram_needs.specs.Falling.{number_at, falls, all_fall}
use Rattle.diagram_needs.proofs.NeededSteps.{needed-edge}

module _ (g : NeedsGraph) (numbers : List ℕ) (floor : ℕ) (all : all_fall g numbers floor ≡ true) where
  edge-falls : (b a : ℕ) → Contains (needed g b) a → falls numbers floor (a, b) ≡ true
  edge-falls b a h =
      let edge = needed-edge b a g.edges h in
      subst (λ e. falls numbers floor e ≡ true) edge.2
      (AllPass-from_list_all (falls numbers floor) g.edges all edge.0 (a, b) edge.1)

  edge-down : (b a : ℕ) → Contains (needed g b) a →
      (number_at numbers a < number_at numbers b) ⊎ ((number_at numbers a ≡ number_at numbers b) × (floor ≤ b))
  edge-down b a h =
      let x = number_at numbers a in
      let y = number_at numbers b in
      by (nat_lt x y) refl (x == y) refl (nat_le floor b) refl (edge-falls b a h)
    where
      by : (less : Bool) → nat_lt (number_at numbers a) (number_at numbers b) ≡ less →
          (same : Bool) → (number_at numbers a == number_at numbers b) ≡ same → (high : Bool) → nat_le floor b ≡ high →
          (less || (same && high)) ≡ true →
          (number_at numbers a < number_at numbers b) ⊎ ((number_at numbers a ≡ number_at numbers b) × (floor ≤ b))
      by true less same s high h is = inl (ltb-true (number_at numbers a) (number_at numbers b) less)
      by false less true same true high is =
          inr (true-eqb (number_at numbers a) (number_at numbers b) (sym same), leb-true floor b high)
      by false less true same false high is = absurd (true≢false (sym is))
      by false less false same high h is = absurd (true≢false (sym is))

  -- along a walk no number rises
  walk-down : (b : ℕ) (path : List ℕ) (z : ℕ) → Walk (needed g) b path z → number_at numbers z ≤ number_at numbers b
  walk-down b [] z w = elim (edge-down b z w) [
    | inl less ↦ omega arith
    | inr same ↦ let e = same.0 in omega arith
  ]
  walk-down b (c ∷ path) z w =
      let later = walk-down c path z w.1 in
      elim (edge-down b c w.0) [
        | inl less ↦ omega arith
        | inr same ↦ let e = same.0 in omega arith
      ]

  pub on_loop_above : (b : ℕ) → IsOnLoop (needed g) b → floor ≤ b
  on_loop_above b (path, walk) = by path walk
    where
      by : (path : List ℕ) → Walk (needed g) b path b → floor ≤ b
      by [] w = elim (edge-down b b w) [
        | inl less ↦ omega arith
        | inr same ↦ same.1
      ]
      by (c ∷ path) w =
          let later = walk-down c path b w.1 in
          elim (edge-down b c w.0) [
            | inl less ↦ omega arith
            | inr same ↦ same.1
          ]
