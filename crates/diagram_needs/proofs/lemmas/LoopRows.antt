-- The rows of a loop are each on one.
use Rattle.std.specs.Prelude.{ℕ, suc, ◌≤◌, List, [], ◌∷◌, ◌++◌, length, Some}
use Rattle.std.specs.List.{AllByRecursion}
use Rattle.std.proofs.Common.{arith, inl, inr}
use Rattle.diagram_meaning.specs.Walk.{Walk, IsLoop, HasNoLoop, IsLeastLoop}
use Rattle.diagram_needs.specs.Needed.{IsOnLoop}
use Rattle.diagram_needs.specs.Least.{IsLeastOf}
use Rattle.diagram_needs.specs.Levels.{AreLevelsTo}
use Rattle.diagram_needs.specs.LeastPaths.{IsLeastPath}
use Rattle.diagram_needs.proofs.Comparing.{le-or-above}

module _ (needs : ℕ → List ℕ) where
  -- two walks, one after the other
  pub walk-append : (a : ℕ) (path : List ℕ) (b : ℕ) (more : List ℕ) (c : ℕ) → Walk needs a path b →
      Walk needs b more c → Walk needs a (path ++ b ∷ more) c
  walk-append a [] b more c w v = (w, v)
  walk-append a (d ∷ path) b more c w v = (w.0, walk-append d path b more c w.1 v)

  -- each row of a walk that returns to where it came from is on a loop, as is the walk's beginning
  rows-on_loops : (s a : ℕ) (front path : List ℕ) → Walk needs s front a → Walk needs a path s → AllByRecursion (IsOnLoop needs) path
  rows-on_loops s a front [] w v = tt
  rows-on_loops s a front (b ∷ path) w v =
      let on = walk-append s front a [] b w v.0 in
      ((path ++ s ∷ (front ++ a ∷ []), walk-append b path s (front ++ a ∷ []) b v.1 on), rows-on_loops s b (front ++ a ∷ []) path on v.1)

  pub loop-rows : (loop : List ℕ) → IsLoop needs loop → AllByRecursion (IsOnLoop needs) loop
  loop-rows [] w = absurd w
  loop-rows (a ∷ []) w = (([], w), tt)
  loop-rows (a ∷ b ∷ path) w =
      ((b ∷ path, w), ((path ++ a ∷ [], walk-append b path a [] b w.1 w.0), rows-on_loops a b [] path w.0 w.1))

  pub all-above : (a : ℕ) → ((b : ℕ) → IsOnLoop needs b → a ≤ b) → (rows : List ℕ) →
      AllByRecursion (IsOnLoop needs) rows → AllByRecursion (λ b. a ≤ b) rows
  all-above a least [] all = tt
  all-above a least (b ∷ rows) all = (least b all.0, all-above a least rows all.1)

  -- no row on a loop, so no loop
  pub none-on_loop : ((b : ℕ) → IsOnLoop needs b → ⊥) → HasNoLoop needs
  none-on_loop none [] w = w
  none-on_loop none (a ∷ path) w = none a (path, w)

  -- a least path from the least row on a loop back to it makes the loop that is reported
  pub least-loop : (a : ℕ) (steps path : List ℕ) → IsLeastOf (IsOnLoop needs) (Some a) → AreLevelsTo needs a steps →
      IsLeastPath needs a steps a path → IsLeastLoop needs (a ∷ path)
  least-loop a steps path row levels way = record {
    is_loop = way.walk;
    least_row = λ loop w. all-above a row.1 loop (loop-rows loop w);
    shortest = λ other w. short other w;
    least = λ other w e. way.first other w e;
  }
    where
      short : (other : List ℕ) → Walk needs a other a → length path ≤ length other
      short other w = let taken = way.steps_taken in elim (le-or-above (suc (length other)) levels.0) [
        | inl few ↦ let at_least = (levels.1.least a other w few).1 in omega (arith, at_least, taken)
        | inr many ↦ let at_most = (levels.1.walks a (omega arith)).0 in omega (arith, many, at_most, taken)
      ]
