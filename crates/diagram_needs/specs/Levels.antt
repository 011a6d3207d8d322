-- How many steps lead from each row to a row z, as far as they are counted.
use Rattle.std.specs.Prelude.{◌≡◌, ℕ, zero, suc, ◌<◌, ◌≤◌, ◌==◌, if◌then◌else◌, List, length, slice_index, sum_by, Contains, ◌↔◌, ◌⊎◌}
use Rattle.base_graph.specs.NeedsGraph.{NeedsGraph}
use Rattle.base_graph.specs.EdgeChains.{from, to}
use Rattle.diagram_meaning.specs.Walk.{Walk}

-- up to k steps are counted: a row has the least number of steps of a walk to z, or 0 where there
-- is none so short
pub record AreLevels (needs : ℕ → List ℕ) (z k : ℕ) (steps : List ℕ) : Type 0 where
  pub walks : (b : ℕ) → 0 < slice_index steps b →
      (slice_index steps b ≤ k)
      × ((path : List ℕ) × Walk needs b path z × (suc (length path) ≡ slice_index steps b))
  pub least : (b : ℕ) (path : List ℕ) → Walk needs b path z → suc (length path) ≤ k →
      (0 < slice_index steps b) × (slice_index steps b ≤ suc (length path))

-- so for some number of steps
abbrev pub AreLevelsTo : (ℕ → List ℕ) → ℕ → List ℕ → Type 0
AreLevelsTo needs z steps = (k : ℕ) × AreLevels needs z k steps

-- k steps lead from row a to z, and no fewer; none where it is z itself
abbrev pub IsAtLevel : ℕ → List ℕ → ℕ → ℕ → Type 0
IsAtLevel z steps zero a = a ≡ z
IsAtLevel z steps (suc k) a = slice_index steps a ≡ suc k

-- how many rows have no number of steps yet
abbrev pub unreached : List ℕ → ℕ
unreached steps = sum_by (λ count. if count == 0 then 1 else 0) steps

-- the rows in front are those from which k steps lead to z, and no fewer
abbrev pub IsFront : ℕ → ℕ → List ℕ → List ℕ → Type 0
IsFront z k steps front = (a : ℕ) → Contains front a ↔ IsAtLevel z steps k a

-- edge e is looked at: it leads from one of the first i rows in front, or from the next one and
-- is at this place or after it
abbrev pub IsLookedAt : List (ℕ × ℕ) → List ℕ → ℕ → ℕ → ℕ → Type 0
IsLookedAt edges front i place e =
    ((j : ℕ) × (j < i) × (slice_index front j ≡ from edges e))
    ⊎ ((place ≤ e) × (slice_index front i ≡ from edges e))

-- rows that need a row in front get this number, where they had none before, and are listed as the
-- next in front
pub record IsNumbering (g : NeedsGraph) (number : ℕ) (front before steps next : List ℕ)
    (i place : ℕ) : Type 0 where
  pub len : length steps ≡ length before
  pub kept : (b : ℕ) → 0 < slice_index before b → slice_index steps b ≡ slice_index before b
  pub fresh : (b : ℕ) → 0 < slice_index steps b → (0 < slice_index before b)
      ⊎ ((slice_index steps b ≡ number) × Contains next b
      × ((a : ℕ) × Contains g.edges (a, b) × Contains front a))
  pub listed : (b : ℕ) → Contains next b → slice_index steps b ≡ number
  pub done : (e : ℕ) → e < length g.edges → IsLookedAt g.edges front i place e →
      0 < slice_index steps (to g.edges e)
  pub moved : (steps ≡ before) ⊎ (unreached steps < unreached before)
