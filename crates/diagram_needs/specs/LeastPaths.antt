-- Shortest walks, and of these the first in order.
use Rattle.std.specs.Prelude.{◌≡◌, ℕ, suc, ◌<◌, IsTrue, List, length, slice_index, slice_index_or, Contains, Option, None}
use Rattle.std.specs.Ordering.{nat_cmp, is_le}
use Rattle.std.specs.Cmp.Lexicographic.{slice_cmp}
use Rattle.diagram_meaning.specs.Walk.{Walk}
use Rattle.diagram_needs.specs.Least.{IsLeastOf}

-- the path leads from a to z in as many steps as a has, and of such paths it comes first
pub record IsLeastPath (needs : ℕ → List ℕ) (z : ℕ) (steps : List ℕ) (a : ℕ)
    (path : List ℕ) : Type 0 where
  pub walk : Walk needs a path z
  pub steps_taken : suc (length path) ≡ slice_index steps a
  pub first : (other : List ℕ) → Walk needs a other z → length other ≡ length path →
      IsTrue (is_le (slice_cmp nat_cmp path other))

-- row a needs row c, from which the way to z is one step shorter
pub record IsNextOn (needs : ℕ → List ℕ) (steps : List ℕ) (a c : ℕ) : Type 0 where
  pub needs_it : Contains (needs a) c
  pub on_way : 0 < slice_index steps c
  pub shorter : suc (slice_index steps c) ≡ slice_index steps a

-- for each row the least of these, none for a row from which the way ends
pub record AreNextOn (needs : ℕ → List ℕ) (steps : List ℕ) (next : List (Option ℕ)) : Type 0 where
  pub len : length next ≡ length steps
  pub least : (a : ℕ) → a < length steps →
      IsLeastOf (IsNextOn needs steps a) (slice_index_or next a None)
