-- Groups: the nodes that the same functions hold, by falling number of functions, and then by least
-- node.
use Rattle.std.specs.Prelude.{◌≡◌, ◌≢◌, ℕ, ◌<◌, ◌⊎◌, List, length, slice_index, map, count_ones, IsPermutation}
use Rattle.base_core.specs.Interface.{different}
use Rattle.modules_clusters.specs.Classes.{place_of}
use Rattle.modules_clusters.specs.NodeGroups.{NodeGroups}

-- a group with the one set comes before that with the other, where these are the sets of all nodes
abbrev pub ComesBefore : List ℕ → ℕ → ℕ → Type 0
ComesBefore holds a b = (count_ones b < count_ones a)
    ⊎ ((count_ones a ≡ count_ones b) × (place_of holds a < place_of holds b))

-- no two of these sets are one
abbrev pub AreDifferent : List ℕ → Type 0
AreDifferent sets = (i j : ℕ) → i < j → j < length sets → slice_index sets i ≢ slice_index sets j

-- each of these sets comes before those after it
abbrev pub AreInOrder : List ℕ → List ℕ → Type 0
AreInOrder holds sets = (i j : ℕ) → i < j → j < length sets →
    ComesBefore holds (slice_index sets i) (slice_index sets j)

-- there is one group for each different set, in this order, and each node is in the group of its
-- set
pub record AreGroups (holds : List ℕ) (g : NodeGroups) : Type 0 where
  pub sets : IsPermutation (different holds) g.holds
  pub in_order : AreInOrder holds g.holds
  pub of : g.of ≡ map (place_of g.holds) holds
