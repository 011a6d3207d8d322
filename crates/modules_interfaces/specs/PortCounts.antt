-- The rows of a system that pass a test on their kind.
use Rattle.std.specs.Prelude.{◌≡◌, ℕ, ◌+◌, Bool, ◌&&◌, List, slice_index_or, count_by, Option, None, Some}
use Rattle.diagram_blocks.specs.declared.Kind.{Kind}
use Rattle.diagram_meaning.specs.declared.table.Row.{Row}
use Rattle.diagram_meaning.specs.Rows.{same_system, is_own}

-- the place of a system among all: the root is first, and then there is one for each row
abbrev pub place_of : Option ℕ → ℕ
place_of None = 0
place_of (Some e) = e + 1

-- how many rows of each system pass a test, by the places of systems
abbrev pub AreCounts : (Kind → Bool) → List Row → List ℕ → Type 0
AreCounts test rows counts =
    (s : Option ℕ) → slice_index_or counts (place_of s) 0 ≡ count_by (is_own test s) rows
