-- Classes of outputs: those with equal needs, numbered from 0 by the least output of each.
use Rattle.std.specs.Prelude.{◌≡◌, ℕ, ◌==◌, if◌then◌else◌, List, [], ◌∷◌, ◌++◌, map, length, unwrap_or}
use Rattle.std.specs.List.{list_any, position_from}
use Rattle.base_core.specs.Interface.{different}

-- the first place of a member of a list, which it has
abbrev pub place_of : List ℕ → ℕ → ℕ
place_of xs x = unwrap_or (position_from (λ y. y == x) 0 xs) 0

-- the class of each output, where these are their needs
abbrev pub classes_of : List ℕ → List ℕ
classes_of masks = map (place_of (different masks)) masks

-- how many classes there are
abbrev pub class_count : List ℕ → ℕ
class_count masks = length (different masks)

-- one member more is a different one where it is none of those before it
abbrev pub DifferentGrow : Type 0
DifferentGrow = (xs : List ℕ) (x : ℕ) →
    different (xs ++ x ∷ [])
    ≡ (if list_any (λ y. y == x) xs then different xs else different xs ++ x ∷ [])
