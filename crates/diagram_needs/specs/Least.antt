-- The least of some numbers.
use Rattle.std.specs.Prelude.{ℕ, ◌≤◌, min, Option, Some, None}

-- the least number of which p holds, none where it holds of none
abbrev pub IsLeastOf : (ℕ → Type 0) → Option ℕ → Type 0
IsLeastOf p None = (b : ℕ) → p b → ⊥
IsLeastOf p (Some a) = p a × ((b : ℕ) → p b → a ≤ b)

-- the lesser of what was found and b
abbrev pub lesser_of : Option ℕ → ℕ → ℕ
lesser_of None b = b
lesser_of (Some a) b = min a b
