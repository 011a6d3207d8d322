-- The numbers that fields write, one after another.
use Rattle.std.specs.Prelude.{◌≡◌, ℕ, List, [], ◌∷◌, length, take, Option, None, Some, ℤ}
use Rattle.tool_traces.specs.Fields.{field_number}

-- a number in front of those after it, if all are there
abbrev pub with_number : Option ℤ → Option (List ℤ) → Option (List ℤ)
with_number None numbers = None
with_number (Some number) None = None
with_number (Some number) (Some numbers) = Some (number ∷ numbers)

-- the numbers that the fields write, or none where one writes no number
abbrev pub numbers_of : List (List ℕ) → Option (List ℤ)
numbers_of [] = Some []
numbers_of (field ∷ fields) = with_number (field_number field) (numbers_of fields)

-- there are so many numbers, and these items hold the first of them, as many as they can
abbrev pub HasRead : Option (List ℤ) → (found : ℕ) (into : List ℤ) → Type 0
HasRead None found into = ⊥
HasRead (Some numbers) found into =
    (length numbers ≡ found) × (take found into ≡ take (length into) numbers)
