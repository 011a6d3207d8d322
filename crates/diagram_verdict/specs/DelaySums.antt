-- The length that a row adds to those of the delays before it.
use Rattle.std.specs.Prelude.{ℕ, List, [], ◌∷◌, Option, None, Some}
use Rattle.diagram_meaning.specs.TimeRefusals.{AtLine}

-- the list of a length at a line, if there is one
abbrev pub one_length : (line : ℕ) → Option ℕ → List AtLine
one_length line None = []
one_length line (Some n) = record { line = line; number = n } ∷ []
