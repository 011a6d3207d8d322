-- Texts of lines, as the examples write them.
use Rattle.std.specs.Prelude.{ℕ, List, [], ◌∷◌, ◌++◌}

-- lines with their ends
abbrev pub text_of_lines : List (List ℕ) → List ℕ
text_of_lines [] = []
text_of_lines (l ∷ ls) = l ++ 10 ∷ text_of_lines ls
