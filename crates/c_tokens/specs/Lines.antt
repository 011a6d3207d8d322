-- Lines as they are counted: the last that can be reported is that of all after it.
use Rattle.std.specs.Prelude.{ℕ, List, [], ◌∷◌}
use Rattle.base_core.specs.Numbers.{reported_number}
use Rattle.c_grammar.specs.Tokens.{line_after}

-- the line after some bytes that begin on a line
abbrev pub line_behind : ℕ → List ℕ → ℕ
line_behind line [] = line
line_behind line (b ∷ bs) = line_behind (reported_number (line_after b line)) bs
