-- Literals as they may be written.
use Rattle.std.specs.Prelude.{ℕ, Bool, false, not, ◌&&◌, ◌||◌, ◌==◌, List, [], ◌∷◌, codes, bytes_eq}
use Rattle.std.specs.List.{list_all}
use Rattle.std.specs.Char.{is_ascii_digit}

-- `0`, or digits without a leading 0
abbrev pub is_plain_numeral : List ℕ → Bool
is_plain_numeral [] = false
is_plain_numeral (d ∷ ds) =
    list_all is_ascii_digit (d ∷ ds) && (bytes_eq (d ∷ ds) (codes "0") || not (d == 48))
