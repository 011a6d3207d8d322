-- Laws of tokens.
use Rattle.std.proofs.Common.{◌≡◌, refl, ℕ, List, [], ◌∷◌, ◌++◌, length}
use Rattle.c_grammar.specs.Tokens.{line_after, tokens_from}
use Rattle.c_printer.proofs.lemmas.Bytes.{lines_after}

-- what is skipped moves the line alone
pub tokens_from-skip : (bytes rest : List ℕ) (line : ℕ) →
    tokens_from (length bytes) line (bytes ++ rest) ≡ tokens_from 0 (lines_after line bytes) rest
tokens_from-skip [] rest line = refl
tokens_from-skip (b ∷ bs) rest line = tokens_from-skip bs rest (line_after b line)
