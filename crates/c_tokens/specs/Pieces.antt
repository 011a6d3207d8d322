-- The pieces that a text is read in.
use Rattle.std.specs.Prelude.{◌≡◌, ℕ, ◌≤◌, ◌<◌, List, ◌∷◌, length, take, drop}
use Rattle.base_core.specs.Numbers.{reported_number}
use Rattle.c_grammar.specs.Tokens.{tokens_from}
use Rattle.c_tokens.specs.Lines.{line_behind}
use Rattle.c_tokens.specs.declared.bytes.Piece.{Piece}
use Rattle.c_tokens.specs.declared.bytes.Piece.TheVariants.{Blank, Comment, Token}

-- bytes without a token, whose tokens are those after the first so many
abbrev pub IsSkipped : ℕ → List ℕ → Type 0
IsSkipped len bytes =
    (line : ℕ) → tokens_from 0 line bytes ≡ tokens_from 0 (line_behind line (take len bytes))
    (drop len bytes)

-- bytes whose first token is the first so many, with the tokens after it on the same line
abbrev pub IsFirstToken : ℕ → List ℕ → Type 0
IsFirstToken len bytes =
    (line : ℕ) →
    tokens_from 0 line bytes ≡ record { text = take len bytes; line = reported_number line }
    ∷ tokens_from 0 line (drop len bytes)

-- the first piece of bytes
abbrev pub IsPiece : Piece → List ℕ → Type 0
IsPiece Blank bytes = IsSkipped 1 bytes
IsPiece (Comment len) bytes = (0 < len) × (len ≤ length bytes) × IsSkipped len bytes
IsPiece (Token len) bytes = (0 < len) × (len ≤ length bytes) × IsFirstToken len bytes
