-- The pieces that a text is read in.
use Rattle.std.specs.Prelude.{◌≡◌, ℕ, suc, ◌≤◌, ◌<◌, List, ◌∷◌, length, take}
use Rattle.c_grammar.specs.Tokens.{blank, token, class_of}
use Rattle.lustre_grammar.specs.Tokens.{piece_of}
use Rattle.lustre_tokens.specs.declared.bytes.Piece.{Piece}
use Rattle.lustre_tokens.specs.declared.bytes.Piece.TheVariants.{Blank, Token}

-- the piece that a byte begins with those after it
abbrev pub IsPiece : Piece → (first : ℕ) → List ℕ → Type 0
IsPiece Blank first rest = piece_of (class_of first) first rest ≡ blank
IsPiece (Token len) first rest =
    (0 < len) × (len ≤ suc (length rest))
    × (piece_of (class_of first) first rest ≡ token (take len (first ∷ rest)))
