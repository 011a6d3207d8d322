-- The tokens of a text.
use Rattle.std.specs.Prelude.{ℕ, zero, suc, ◌+◌, ◌-◌, Bool, true, false, ◌&&◌, ◌||◌, ◌==◌, if◌then◌else◌, List, [], ◌∷◌, ◌++◌, length, take_while, Option, Some, None, option_map, codes, bytes_eq}
use Rattle.std.specs.List.{before_first, after_first, list_any}
use Rattle.std.specs.Char.{is_ascii_digit}
use Rattle.base_core.specs.Numbers.{reported_number}
use Rattle.c_syntax.specs.Names.{is_word_start, is_word_byte}

-- a token: its bytes, and the line of the first of them
pub record Token : Type 0 where
  pub text : List ℕ
  pub line : ℕ

-- a space, a tab, a line end, or a byte 13
abbrev pub is_white_space : ℕ → Bool
is_white_space b = (b == 32) || (b == 9) || (b == 10) || (b == 13)

-- two bytes that are one token
abbrev pub is_double_sign : ℕ → ℕ → Bool
is_double_sign b c =
    list_any (λ sign. bytes_eq (b ∷ c ∷ []) sign) (codes "->" ∷ codes "==" ∷ codes "!=" ∷ codes "<="
    ∷ codes ">=" ∷ codes "&&" ∷ codes "||" ∷ [])

-- what a byte begins
pub data ByteClass : Type 0 where
  blank_class word_class digit_class sign_class : ByteClass

-- the class of a byte
abbrev pub class_of : ℕ → ByteClass
class_of b =
    if is_white_space b then blank_class
    else (if is_word_start b then word_class
    else (if is_ascii_digit b then digit_class else sign_class))

-- a piece of a text: a blank byte, a comment with so many bytes after its first, or a token
pub data Piece : Type 0 where
  blank : Piece
  comment : (more : ℕ) → Piece
  token : (text : List ℕ) → Piece

-- how many bytes there are up to the end of a comment, with that end
abbrev pub comment_end : List ℕ → Option ℕ
comment_end [] = None
comment_end (b ∷ []) = None
comment_end (b ∷ c ∷ bs) =
    if (b == 42) && (c == 47) then Some 2 else option_map (λ n. n + 1) (comment_end (c ∷ bs))

-- a comment; without its end it is a token that no grammar has
abbrev pub comment_piece : Option ℕ → Piece
comment_piece (Some n) = comment (1 + n)
comment_piece None = token (codes "/*")

-- a comment, a token of two signs, or one of one sign
abbrev pub sign_piece : (is_comment is_double : Bool) → ℕ → ℕ → List ℕ → Piece
sign_piece true is_double b c cs = comment_piece (comment_end cs)
sign_piece false true b c cs = token (b ∷ c ∷ [])
sign_piece false false b c cs = token (b ∷ [])

-- the piece that a byte of this class and those after it begin; a token is as long as it can be
abbrev pub piece_of : ByteClass → ℕ → List ℕ → Piece
piece_of blank_class b bs = blank
piece_of word_class b bs = token (b ∷ take_while is_word_byte bs)
piece_of digit_class b bs = token (b ∷ take_while is_ascii_digit bs)
piece_of sign_class b [] = token (b ∷ [])
piece_of sign_class b (c ∷ cs) = sign_piece ((b == 47) && (c == 42)) (is_double_sign b c) b c cs

-- the number of the line after a byte
abbrev pub line_after : ℕ → ℕ → ℕ
line_after b line = if b == 10 then line + 1 else line

-- the tokens that begin with a piece, where `rest n` gives those after the next n bytes
abbrev pub piece_tokens : Piece → ℕ → (ℕ → List Token) → List Token
piece_tokens blank line rest = rest 0
piece_tokens (comment more) line rest = rest more
piece_tokens (token text) line rest =
    record { text = text; line = reported_number line } ∷ rest (length text - 1)

-- the tokens of a text, whose first `skip` bytes belong to a piece before it
abbrev pub tokens_from : (skip line : ℕ) → List ℕ → List Token
tokens_from skip line [] = []
tokens_from zero line (b ∷ bs) =
    piece_tokens (piece_of (class_of b) b bs) line (λ more. tokens_from more (line_after b line) bs)
tokens_from (suc skip) line (b ∷ bs) = tokens_from skip (line_after b line) bs

-- the end of a line
abbrev pub is_line_end : ℕ → Bool
is_line_end b = b == 10

-- the line that a file begins with
abbrev pub header_line : List ℕ
header_line = codes "#include <stdint.h>"

-- the first line is the include line, except for a byte 13 at its end
abbrev pub has_header : List ℕ → Bool
has_header bytes =
    bytes_eq (before_first is_line_end bytes) header_line
    || bytes_eq (before_first is_line_end bytes) (header_line ++ 13 ∷ [])

-- the tokens after the first line
abbrev pub tokens_of : List ℕ → List Token
tokens_of bytes = tokens_from 0 2 (after_first is_line_end bytes)

-- the number of the last line of a text that begins at this line
abbrev pub last_line_from : ℕ → List ℕ → ℕ
last_line_from line [] = line
last_line_from line (b ∷ []) = line
last_line_from line (b ∷ c ∷ bs) = last_line_from (line_after b line) (c ∷ bs)

-- the last line of a text
abbrev pub last_line : List ℕ → ℕ
last_line bytes = reported_number (last_line_from 1 bytes)
