-- The piece that a byte begins.
use Rattle.std.proofs.Common.{◌≡◌, refl, sym, ap, subst, ℕ, suc, ◌+◌, ◌≤◌, true, false, List, [], ◌∷◌, length, take, arith}
use Rattle.std.specs.List.{prefix_len}
use Rattle.std.specs.Char.{is_ascii_digit}
use Rattle.std.proofs.lemmas.List.Sums.{prefix_len-le-length}
use Rattle.c_syntax.specs.Names.{is_word_start, is_word_byte}
use Rattle.c_grammar.specs.Tokens.{token, sign_class, class_of, is_white_space}
use Rattle.lustre_grammar.specs.Tokens.{is_double_sign, piece_of}
use Rattle.lustre_tokens.specs.declared.bytes.Piece.TheVariants.{Blank, Token}
use Rattle.lustre_tokens.specs.Pieces.{IsPiece}

pub blank-piece : (b : ℕ) (bs : List ℕ) → true ≡ is_white_space b → IsPiece Blank b bs
blank-piece b bs white = rw (sym white) refl

token-of : (len n b : ℕ) (bs : List ℕ) → suc len ≡ n → len ≤ length bs →
    piece_of (class_of b) b bs ≡ token (take (suc len) (b ∷ bs)) → IsPiece (Token n) b bs
token-of len n b bs e few piece = subst (λ k. IsPiece (Token k) b bs) e (omega arith, omega (arith, few), piece)

-- a word, and a number
pub word-piece : (b n : ℕ) (bs : List ℕ) → false ≡ is_white_space b → true ≡ is_word_start b →
    n ≡ prefix_len is_word_byte bs → IsPiece (Token (1 + n)) b bs
word-piece b n bs white start e =
    token-of (prefix_len is_word_byte bs) (1 + n) b bs (omega (arith, e)) (prefix_len-le-length is_word_byte bs)
    (rw (sym white, sym start) refl)

pub number-piece : (b n : ℕ) (bs : List ℕ) → false ≡ is_white_space b → false ≡ is_word_start b →
    true ≡ is_ascii_digit b → n ≡ prefix_len is_ascii_digit bs → IsPiece (Token (1 + n)) b bs
number-piece b n bs white start digit e =
    token-of (prefix_len is_ascii_digit bs) (1 + n) b bs (omega (arith, e)) (prefix_len-le-length is_ascii_digit bs)
    (rw (sym white, sym start, sym digit) refl)

pub sign-class : (b : ℕ) → false ≡ is_white_space b → false ≡ is_word_start b → false ≡ is_ascii_digit b →
    class_of b ≡ sign_class
sign-class b white start digit = rw (sym white, sym start, sym digit) refl

-- a sign at the end of a text, two that are one token, and one of which no other is part
pub last-sign : (b : ℕ) (bs : List ℕ) → class_of b ≡ sign_class → bs ≡ [] → IsPiece (Token 1) b bs
last-sign b bs class end =
    subst (λ xs. IsPiece (Token 1) b xs) (sym end)
    (token-of 0 1 b [] refl (omega arith) (ap (λ k. piece_of k b []) class))

pub double-sign : (b c : ℕ) (cs bs : List ℕ) → class_of b ≡ sign_class → bs ≡ c ∷ cs → true ≡ is_double_sign b c →
    IsPiece (Token 2) b bs
double-sign b c cs bs class list double =
    subst (λ xs. IsPiece (Token 2) b xs) (sym list)
    (token-of 1 2 b (c ∷ cs) refl (omega arith) (rw (class, sym double) refl))

pub single-sign : (b c : ℕ) (cs bs : List ℕ) → class_of b ≡ sign_class → bs ≡ c ∷ cs → false ≡ is_double_sign b c →
    IsPiece (Token 1) b bs
single-sign b c cs bs class list double =
    subst (λ xs. IsPiece (Token 1) b xs) (sym list)
    (token-of 0 1 b (c ∷ cs) refl (omega arith) (rw (class, sym double) refl))
