-- The pieces that bytes begin with.
use Rattle.std.proofs.Common.{◌≡◌, refl, sym, ◌∙◌, ap, subst, ℕ, suc, ◌+◌, ◌≤◌, Bool, true, false, not, cond, ◌==◌, ◌&&◌, if◌then◌else◌, List, [], ◌∷◌, length, length-take, take, drop, Option, Some, None, option_map, codes, arith}
use Rattle.std.specs.List.{prefix_len, list_all}
use Rattle.std.specs.Char.{is_ascii_digit}
use Rattle.std.proofs.lemmas.Bool.{eqb-true, and_parts}
use Rattle.std.proofs.lemmas.List.Sums.{prefix_len-le-length}
use Rattle.base_core.specs.Numbers.{reported_number}
use Rattle.c_grammar.specs.Tokens.{Piece, blank, comment, token, blank_class, sign_class, class_of, is_white_space, is_double_sign, piece_of, piece_tokens, line_after, tokens_from, comment_end, is_line_end}
use Rattle.c_syntax.specs.Names.{is_word_start, is_word_byte}
use Rattle.c_tokens.specs.declared.bytes.Piece.TheVariants.{Blank, Comment, Token}
use Rattle.c_tokens.specs.Pieces.{IsSkipped, IsFirstToken, IsPiece}
use Rattle.c_tokens.proofs.TokenLines.{OnOneLine, tokens-behind, tokens-behind-line}
use Rattle.c_tokens.proofs.Keywords.{any-none}

comment_end-le : (bytes : List ℕ) (n : ℕ) → comment_end bytes ≡ Some n → n ≤ length bytes
comment_end-le [] n e = cc
comment_end-le (b ∷ []) n e = cc
comment_end-le (b ∷ c ∷ bytes) n e = by ((b == 42) && (c == 47)) (comment_end (c ∷ bytes)) refl (comment_end-le (c ∷ bytes)) e
  where
    some-same : (x y : ℕ) → ◌≡◌ {A = Option ℕ} (Some x) (Some y) → x ≡ y
    some-same x y h = cc

    by : (t : Bool) (o : Option ℕ) → comment_end (c ∷ bytes) ≡ o →
        ((m : ℕ) → comment_end (c ∷ bytes) ≡ Some m → m ≤ length (c ∷ bytes)) →
        (if t then Some 2 else option_map (λ m. m + 1) o) ≡ Some n → n ≤ length (b ∷ c ∷ bytes)
    by true o k later h = omega (arith, some-same 2 n h)
    by false None k later h = cc
    by false (Some m) k later h = omega (arith, some-same (m + 1) n h, later m k)

-- what a piece makes of the tokens
of_piece : (line b : ℕ) (bs : List ℕ) (p : Piece) → piece_of (class_of b) b bs ≡ p →
    tokens_from 0 line (b ∷ bs) ≡ piece_tokens p line (λ more. tokens_from more (line_after b line) bs)
of_piece line b bs p e = ap (λ q. piece_tokens q line (λ more. tokens_from more (line_after b line) bs)) e

-- a byte that ends no line, before others that end none
others-behind : (b : ℕ) (bs : List ℕ) → is_line_end b ≡ false → OnOneLine bs → OnOneLine (b ∷ bs)
others-behind b bs other one = by (is_line_end b) other
  where
    by : (end : Bool) → end ≡ false → (not end && list_all (λ c. not (is_line_end c)) bs) ≡ true
    by true e = cc
    by false e = one

-- what passes a test that no line end passes
other-of : (p : ℕ → Bool) (b : ℕ) → p 10 ≡ false → p b ≡ true → is_line_end b ≡ false
other-of p b fails passes = by (b == 10) refl
  where
    by : (end : Bool) → (b == 10) ≡ end → end ≡ false
    by true e = let same : p b ≡ p 10 = ap p (eqb-true b 10 e) in cc
    by false e = refl

prefix-others : (p : ℕ → Bool) (bs : List ℕ) → p 10 ≡ false → OnOneLine (take (prefix_len p bs) bs)
prefix-others p [] fails = refl
prefix-others p (b ∷ bs) fails = by (p b) refl (prefix-others p bs fails)
  where
    one : suc (prefix_len p bs) ≡ 1 + prefix_len p bs
    one = omega arith

    by : (passes : Bool) → p b ≡ passes → OnOneLine (take (prefix_len p bs) bs) →
        OnOneLine (take (cond passes (1 + prefix_len p bs) 0) (b ∷ bs))
    by true e later =
        subst (λ n. OnOneLine (take n (b ∷ bs))) one
        (others-behind b (take (prefix_len p bs) bs) (other-of p b fails e) later)
    by false e later = refl

-- a sign, and the second of two
other-sign : (b : ℕ) → class_of b ≡ sign_class → is_line_end b ≡ false
other-sign b class = by (b == 10) refl
  where
    by : (end : Bool) → (b == 10) ≡ end → end ≡ false
    by true e = let same : class_of b ≡ blank_class = ap class_of (eqb-true b 10 e) in cc
    by false e = refl

abbrev second_other : List ℕ → Bool
second_other [] = false
second_other (b ∷ []) = false
second_other (b ∷ c ∷ cs) = not (is_line_end c)

other-second : (b c : ℕ) → is_double_sign b c ≡ true → is_line_end c ≡ false
other-second b c double = by (is_line_end c) refl
  where
    signs : List (List ℕ)
    signs = codes "->" ∷ codes "==" ∷ codes "!=" ∷ codes "<=" ∷ codes ">=" ∷ codes "&&" ∷ codes "||" ∷ []

    by : (end : Bool) → is_line_end c ≡ end → end ≡ false
    by true e = let none : is_double_sign b c ≡ false = any-none second_other (b ∷ c ∷ []) signs refl (ap not e) in cc
    by false e = refl

token-first : (b len : ℕ) (bs : List ℕ) → piece_of (class_of b) b bs ≡ token (take (suc len) (b ∷ bs)) →
    OnOneLine (take (suc len) (b ∷ bs)) → len ≤ length bs → IsFirstToken (suc len) (b ∷ bs)
token-first b len bs e one few line =
    of_piece line b bs (token (take (suc len) (b ∷ bs))) e
    ∙ ap (λ n. record { text = take (suc len) (b ∷ bs); line = reported_number line }
    ∷ tokens_from n (line_after b line) bs) (omega (arith, few, length-take len bs))
    ∙ ap (λ ts. record { text = take (suc len) (b ∷ bs); line = reported_number line } ∷ ts) behind
  where
    behind : tokens_from (suc len) line (b ∷ bs) ≡ tokens_from 0 line (drop (suc len) (b ∷ bs))
    behind = tokens-behind-line (suc len) line (b ∷ bs) one (omega (arith, few))

comment-by : (m n : ℕ) (bytes : List ℕ) → m ≡ n → IsPiece (Comment m) bytes → IsPiece (Comment n) bytes
comment-by m n bytes e piece = subst (λ k. IsPiece (Comment k) bytes) e piece

token-of : (len n b : ℕ) (bs : List ℕ) → suc len ≡ n → piece_of (class_of b) b bs ≡ token (take (suc len) (b ∷ bs)) →
    OnOneLine (take (suc len) (b ∷ bs)) → len ≤ length bs → IsPiece (Token n) (b ∷ bs)
token-of len n b bs e piece one few =
    subst (λ k. IsPiece (Token k) (b ∷ bs)) e (omega arith, omega (arith, few), token-first b len bs piece one few)

-- a byte that is blank
pub blank-piece : (b : ℕ) (bs : List ℕ) → true ≡ is_white_space b → IsPiece Blank (b ∷ bs)
blank-piece b bs white line = of_piece line b bs blank (rw (sym white) refl) ∙ tokens-behind 1 line (b ∷ bs) (omega arith)

pub comment-fits : (len : ℕ) (cs : List ℕ) → Some len ≡ comment_end cs → len ≤ length cs
comment-fits len cs end = comment_end-le cs len (sym end)

-- a comment
pub comment-piece : (b c len : ℕ) (cs : List ℕ) → class_of b ≡ sign_class → true ≡ ((b == 47) && (c == 42)) →
    Some len ≡ comment_end cs → IsPiece (Comment (2 + len)) (b ∷ c ∷ cs)
comment-piece b c len cs class opens end =
    comment-by (suc (suc len)) (2 + len) (b ∷ c ∷ cs) (omega arith) (omega arith, omega (arith, comment-fits len cs end), skip)
  where
    one : 1 + len ≡ suc len
    one = omega arith

    skip : IsSkipped (suc (suc len)) (b ∷ c ∷ cs)
    skip line =
        of_piece line b (c ∷ cs) (comment (suc len)) (rw (class, sym opens, sym end) (ap comment one))
        ∙ tokens-behind (suc (suc len)) line (b ∷ c ∷ cs) (omega (arith, comment-fits len cs end))

-- a comment without its end
pub open-comment-piece : (b c : ℕ) (cs : List ℕ) → class_of b ≡ sign_class → true ≡ ((b == 47) && (c == 42)) →
    None ≡ comment_end cs → IsPiece (Token 2) (b ∷ c ∷ cs)
open-comment-piece b c cs class opens end =
    token-of 1 2 b (c ∷ cs) refl (rw (class, sym opens, sym end) (ap token signs))
    (others-behind b (c ∷ []) (other-sign b class) star) (omega arith)
  where
    star : OnOneLine (c ∷ [])
    star = others-behind c [] (ap is_line_end (eqb-true c 42 (and_parts (b == 47) (c == 42) (sym opens)).1)) refl

    signs : codes "/*" ≡ b ∷ c ∷ []
    signs = rw (eqb-true b 47 (and_parts (b == 47) (c == 42) (sym opens)).0, eqb-true c 42 (and_parts (b == 47) (c == 42) (sym opens)).1) refl

-- a word, a number, and signs
pub word-piece : (b n : ℕ) (bs : List ℕ) → false ≡ is_white_space b → true ≡ is_word_start b →
    n ≡ prefix_len is_word_byte bs → IsPiece (Token (1 + n)) (b ∷ bs)
word-piece b n bs white start e =
    token-of (prefix_len is_word_byte bs) (1 + n) b bs (omega (arith, e)) (rw (sym white, sym start) refl)
    (others-behind b (take (prefix_len is_word_byte bs) bs) (other-of is_word_start b refl (sym start))
    (prefix-others is_word_byte bs refl))
    (prefix_len-le-length is_word_byte bs)

pub number-piece : (b n : ℕ) (bs : List ℕ) → false ≡ is_white_space b → false ≡ is_word_start b →
    true ≡ is_ascii_digit b → n ≡ prefix_len is_ascii_digit bs → IsPiece (Token (1 + n)) (b ∷ bs)
number-piece b n bs white start digit e =
    token-of (prefix_len is_ascii_digit bs) (1 + n) b bs (omega (arith, e)) (rw (sym white, sym start, sym digit) refl)
    (others-behind b (take (prefix_len is_ascii_digit bs) bs) (other-of is_ascii_digit b refl (sym digit))
    (prefix-others is_ascii_digit bs refl))
    (prefix_len-le-length is_ascii_digit bs)

pub double-piece : (b c : ℕ) (cs : List ℕ) → class_of b ≡ sign_class → false ≡ ((b == 47) && (c == 42)) →
    true ≡ is_double_sign b c → IsPiece (Token 2) (b ∷ c ∷ cs)
double-piece b c cs class other double =
    token-of 1 2 b (c ∷ cs) refl (rw (class, sym other, sym double) refl)
    (others-behind b (c ∷ []) (other-sign b class) (others-behind c [] (other-second b c (sym double)) refl)) (omega arith)

pub sign-piece : (b c : ℕ) (cs : List ℕ) → class_of b ≡ sign_class → false ≡ ((b == 47) && (c == 42)) →
    false ≡ is_double_sign b c → IsPiece (Token 1) (b ∷ c ∷ cs)
sign-piece b c cs class other double =
    token-of 0 1 b (c ∷ cs) refl (rw (class, sym other, sym double) refl) (others-behind b [] (other-sign b class) refl) (omega arith)
