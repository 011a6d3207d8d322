-- Tokens after a piece, and lines as they are reported.
use Rattle.std.proofs.Common.{◌≡◌, refl, sym, ◌∙◌, ap, subst, ℕ, zero, suc, ◌+◌, ◌-◌, ◌≤◌, ◌<◌, Bool, true, false, not, ◌==◌, ◌&&◌, ◌||◌, if◌then◌else◌, min, List, [], ◌∷◌, length, length-take, drop, take, take_while, bytes_eq, lit<, arith}
use Rattle.std.specs.List.{list_all, prefix_len}
use Rattle.std.specs.Char.{is_ascii_digit}
use Rattle.std.proofs.lemmas.Bool.{eqb-true}
use Rattle.std.proofs.lemmas.Slice.Eq.{bytes_eq-Decides}
use Rattle.base_core.specs.Numbers.{reported_number}
use Rattle.c_syntax.specs.Names.{is_word_start, is_word_byte}
use Rattle.c_grammar.specs.Tokens.{Token, ByteClass, blank_class, word_class, digit_class, sign_class, class_of, Piece, blank, comment, token, piece_tokens, line_after, is_line_end}
use Rattle.lustre_grammar.specs.Tokens.{is_double_sign, piece_of, tokens_from}
use Rattle.lustre_tokens.specs.declared.bytes.Piece.TheVariants as pieces
use Rattle.lustre_tokens.specs.Pieces.{IsPiece}

-- lines that are reported as one
abbrev Same : ℕ → ℕ → Type 0
Same a b = reported_number a ≡ reported_number b

next-same : (a b : ℕ) → Same a b → Same (a + 1) (b + 1)
next-same a b e = by (min a 4294967295) e
  where
    by : (m : ℕ) → min a 4294967295 ≡ min b 4294967295 → Same (a + 1) (b + 1)
    by m k = omega (arith, k)

after-same : (b line other : ℕ) → Same line other → Same (line_after b line) (line_after b other)
after-same b line other e = by (b == 10)
  where
    by : (c : Bool) → Same (if c then line + 1 else line) (if c then other + 1 else other)
    by true = next-same line other e
    by false = e

reported-once : (n : ℕ) → Same n (reported_number n)
reported-once n = omega arith

tokens-same : (skip a b : ℕ) (bytes : List ℕ) → Same a b → tokens_from skip a bytes ≡ tokens_from skip b bytes
tokens-same skip a b [] e = refl
tokens-same zero a b (c ∷ bytes) e =
    by (piece_of (class_of c) c bytes) (λ more. tokens-same more (line_after c a) (line_after c b) bytes (after-same c a b e))
  where
    by : (p : Piece) →
        ((more : ℕ) → tokens_from more (line_after c a) bytes ≡ tokens_from more (line_after c b) bytes) →
        piece_tokens p a (λ more. tokens_from more (line_after c a) bytes)
        ≡ piece_tokens p b (λ more. tokens_from more (line_after c b) bytes)
    by blank later = later 0
    by (comment more) later = later more
    by (token text) later = λ i. record { text = text; line = e i } ∷ later (length text - 1) i
tokens-same (suc skip) a b (c ∷ bytes) e = tokens-same skip (line_after c a) (line_after c b) bytes (after-same c a b e)

-- bytes that end no line
abbrev OnOneLine : List ℕ → Type 0
OnOneLine bytes = list_all (λ b. not (is_line_end b)) bytes ≡ true

one-more : (b : ℕ) (bs : List ℕ) → is_line_end b ≡ false → OnOneLine bs → OnOneLine (b ∷ bs)
one-more b bs other one = by (is_line_end b) other
  where
    by : (end : Bool) → end ≡ false → (not end && list_all (λ c. not (is_line_end c)) bs) ≡ true
    by true e = cc
    by false e = one

-- what passes a test that no line end passes
passes-other : (p : ℕ → Bool) (b : ℕ) → p 10 ≡ false → p b ≡ true → is_line_end b ≡ false
passes-other p b fails passes = by (b == 10) refl
  where
    by : (end : Bool) → (b == 10) ≡ end → end ≡ false
    by true e = let same : p b ≡ p 10 = ap p (eqb-true b 10 e) in cc
    by false e = refl

prefix-others : (p : ℕ → Bool) (bs : List ℕ) → p 10 ≡ false → OnOneLine (take_while p bs)
prefix-others p [] fails = refl
prefix-others p (b ∷ bs) fails = by (p b) refl (prefix-others p bs fails)
  where
    one : suc (prefix_len p bs) ≡ 1 + prefix_len p bs
    one = omega arith

    by : (passes : Bool) → p b ≡ passes → OnOneLine (take_while p bs) →
        OnOneLine (take (if passes then 1 + prefix_len p bs else 0) (b ∷ bs))
    by true e later =
        subst (λ n. OnOneLine (take n (b ∷ bs))) one (one-more b (take_while p bs) (passes-other p b fails e) later)
    by false e later = refl

-- bytes of tokens end no line
abbrev unblank : ByteClass → Bool
unblank blank_class = false
unblank word_class = true
unblank digit_class = true
unblank sign_class = true

token-other : (b : ℕ) (class : ByteClass) → class_of b ≡ class → unblank class ≡ true → is_line_end b ≡ false
token-other b class is kept = by (b == 10) refl
  where
    by : (end : Bool) → (b == 10) ≡ end → end ≡ false
    by true e = let wrong : true ≡ false = sym kept ∙ ap unblank (sym is ∙ ap class_of (eqb-true b 10 e)) in cc
    by false e = refl

signs-apart : (b c d e : ℕ) → c ≡ 10 → 10 < e → bytes_eq (b ∷ c ∷ []) (d ∷ e ∷ []) ≡ false
signs-apart b c d e end above = by (bytes_eq (b ∷ c ∷ []) (d ∷ e ∷ [])) refl
  where
    by : (same : Bool) → bytes_eq (b ∷ c ∷ []) (d ∷ e ∷ []) ≡ same → same ≡ false
    by true k =
        let second : c ≡ e = cc ((bytes_eq-Decides (b ∷ c ∷ []) (d ∷ e ∷ [])).0 k) in
        absurd (omega (arith, second, end, above))
    by false k = refl

second-other : (b c : ℕ) → is_double_sign b c ≡ true → is_line_end c ≡ false
second-other b c double = by (c == 10) refl
  where
    none : c ≡ 10 → is_double_sign b c ≡ false
    none e i =
        signs-apart b c 45 62 e (lit< tt) i || (signs-apart b c 60 62 e (lit< tt) i
        || (signs-apart b c 60 61 e (lit< tt) i || (signs-apart b c 62 61 e (lit< tt) i || false)))

    by : (end : Bool) → (c == 10) ≡ end → end ≡ false
    by true e = let wrong : true ≡ false = sym double ∙ none (eqb-true c 10 e) in cc
    by false e = refl

abbrev text_of : Piece → List ℕ
text_of blank = []
text_of (comment more) = []
text_of (token text) = text

token-line : (class : ByteClass) (b : ℕ) (bs text : List ℕ) → class_of b ≡ class → piece_of class b bs ≡ token text → OnOneLine text
token-line blank_class b bs text is e = cc e
token-line word_class b bs text is e =
    subst OnOneLine (ap text_of e)
    (one-more b (take_while is_word_byte bs) (token-other b word_class is refl) (prefix-others is_word_byte bs refl))
token-line digit_class b bs text is e =
    subst OnOneLine (ap text_of e)
    (one-more b (take_while is_ascii_digit bs) (token-other b digit_class is refl) (prefix-others is_ascii_digit bs refl))
token-line sign_class b [] text is e = subst OnOneLine (ap text_of e) (one-more b [] (token-other b sign_class is refl) refl)
token-line sign_class b (c ∷ cs) text is e = subst OnOneLine (ap text_of e) (by (is_double_sign b c) refl)
  where
    first : is_line_end b ≡ false
    first = token-other b sign_class is refl

    by : (double : Bool) → is_double_sign b c ≡ double → OnOneLine (if double then b ∷ c ∷ [] else b ∷ [])
    by true k = one-more b (c ∷ []) first (one-more c [] (second-other b c k) refl)
    by false k = one-more b [] first refl

-- tokens after bytes that end no line
tokens-after : (skip line : ℕ) (bytes : List ℕ) → OnOneLine (take skip bytes) → skip ≤ length bytes →
    tokens_from skip line bytes ≡ tokens_from 0 line (drop skip bytes)
tokens-after zero line bytes one few = refl
tokens-after (suc skip) line [] one few = absurd (omega (arith, few))
tokens-after (suc skip) line (c ∷ bytes) one few =
    by (c == 10) one (λ k. tokens-after skip line bytes k (omega (arith, few)))
  where
    by : (end : Bool) → (not end && list_all (λ b. not (is_line_end b)) (take skip bytes)) ≡ true →
        (OnOneLine (take skip bytes) → tokens_from skip line bytes ≡ tokens_from 0 line (drop skip bytes)) →
        tokens_from skip (if end then line + 1 else line) bytes ≡ tokens_from 0 line (drop skip bytes)
    by true k later = cc
    by false k later = later k

-- the tokens that begin with one
token-begins : (n b line : ℕ) (bs : List ℕ) → n ≤ length bs →
    piece_of (class_of b) b bs ≡ token (take (suc n) (b ∷ bs)) →
    tokens_from 0 line (b ∷ bs)
    ≡ record { text = take (suc n) (b ∷ bs); line = reported_number line } ∷ tokens_from 0 line (drop (suc n) (b ∷ bs))
token-begins n b line bs few piece =
    ap (λ p. piece_tokens p line (λ more. tokens_from more (line_after b line) bs)) piece
    ∙ ap (λ k. record { text = take (suc n) (b ∷ bs); line = reported_number line } ∷ tokens_from k (line_after b line) bs)
    (omega (arith, few, length-take n bs))
    ∙ ap (λ ts. record { text = take (suc n) (b ∷ bs); line = reported_number line } ∷ ts) after
  where
    after : tokens_from (suc n) line (b ∷ bs) ≡ tokens_from 0 line (drop (suc n) (b ∷ bs))
    after =
        tokens-after (suc n) line (b ∷ bs) (token-line (class_of b) b bs (take (suc n) (b ∷ bs)) refl piece)
        (omega (arith, few))

pub first-token : {self : List Token} (line len first : ℕ) (bytes after text rest : List ℕ) →
    tokens_from 0 line bytes ≡ self → bytes ≡ first ∷ after → IsPiece (pieces.Token len) first after →
    text ≡ take len bytes → rest ≡ drop len bytes → line < 4294967296 → {tokens : List Token} →
    tokens ≡ tokens_from 0 line rest → self ≡ record { text = text; line = line } ∷ tokens
first-token {self} line zero first bytes after text rest is list piece front back fits {tokens} later =
    absurd (omega (arith, piece.0))
first-token {self} line (suc n) first bytes after text rest is list piece front back fits {tokens} later =
    sym is ∙ ap (tokens_from 0 line) list ∙ token-begins n first line after (omega (arith, piece.1)) piece.2
    ∙ (λ i. record { text = sym same_text i; line = reported i } ∷ sym same_tokens i)
  where
    same_text : text ≡ take (suc n) (first ∷ after)
    same_text = front ∙ ap (take (suc n)) list

    same_tokens : tokens ≡ tokens_from 0 line (drop (suc n) (first ∷ after))
    same_tokens = later ∙ ap (tokens_from 0 line) (back ∙ ap (drop (suc n)) list)

    reported : reported_number line ≡ line
    reported = omega (arith, fits)

-- the tokens after a blank
pub after_blank : {self : List Token} (line next first : ℕ) (bytes after : List ℕ) → tokens_from 0 line bytes ≡ self →
    bytes ≡ first ∷ after → IsPiece pieces.Blank first after → next ≡ reported_number (line_after first line) →
    tokens_from 0 next after ≡ self
after_blank {self} line next first bytes after is list piece next_is =
    ap (λ n. tokens_from 0 n after) next_is
    ∙ sym (tokens-same 0 (line_after first line) (reported_number (line_after first line)) after (reported-once (line_after first line)))
    ∙ sym (ap (λ p. piece_tokens p line (λ more. tokens_from more (line_after first line) after)) piece)
    ∙ sym (ap (tokens_from 0 line) list) ∙ is
