-- Tokens after bytes that are skipped, and the lines that can be reported.
use Rattle.std.proofs.Common.{◌≡◌, refl, sym, ◌∙◌, subst, ℕ, zero, suc, ◌+◌, ◌-◌, ◌≤◌, ◌<◌, Bool, true, false, not, ◌==◌, ◌&&◌, if◌then◌else◌, min, List, [], ◌∷◌, length, drop, take, arith}
use Rattle.std.specs.List.{list_all}
use Rattle.base_core.specs.Numbers.{reported_number}
use Rattle.c_grammar.specs.Tokens.{Token, Piece, blank, comment, token, class_of, piece_of, piece_tokens, line_after, tokens_from, is_line_end}
use Rattle.c_tokens.specs.Lines.{line_behind}
use Rattle.c_tokens.specs.Pieces.{IsFirstToken}

abbrev Same : ℕ → ℕ → Type 0
Same a b = reported_number a ≡ reported_number b

next-same : (a b : ℕ) → Same a b → Same (a + 1) (b + 1)
next-same a b e = by (min a 4294967295) e
  where
    by : (m : ℕ) → min a 4294967295 ≡ min b 4294967295 → Same (a + 1) (b + 1)
    by m k = omega (arith, k)

same-after : (b line other : ℕ) → Same line other → Same (line_after b line) (line_after b other)
same-after b line other e = by (b == 10)
  where
    by : (c : Bool) → Same (if c then line + 1 else line) (if c then other + 1 else other)
    by true = next-same line other e
    by false = e

pub told-once : (n : ℕ) → Same n (reported_number n)
told-once n = omega arith

pub told : (line : ℕ) → line < 4294967296 → reported_number line ≡ line
told line h = omega (arith, h)

-- tokens are the same where lines are reported the same
pub tokens-same : (skip a b : ℕ) (bytes : List ℕ) → Same a b → tokens_from skip a bytes ≡ tokens_from skip b bytes
tokens-same skip a b [] e = refl
tokens-same zero a b (c ∷ bytes) e =
    by (piece_of (class_of c) c bytes)
    (λ more. tokens-same more (line_after c a) (line_after c b) bytes (same-after c a b e))
  where
    by : (p : Piece) →
        ((more : ℕ) → tokens_from more (line_after c a) bytes ≡ tokens_from more (line_after c b) bytes) →
        piece_tokens p a (λ more. tokens_from more (line_after c a) bytes)
        ≡ piece_tokens p b (λ more. tokens_from more (line_after c b) bytes)
    by blank later = later 0
    by (comment more) later = later more
    by (token text) later = λ i. record { text = text; line = e i } ∷ later (length text - 1) i
tokens-same (suc skip) a b (c ∷ bytes) e = tokens-same skip (line_after c a) (line_after c b) bytes (same-after c a b e)

-- bytes that are skipped
pub tokens-behind : (skip line : ℕ) (bytes : List ℕ) → skip ≤ length bytes →
    tokens_from skip line bytes ≡ tokens_from 0 (line_behind line (take skip bytes)) (drop skip bytes)
tokens-behind zero line bytes few = refl
tokens-behind (suc skip) line [] few = absurd (omega (arith, few))
tokens-behind (suc skip) line (c ∷ bytes) few =
    tokens-same skip (line_after c line) (reported_number (line_after c line)) bytes (told-once (line_after c line))
    ∙ tokens-behind skip (reported_number (line_after c line)) bytes (omega (arith, few))

-- bytes that end no line
abbrev pub OnOneLine : List ℕ → Type 0
OnOneLine bytes = list_all (λ b. not (is_line_end b)) bytes ≡ true

-- tokens after them
pub tokens-behind-line : (skip line : ℕ) (bytes : List ℕ) →
    OnOneLine (take skip bytes) → skip ≤ length bytes → tokens_from skip line bytes ≡ tokens_from 0 line (drop skip bytes)
tokens-behind-line zero line bytes one few = refl
tokens-behind-line (suc skip) line [] one few = absurd (omega (arith, few))
tokens-behind-line (suc skip) line (c ∷ bytes) one few = by (c == 10) one (λ k. tokens-behind-line skip line bytes k (omega (arith, few)))
  where
    by : (end : Bool) → (not end && list_all (λ b. not (is_line_end b)) (take skip bytes)) ≡ true →
        (OnOneLine (take skip bytes) → tokens_from skip line bytes ≡ tokens_from 0 line (drop skip bytes)) →
        tokens_from skip (if end then line + 1 else line) bytes ≡ tokens_from 0 line (drop skip bytes)
    by true k later = cc
    by false k later = later k

-- the first token of a text, and the tokens after it
pub first-token : {self : List Token} (line len first : ℕ) (bytes behind text rest : List ℕ) →
    tokens_from 0 line bytes ≡ self → bytes ≡ first ∷ behind → IsFirstToken len (first ∷ behind) → text ≡ take len bytes →
    rest ≡ drop len bytes → line < 4294967296 → {tokens : List Token} → tokens ≡ tokens_from 0 line rest →
    self ≡ record { text = text; line = line } ∷ tokens
first-token {self} line len first bytes behind text rest is list there front back fits {tokens} later =
    sym is ∙ subst (λ bs. IsFirstToken len bs) (sym list) there line ∙ rw (sym front, sym back, sym later, told line fits) refl
