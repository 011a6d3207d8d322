-- The last line of a text is the line of its last byte.
use Rattle.std.proofs.Common.{◌≡◌, refl, sym, ◌∙◌, ap, ℕ, ◌+◌, ◌<◌, min, Bool, true, false, ◌==◌, if◌then◌else◌, List, [], ◌∷◌, ◌++◌, arith}
use Rattle.base_core.specs.Numbers.{reported_number}
use Rattle.c_grammar.specs.Tokens.{line_after, last_line_from, last_line}
use Rattle.c_tokens.specs.Lines.{line_behind}
use Rattle.c_tokens.proofs.TokenLines.{told-once, told}

next-same : (a b : ℕ) → reported_number a ≡ reported_number b → reported_number (a + 1) ≡ reported_number (b + 1)
next-same a b e = by (min a 4294967295) e
  where
    by : (m : ℕ) → min a 4294967295 ≡ min b 4294967295 → reported_number (a + 1) ≡ reported_number (b + 1)
    by m k = omega (arith, k)

same-after : (c a b : ℕ) → reported_number a ≡ reported_number b → reported_number (line_after c a) ≡ reported_number (line_after c b)
same-after c a b e = by (c == 10)
  where
    by : (t : Bool) → reported_number (if t then a + 1 else a) ≡ reported_number (if t then b + 1 else b)
    by true = next-same a b e
    by false = e

last-same : (a b : ℕ) (bytes : List ℕ) → reported_number a ≡ reported_number b →
    reported_number (last_line_from a bytes) ≡ reported_number (last_line_from b bytes)
last-same a b [] e = e
last-same a b (c ∷ []) e = e
last-same a b (c ∷ d ∷ bytes) e = last-same (line_after c a) (line_after c b) (d ∷ bytes) (same-after c a b e)

last-behind : (line b : ℕ) (front : List ℕ) →
    reported_number (last_line_from line (front ++ b ∷ [])) ≡ reported_number (line_behind line front)
last-behind line b [] = refl
last-behind line b (c ∷ []) = told-once (line_after c line)
last-behind line b (c ∷ d ∷ front) =
    last-same (line_after c line) (reported_number (line_after c line)) (d ∷ (front ++ b ∷ [])) (told-once (line_after c line))
    ∙ last-behind (reported_number (line_after c line)) b (d ∷ front)

-- a text that ends in a byte
pub last-line-is : (bytes front : List ℕ) (b line : ℕ) → bytes ≡ front ++ b ∷ [] → line ≡ line_behind 1 front →
    line < 4294967296 → line ≡ last_line bytes
last-line-is bytes front b line list is fits =
    sym (told line fits) ∙ ap reported_number is ∙ sym (last-behind 1 b front) ∙ ap (λ bs. reported_number (last_line_from 1 bs)) (sym list)
