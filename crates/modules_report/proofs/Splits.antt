-- The words of a line are those that it was made of.
use Rattle.std.proofs.Common.{◌≡◌, ℕ, ◌<◌, ◌==◌, Bool, false, not, cond, List, [], ◌∷◌, ◌++◌, refl, ap, ◌∙◌, append-nil, arith}
use Rattle.std.specs.List.{AllByRecursion, slice_split, take_while}
use Rattle.std.proofs.lemmas.Bool.{eq-eqb, ne_eqb}
use Rattle.std.proofs.lemmas.List.Splits.{slice_split_at, slice_split_none}
use Rattle.std.proofs.lemmas.List.Sums.{take_while-cons}
use Rattle.modules_report.specs.Texts.{spaced}
use Rattle.modules_report.proofs.Cuts.{AreWords, IsWord}
use Rattle.modules_report.proofs.SameNeeds.{at-each}

-- no byte is a line's end
abbrev pub IsPlain : List ℕ → Type 0
IsPlain = AllByRecursion (λ b. 10 < b)

pub line_taken : (line x : List ℕ) → IsPlain line → take_while (λ b. not (b == 10)) (line ++ 10 ∷ x) ≡ line
line_taken [] x a = take_while-cons (λ b. not (b == 10)) 10 x
line_taken (b ∷ line) x a =
    take_while-cons (λ b. not (b == 10)) b (line ++ 10 ∷ x)
    ∙ ap (λ (t : Bool). cond (not t) (b ∷ take_while (λ b. not (b == 10)) (line ++ 10 ∷ x)) [])
    (ne_eqb b 10 (λ same. (let above = a.0 in omega (arith, same, above))))
    ∙ ap (λ (t : List ℕ). b ∷ t) (line_taken line x a.1)

-- ---- Lines of words

plain-word : (word : List ℕ) → IsWord word → IsPlain word
plain-word [] a = tt
plain-word (b ∷ word) a = ((let above = a.0 in omega (arith, above)), plain-word word a.1)

pub plain-append : (a b : List ℕ) → IsPlain a → IsPlain b → IsPlain (a ++ b)
plain-append [] b p q = q
plain-append (c ∷ a) b p q = (p.0, plain-append a b p.1 q)

pub plain-spaced : (words : List (List ℕ)) → AreWords words → IsPlain (spaced words)
plain-spaced [] a = tt
plain-spaced (w ∷ words) a = (omega arith, plain-append w (spaced words) (plain-word w a.0) (plain-spaced words a.1))

pub plain-words : (first : List ℕ) (words : List (List ℕ)) → IsWord first → AreWords words → IsPlain (first ++ spaced words)
plain-words first words f a = plain-append first (spaced words) (plain-word first f) (plain-spaced words a)

not-blank : (word : List ℕ) → IsWord word → AllByRecursion (λ b. (b == 32) ≡ false) word
not-blank [] a = tt
not-blank (b ∷ word) a = (ne_eqb b 32 (λ same. (let above = a.0 in omega (arith, same, above))), not-blank word a.1)

pub words_split : (first : List ℕ) (words : List (List ℕ)) → IsWord first → AreWords words →
    slice_split (λ b. b == 32) (first ++ spaced words) ≡ first ∷ words
words_split first [] f a =
    ap (slice_split (λ b. b == 32)) (append-nil first)
    ∙ slice_split_none (λ b. b == 32) first (λ k d h. at-each (λ b. (b == 32) ≡ false) first k d (not-blank first f) h)
words_split first (w ∷ words) f a =
    slice_split_at (λ b. b == 32) first 32 (w ++ spaced words) (λ k d h. at-each (λ b. (b == 32) ≡ false) first k d (not-blank first f) h)
    (eq-eqb 32 32 refl)
    ∙ ap (λ (ws : List (List ℕ)). first ∷ ws) (words_split w words a.0 a.1)

-- the words of the first line of a text that begins with words
pub first_words : (first : List ℕ) (words : List (List ℕ)) (text x : List ℕ) → IsWord first → AreWords words →
    text ≡ first ++ spaced words ++ 10 ∷ x →
    slice_split (λ b. b == 32) (take_while (λ b. not (b == 10)) text) ≡ first ∷ words
first_words first words text x f a e =
    ap (λ (t : List ℕ). slice_split (λ b. b == 32) (take_while (λ b. not (b == 10)) t)) e
    ∙ ap (slice_split (λ b. b == 32)) (line_taken (first ++ spaced words) x (plain-words first words f a))
    ∙ words_split first words f a
