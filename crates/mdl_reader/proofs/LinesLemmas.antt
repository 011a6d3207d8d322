-- The splitting crate's lines of some bytes are std's.
use Rattle.std.proofs.Common.{◌≡◌, refl, sym, ◌∙◌, ap, ℕ, suc, ◌-◌, Bool, true, false, cond, List, [], ◌∷◌, ◌++◌, length, take, drop, ◌==◌, ◌&&◌, arith, length-append, take_at, ne_eqb}
use Rattle.std.proofs.lemmas.Bool.{eqb-true, lt-ltb}
use Rattle.std.proofs.lemmas.List.{get_or_at}
use Rattle.std.specs.Prelude.{⊤, map, nat_lt, slice_index}
use Rattle.std.specs.List.{slice_split, onto_first}
use Rattle.std.specs.Str.Lines.{lines, lines_of_parts, strip_carriage_return}
use Rattle.bstr.specs.Text.{line_len, lines_of, no_cr, without_terminator}
use Rattle.bstr.proofs.lemmas.LineLemmas.{lines-step, lines-nil}

abbrev is_feed : ℕ → Bool
is_feed b = b == 10

-- a list of one part, or none where that is empty
abbrev if_some : List ℕ → List (List ℕ)
if_some [] = []
if_some (b ∷ bs) = (b ∷ bs) ∷ []

-- the parts between line feeds, each but the last with the line feed after it
abbrev ended : List (List ℕ) → List (List ℕ)
ended [] = []
ended (x ∷ []) = if_some x
ended (x ∷ y ∷ more) = (x ++ 10 ∷ []) ∷ ended (y ∷ more)

-- ---- One byte more in front

-- a line feed is a line of its own
lines_of-feed : (rest : List ℕ) → lines_of (10 ∷ rest) ≡ (10 ∷ []) ∷ lines_of rest
unfolding line_len
lines_of-feed rest = lines-step (10 ∷ rest) (omega arith)

-- another byte is the first of the first line
lines_of-other : (b : ℕ) (rest : List ℕ) → is_feed b ≡ false → lines_of (b ∷ rest) ≡ onto_first b (lines_of rest)
unfolding line_len
lines_of-other b [] other =
    lines-step (b ∷ []) (omega arith)
    ∙ ap (λ n. take n (b ∷ []) ∷ lines_of (drop n (b ∷ []))) (ap (λ t. cond t 1 1) other)
    ∙ ap (λ ls. (b ∷ []) ∷ ls) lines-nil ∙ sym (ap (onto_first b) lines-nil)
lines_of-other b (c ∷ rest) other =
    lines-step (b ∷ c ∷ rest) (omega arith)
    ∙ ap (λ n. take n (b ∷ c ∷ rest) ∷ lines_of (drop n (b ∷ c ∷ rest))) (ap (λ t. cond t 1 (suc (line_len (c ∷ rest)))) other)
    ∙ sym (ap (onto_first b) (lines-step (c ∷ rest) (omega arith)))

-- there is always a part
abbrev IsSome : List (List ℕ) → Type 0
IsSome [] = ⊥
IsSome (x ∷ more) = ⊤

onto_first-some : (b : ℕ) (parts : List (List ℕ)) → IsSome (onto_first b parts)
onto_first-some b [] = tt
onto_first-some b (x ∷ more) = tt

parts-some : (bytes : List ℕ) → IsSome (slice_split is_feed bytes)
parts-some [] = tt
parts-some (b ∷ rest) = by_test (is_feed b)
  where
    by_test : (t : Bool) → IsSome (cond t ([] ∷ slice_split is_feed rest) (onto_first b (slice_split is_feed rest)))
    by_test true = tt
    by_test false = onto_first-some b (slice_split is_feed rest)

ended-feed : (parts : List (List ℕ)) → IsSome parts → ended ([] ∷ parts) ≡ (10 ∷ []) ∷ ended parts
ended-feed [] some = absurd some
ended-feed (x ∷ more) some = refl

ended-other : (b : ℕ) (parts : List (List ℕ)) → ended (onto_first b parts) ≡ onto_first b (ended parts)
ended-other b [] = refl
ended-other b ([] ∷ []) = refl
ended-other b ((c ∷ x) ∷ []) = refl
ended-other b (x ∷ y ∷ more) = refl

lines_of-parts : (bytes : List ℕ) → lines_of bytes ≡ ended (slice_split is_feed bytes)
lines_of-parts [] = lines-nil
lines_of-parts (b ∷ rest) = by_test (lines_of-parts rest) (is_feed b) refl
  where
    by_test : lines_of rest ≡ ended (slice_split is_feed rest) → (t : Bool) → is_feed b ≡ t →
        lines_of (b ∷ rest) ≡ ended (cond t ([] ∷ slice_split is_feed rest) (onto_first b (slice_split is_feed rest)))
    by_test same true feed =
        ap (λ c. lines_of (c ∷ rest)) (eqb-true b 10 feed) ∙ lines_of-feed rest
        ∙ ap (λ ls. (10 ∷ []) ∷ ls) same ∙ sym (ended-feed _ (parts-some rest))
    by_test same false other =
        lines_of-other b rest other ∙ ap (onto_first b) same ∙ sym (ended-other b (slice_split is_feed rest))

-- ---- Without the ends of the lines

-- the last part doesn't end with a line feed
abbrev IsClean : List (List ℕ) → Type 0
IsClean [] = ⊤
IsClean (x ∷ []) = is_feed (slice_index x (length x - 1)) ≡ false
IsClean (x ∷ y ∷ more) = IsClean (y ∷ more)

clean-feed : (parts : List (List ℕ)) → IsClean parts → IsClean ([] ∷ parts)
clean-feed [] clean = refl
clean-feed (x ∷ more) clean = clean

last_index : (b c : ℕ) (x : List ℕ) → slice_index (b ∷ c ∷ x) (length (b ∷ c ∷ x) - 1) ≡ slice_index (c ∷ x) (length (c ∷ x) - 1)
last_index b c x = ap (slice_index (b ∷ c ∷ x)) (one_less (length x))
  where
    one_less : (n : ℕ) → suc (suc n) - 1 ≡ suc (suc n - 1)
    one_less n = omega arith

clean-other : (b : ℕ) (parts : List (List ℕ)) → is_feed b ≡ false → IsClean parts → IsClean (onto_first b parts)
clean-other b [] other clean = other
clean-other b ([] ∷ []) other clean = other
clean-other b ((c ∷ x) ∷ []) other clean = ap is_feed (last_index b c x) ∙ clean
clean-other b (x ∷ y ∷ more) other clean = clean

parts-clean : (bytes : List ℕ) → IsClean (slice_split is_feed bytes)
parts-clean [] = refl
parts-clean (b ∷ rest) = by_test (parts-clean rest) (is_feed b) refl
  where
    by_test : IsClean (slice_split is_feed rest) → (t : Bool) → is_feed b ≡ t →
        IsClean (cond t ([] ∷ slice_split is_feed rest) (onto_first b (slice_split is_feed rest)))
    by_test clean true feed = clean-feed (slice_split is_feed rest) clean
    by_test clean false other = clean-other b (slice_split is_feed rest) other clean

-- a list with a first element has a length above 0
has_some : (c : ℕ) (x : List ℕ) → nat_lt 0 (length (c ∷ x)) ≡ true
has_some c x = lt-ltb 0 (length (c ∷ x)) (omega arith)

no_cr-is : (x : List ℕ) → no_cr x ≡ strip_carriage_return x
no_cr-is [] = refl
no_cr-is (c ∷ x) =
    ap (λ t. cond (t && slice_index (c ∷ x) (length (c ∷ x) - 1) == 13) (take (length (c ∷ x) - 1) (c ∷ x)) (c ∷ x)) (has_some c x)

all_but_last : (x : List ℕ) → length (x ++ 10 ∷ []) - 1 ≡ length x
all_but_last x = omega (arith, length-append x (10 ∷ []))

without_terminator-feed : (x : List ℕ) → without_terminator (x ++ 10 ∷ []) ≡ strip_carriage_return x
without_terminator-feed x =
    ap (λ n. cond (nat_lt 0 (length (x ++ 10 ∷ [])) && slice_index (x ++ 10 ∷ []) n == 10)
    (no_cr (take n (x ++ 10 ∷ []))) (x ++ 10 ∷ [])) (all_but_last x)
    ∙ ap (λ n. cond (nat_lt 0 n && slice_index (x ++ 10 ∷ []) (length x) == 10) (no_cr (take (length x) (x ++ 10 ∷ [])))
    (x ++ 10 ∷ [])) (one_more x)
    ∙ ap (λ c. cond (nat_lt 0 (suc (length x)) && c == 10) (no_cr (take (length x) (x ++ 10 ∷ []))) (x ++ 10 ∷ []))
    (get_or_at x 10 [] 0 (length x) refl)
    ∙ ap (λ t. cond (t && true) (no_cr (take (length x) (x ++ 10 ∷ []))) (x ++ 10 ∷ [])) (lt-ltb 0 (suc (length x)) (omega arith))
    ∙ ap no_cr (take_at x (10 ∷ []) (length x) refl)
    ∙ no_cr-is x
  where
    one_more : (x : List ℕ) → length (x ++ 10 ∷ []) ≡ suc (length x)
    one_more x = omega (arith, length-append x (10 ∷ []))

without_terminator-clean : (c : ℕ) (x : List ℕ) → is_feed (slice_index (c ∷ x) (length (c ∷ x) - 1)) ≡ false →
    without_terminator (c ∷ x) ≡ c ∷ x
without_terminator-clean c x clean =
    ap (λ t. cond (t && is_feed (slice_index (c ∷ x) (length (c ∷ x) - 1))) (no_cr (take (length (c ∷ x) - 1) (c ∷ x)))
    (c ∷ x)) (has_some c x)
    ∙ ap (λ t. cond t (no_cr (take (length (c ∷ x) - 1) (c ∷ x))) (c ∷ x)) clean

parts-lines : (parts : List (List ℕ)) → IsClean parts → map without_terminator (ended parts) ≡ lines_of_parts parts
parts-lines [] clean = refl
parts-lines ([] ∷ []) clean = refl
parts-lines ((c ∷ x) ∷ []) clean =
    ap (λ l. l ∷ []) (without_terminator-clean c x clean)
    ∙ sym (ap (λ t. cond t [] ((c ∷ x) ∷ [])) (ne_eqb (length (c ∷ x)) 0 (λ e. omega (arith, e))))
parts-lines (x ∷ y ∷ more) clean =
    ap (λ l. l ∷ map without_terminator (ended (y ∷ more))) (without_terminator-feed x)
    ∙ ap (λ ls. strip_carriage_return x ∷ ls) (parts-lines (y ∷ more) clean)

-- the lines without their ends
pub lines_is : (bytes : List ℕ) → map without_terminator (lines_of bytes) ≡ lines bytes
lines_is bytes = ap (map without_terminator) (lines_of-parts bytes) ∙ parts-lines (slice_split is_feed bytes) (parts-clean bytes)
