-- The numbers of functions, each after a space.
use Rattle.std.proofs.Common.{◌≡◌, ℕ, zero, suc, ◌+◌, ◌-◌, ◌<◌, Bool, true, false, cond, List, [], ◌∷◌, ◌++◌, map, filter, refl, sym, ap, ◌∙◌, append-nil, append_assoc, arith}
use Rattle.std.specs.Prelude.{codes, decimal, flat_map}
use Rattle.std.specs.List.{range_with_len, join_with_byte}
use Rattle.std.proofs.lemmas.Grind.{flat_map-append}
use Rattle.std.proofs.lemmas.List.Elements.{filter-append}
use Rattle.base_core.specs.Ports.{has_bit}
use Rattle.tool_script_runner.specs.FaultTexts.{script_line, functions_up_to}

-- each after a space
abbrev pub spaced_numbers : List ℕ → List ℕ
spaced_numbers numbers = flat_map (λ j. 32 ∷ decimal j) numbers

range-more : (a n j : ℕ) → a + n ≡ j → range_with_len a (suc n) ≡ range_with_len a n ++ j ∷ []
range-more a zero j e = ap (λ k. k ∷ []) (let same : a ≡ j = omega arith in same)
range-more a (suc n) j e = ap (λ ks. a ∷ ks) (range-more (a + 1) n j (omega arith))

-- ---- One function more

module _ (mask k : ℕ) (some : 0 < k) where
  next-up_to : functions_up_to (k + 1 - 1) mask ≡ functions_up_to (k - 1) mask ++ cond (has_bit mask (k - 1)) (k ∷ []) []
  unfolding functions_up_to
  next-up_to =
      ap (λ n. filter (λ j. has_bit mask (j - 1)) (range_with_len 1 n)) (let e : k + 1 - 1 ≡ suc (k - 1) = omega arith in e)
      ∙ ap (filter (λ j. has_bit mask (j - 1))) (range-more 1 (k - 1) k (omega arith))
      ∙ filter-append (λ j. has_bit mask (j - 1)) (range_with_len 1 (k - 1)) (k ∷ [])

  numbers-more : (t : Bool) → has_bit mask (k - 1) ≡ t →
      spaced_numbers (functions_up_to (k + 1 - 1) mask) ≡ spaced_numbers (functions_up_to (k - 1) mask) ++ cond t (32 ∷ decimal k) []
  numbers-more t is =
      ap spaced_numbers (next-up_to ∙ ap (λ b. functions_up_to (k - 1) mask ++ cond b (k ∷ []) []) is)
      ∙ flat_map-append (λ j. 32 ∷ decimal j) (functions_up_to (k - 1) mask) (cond t (k ∷ []) [])
      ∙ ap (λ more. spaced_numbers (functions_up_to (k - 1) mask) ++ more) (by t)
    where
      by : (b : Bool) → spaced_numbers (cond b (k ∷ []) []) ≡ cond b (32 ∷ decimal k) []
      by true = append-nil (32 ∷ decimal k)
      by false = refl

  module _ (old now next : List ℕ) (before : now ≡ old ++ spaced_numbers (functions_up_to (k - 1) mask)) where
    pub with-number : has_bit mask (k - 1) ≡ true → next ≡ now ++ 32 ∷ decimal k →
        next ≡ old ++ spaced_numbers (functions_up_to (k + 1 - 1) mask)
    with-number is more =
        more ∙ ap (λ bytes. bytes ++ 32 ∷ decimal k) before
        ∙ append_assoc old (spaced_numbers (functions_up_to (k - 1) mask)) (32 ∷ decimal k)
        ∙ ap (λ bytes. old ++ bytes) (sym (numbers-more true is))

    pub without-number : has_bit mask (k - 1) ≡ false → next ≡ now → next ≡ old ++ spaced_numbers (functions_up_to (k + 1 - 1) mask)
    without-number is same =
        same ∙ before
        ∙ ap (λ bytes. old ++ bytes) (sym (append-nil (spaced_numbers (functions_up_to (k - 1) mask))) ∙ sym (numbers-more false is))

pub none-yet : (mask : ℕ) → functions_up_to 0 mask ≡ []
unfolding functions_up_to
none-yet mask = refl

-- ---- The line

words-behind : (word : List ℕ) (numbers : List ℕ) → join_with_byte 32 (word ∷ map decimal numbers) ≡ word ++ spaced_numbers numbers
words-behind word [] = sym (append-nil word)
words-behind word (j ∷ numbers) = ap (λ behind. word ++ 32 ∷ behind) (words-behind (decimal j) numbers)

pub early-line : (line : ℕ) (numbers first more whole : List ℕ) → first ≡ codes "script line " ++ decimal line ++ codes " Early" →
    more ≡ first ++ spaced_numbers numbers → whole ≡ more ++ codes "\n" → whole ≡ script_line line (codes "Early" ∷ map decimal numbers)
early-line line numbers first more whole first_is more_is whole_is =
    whole_is ∙ ap (λ bytes. bytes ++ codes "\n") (more_is ∙ ap (λ bytes. bytes ++ spaced_numbers numbers) first_is)
    ∙ ap (λ bytes. codes "script line " ++ bytes ++ codes "\n")
    (append_assoc (decimal line) (codes " Early") (spaced_numbers numbers)
    ∙ ap (λ bytes. decimal line ++ 32 ∷ bytes) (sym (words-behind (codes "Early") numbers)))
