-- Numbers that words write.
use Rattle.std.proofs.Common.{◌≡◌, refl, sym, ℕ, suc, ◌+◌, ◌<◌, ◌≤◌, ◌==◌, Bool, cond, true, false, true≢false, List, [], ◌∷◌, length, drop, arith, Some, None}
use Rattle.std.specs.Prelude.{min}
use Rattle.std.specs.List.{prefix_len}
use Rattle.std.specs.Str.Parse.{digits_value}
use Rattle.std.proofs.lemmas.Bool.Decides.{nat_tests}
use Rattle.base_numerals.specs.Literals.{are_digits}
use Rattle.base_numerals.proofs.lemmas.NumberBounds.{numeral_digits, positive_value}
use Rattle.tool_words.specs.Words.{is_plain_number, number_up_to}

pub plain_digits : (word : List ℕ) → is_plain_number word ≡ true → are_digits word ≡ true
plain_digits [] e = refl
plain_digits (b ∷ bs) e = grind (arith, numeral_digits)

pub plain_positive : (word : List ℕ) → is_plain_number word ≡ true → 0 < digits_value 10 word
plain_positive [] e = absurd (true≢false (sym e))
plain_positive (b ∷ bs) e =
    let first : (b == 48) ≡ false = grind arith in
    positive_value (b ∷ bs) (plain_digits (b ∷ bs) e) (omega (arith, counts (b == 48) first))
  where
    -- all digits count where the first is no 0
    counts : (t : Bool) → t ≡ false → length (drop (cond t (1 + prefix_len (λ c. c == 48) bs) 0) (b ∷ bs)) ≡ suc (length bs)
    counts true f = absurd (true≢false f)
    counts false f = refl

module _ (greatest : ℕ) (word : List ℕ) (n : ℕ) (plain : is_plain_number word ≡ true) (capped : n
    ≡ min (digits_value 10 word) (greatest + 1)) where
  pub number_up_to_within : n ≤ greatest → number_up_to greatest word ≡ Some n
  number_up_to_within le = grind (arith, nat_tests)

  pub number_up_to_beyond : greatest < n → number_up_to greatest word ≡ None
  number_up_to_beyond lt = grind (arith, nat_tests)
