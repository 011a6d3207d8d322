-- Digits of a text, and the numbers that they write.
use Rattle.std.proofs.Common.{◌≡◌, refl, sym, ◌∙◌, ap, subst, ℕ, zero, suc, ◌+◌, ◌*◌, ◌-◌, ◌<◌, ◌≤◌, Bool, true, false, cond, ◌&&◌, List, [], ◌∷◌, ◌++◌, length, get_or, drop, take, arith, ◌==◌, le_trans, length-append}
use Rattle.std.specs.List.{prefix_len, take_while}
use Rattle.std.specs.Char.{is_ascii_digit, digit_value}
use Rattle.std.specs.Int.{IsInRange}
use Rattle.std.specs.Str.Parse.{digits_value, digits_value_after, AllDigits}
use Rattle.std.proofs.lemmas.Bool.Decides.{nat_tests}
use Rattle.std.proofs.lemmas.Bool.{eqb-true, eqb-false}
use Rattle.std.proofs.lemmas.Str.{digit_value_digit}
use Rattle.std.proofs.lemmas.Str.Parse.{digit_from_value}
use Rattle.std.proofs.lemmas.List.Sums.{take_while-cons}
use Rattle.std.proofs.lemmas.Int.Digits.{digits_value_more}
use Rattle.base_core.specs.Bytes.{drop_while}
use Rattle.base_numerals.specs.Literals.{are_digits, significant_len}

-- ---- Tests

digit_from_test : (c : ℕ) → is_ascii_digit c ≡ true → digit_value c < 10
digit_from_test c e =
    let range : IsInRange 48 57 c = grind (arith, nat_tests) in
    omega (arith, digit_value_digit c range, range)

pub AllDigits-from_are_digits : (ds : List ℕ) → are_digits ds ≡ true → AllDigits 10 ds
AllDigits-from_are_digits [] e = tt
AllDigits-from_are_digits (c ∷ cs) e = by_test (AllDigits-from_are_digits cs) (is_ascii_digit c) refl e
  where
    by_test : (are_digits cs ≡ true → AllDigits 10 cs) → (t : Bool) → is_ascii_digit c ≡ t →
        (t && are_digits cs) ≡ true → AllDigits 10 (c ∷ cs)
    by_test more true f g = (digit_from_test c f, more g)
    by_test more false f g = cc

pub are_digits-take_while : (text : List ℕ) → are_digits (take_while is_ascii_digit text) ≡ true
are_digits-take_while [] = refl
are_digits-take_while (c ∷ cs) =
    ap are_digits (take_while-cons is_ascii_digit c cs) ∙ by_test (are_digits-take_while cs) (is_ascii_digit c) refl
  where
    by_test : are_digits (take_while is_ascii_digit cs) ≡ true → (t : Bool) → is_ascii_digit c ≡ t →
        are_digits (cond t (c ∷ take_while is_ascii_digit cs) []) ≡ true
    by_test more true e = ap (λ b. b && are_digits (take_while is_ascii_digit cs)) e ∙ more
    by_test more false e = refl

-- ---- Significant digits

-- what is left where the first byte is known
drop_while-cons : (test : ℕ → Bool) (c : ℕ) (cs : List ℕ) → drop_while test (c ∷ cs) ≡ cond (test c) (drop_while test cs) (c ∷ cs)
drop_while-cons test c cs = by_test (test c)
  where
    by_test : (t : Bool) → drop (cond t (1 + prefix_len test cs) 0) (c ∷ cs) ≡ cond t (drop_while test cs) (c ∷ cs)
    by_test true = ap (λ n. drop n (c ∷ cs)) (one_more (prefix_len test cs))
      where
        one_more : (n : ℕ) → 1 + n ≡ suc n
        one_more n = omega arith
    by_test false = refl

significant_len-cons : (c : ℕ) (cs : List ℕ) → significant_len (c ∷ cs) ≡ cond (c == 48) (significant_len cs) (suc (length cs))
significant_len-cons c cs = ap length (drop_while-cons (λ d. d == 48) c cs) ∙ by_test (c == 48)
  where
    by_test : (t : Bool) → length (cond t (drop_while (λ d. d == 48) cs) (c ∷ cs)) ≡ cond t (significant_len cs) (suc (length cs))
    by_test true = refl
    by_test false = refl

-- the significant digits of a digit string in two parts
pub significant_len-append : (a b : List ℕ) →
    significant_len (a ++ b) ≡ cond (significant_len a == 0) (significant_len b) (significant_len a + length b)
significant_len-append [] b = refl
significant_len-append (c ∷ cs) b =
    significant_len-cons c (cs ++ b)
    ∙ by_test (significant_len-append cs b) (c == 48)
    ∙ ap (λ n. cond (n == 0) (significant_len b) (n + length b)) (sym (significant_len-cons c cs))
  where
    by_test : significant_len (cs ++ b) ≡ cond (significant_len cs == 0) (significant_len b) (significant_len cs + length b) → (t : Bool) →
        cond t (significant_len (cs ++ b)) (suc (length (cs ++ b)))
        ≡ cond (cond t (significant_len cs) (suc (length cs)) == 0) (significant_len b)
        (cond t (significant_len cs) (suc (length cs)) + length b)
    by_test more true = more
    by_test more false = rw length-append (grind (arith, nat_tests))

-- ---- Values

-- a number doesn't fall by further digits
pub le-digits_value_after : (n : ℕ) (ds : List ℕ) → n ≤ digits_value_after 10 n ds
le-digits_value_after n [] = omega arith
le-digits_value_after n (c ∷ cs) = le_trans (omega arith) (le-digits_value_after (n * 10 + digit_value c) cs)

-- the digits of two parts follow one another
pub digits_value-append : (n : ℕ) (a b : List ℕ) → digits_value_after 10 n (a ++ b) ≡ digits_value_after 10 (digits_value_after 10 n a) b
digits_value-append n [] b = refl
digits_value-append n (c ∷ cs) b = digits_value-append (n * 10 + digit_value c) cs b

-- digits that aren't all 0 write no 0
pub digits_value-pos : (ds : List ℕ) → AllDigits 10 ds → 0 < significant_len ds → 0 < digits_value 10 ds
digits_value-pos [] d h = absurd (omega (arith, h))
digits_value-pos (c ∷ cs) (first, more) h =
    by_test (digits_value-pos cs more) (c == 48) refl (subst (λ n. 0 < n) (significant_len-cons c cs) h)
  where
    by_test : (0 < significant_len cs → 0 < digits_value 10 cs) → (t : Bool) → (c == 48) ≡ t →
        0 < cond t (significant_len cs) (suc (length cs)) → 0 < digits_value 10 (c ∷ cs)
    by_test rest true e k = subst (λ b. 0 < digits_value 10 (b ∷ cs)) (sym (eqb-true c 48 e)) (rest k)
    by_test rest false e k =
        let range = digit_from_value c first in
        let other = eqb-false c 48 e in
        let value = digit_value_digit c range in
        let some : 0 < 0 * 10 + digit_value c = omega (arith, value, range.0, other) in
        le_trans some (le-digits_value_after (0 * 10 + digit_value c) cs)

-- What digit i adds to the number n of those before it.
pub record NextDigit (ds : List ℕ) (i n : ℕ) : Type 0 where
  pub low : 48 ≤ get_or ds i 0
  pub value : digits_value_after 10 (n * 10 + (get_or ds i 0 - 48)) (drop (i + 1) ds) ≡ digits_value_after 10 n (drop i ds)
  pub rest : AllDigits 10 (drop (i + 1) ds)
  pub fits : n * 10 + (get_or ds i 0 - 48) ≤ digits_value_after 10 n (drop i ds)

pub next_digit : (ds : List ℕ) (i n : ℕ) → i < length ds → AllDigits 10 (drop i ds) → NextDigit ds i n
next_digit [] i n h d = absurd (omega (arith, h))
next_digit (c ∷ cs) zero n h (first, more) =
    let range = digit_from_value c first in
    let same = digit_value_digit c range in
    let written : n * 10 + digit_value c ≡ n * 10 + (c - 48) = omega (arith, same) in
    record {
      low = range.0;
      value = ap (λ k. digits_value_after 10 k cs) (sym written);
      rest = more;
      fits = subst (λ k. k ≤ digits_value_after 10 n (c ∷ cs)) written (le-digits_value_after (n * 10 + digit_value c) cs);
    }
next_digit (c ∷ cs) (suc i) n h d =
    let next = next_digit cs i n (omega (arith, h)) d in
    let at : suc i + 1 ≡ suc (i + 1) = omega arith in
    record {
      low = next.low;
      value = ap (λ k. digits_value_after 10 (n * 10 + (get_or cs i 0 - 48)) (drop k (c ∷ cs))) at ∙ next.value;
      rest = subst (λ k. AllDigits 10 (drop k (c ∷ cs))) (sym at) next.rest;
      fits = next.fits;
    }

-- What digit i is.
pub record IsDigitAt (ds : List ℕ) (i : ℕ) : Type 0 where
  pub low : 48 ≤ get_or ds i 0
  pub value : digit_value (get_or ds i 0) ≡ get_or ds i 0 - 48
  pub more : digits_value 10 (take (i + 1) ds) ≡ digits_value 10 (take i ds) * 10 + (get_or ds i 0 - 48)

digit_value_at : (ds : List ℕ) (i : ℕ) → i < length ds → AllDigits 10 ds → digit_value (get_or ds i 0) < 10
digit_value_at [] i h d = absurd (omega (arith, h))
digit_value_at (c ∷ cs) zero h d = d.0
digit_value_at (c ∷ cs) (suc i) h d = digit_value_at cs i (omega (arith, h)) d.1

pub digit_at : (ds : List ℕ) (i : ℕ) → i < length ds → are_digits ds ≡ true → IsDigitAt ds i
digit_at ds i h e =
    let range = digit_from_value (get_or ds i 0) (digit_value_at ds i h (AllDigits-from_are_digits ds e)) in
    let same = digit_value_digit (get_or ds i 0) range in
    let value : digit_value (get_or ds i 0) ≡ get_or ds i 0 - 48 = omega (arith, same) in
    record { low = range.0; value = value; more = digits_value_more 10 ds i h ∙ ap (λ n. digits_value 10 (take i ds) * 10 + n) value }
