-- A letter and a number are a name.
use Rattle.std.specs.Prelude.{◌≡◌, ◌≢◌, ℕ, ◌+◌, ◌%◌, ◌^◌, ◌<◌, ◌≤◌, Bool, true, false, not, ◌||◌, ◌==◌, nat_eq, nat_le, Option, Some, None, List, [], ◌∷◌, ◌++◌, reverse, length, decimal, bytes_eq, codes}
use Rattle.std.specs.List.{list_any, list_all, starts_with}
use Rattle.std.specs.Char.{is_ascii_digit}
use Rattle.std.proofs.Common.{refl, sym, ◌∙◌, ap, ap₂, arith, true≢false}
use Rattle.std.proofs.lemmas.List.{reverse-append, length-reverse, length-append}
use Rattle.std.proofs.lemmas.Bool.{and_from, and_parts, and_left, and_right, or_left, or_right, le-leb, leb-true, ne_eqb}
use Rattle.std.proofs.lemmas.Fmt.{decimal_by_steps}
use Rattle.modules_profile.specs.Systems.{system_name}
use Rattle.c_syntax.specs.Names.{is_name, is_lower, is_word_byte, is_word_start, ends_with, keywords}
use Rattle.right_linking.proofs.lemmas.AssembledNames.{IsNumbered}

all-both : (t : ℕ → Bool) (xs ys : List ℕ) → list_all t xs ≡ true → list_all t ys ≡ true → list_all t (xs ++ ys) ≡ true
all-both t [] ys one two = two
all-both t (x ∷ xs) ys one two = let parts = and_parts (t x) (list_all t xs) one in
    and_from (t x) (list_all t (xs ++ ys)) parts.0 (all-both t xs ys parts.1 two)

all-reverse : (t : ℕ → Bool) (xs : List ℕ) → list_all t xs ≡ true → list_all t (reverse xs) ≡ true
all-reverse t [] e = refl
all-reverse t (x ∷ xs) e =
    let parts = and_parts (t x) (list_all t xs) e in
    ap (list_all t) (reverse-append (x ∷ []) xs) ∙ all-both t (reverse xs) (x ∷ []) (all-reverse t xs parts.1) (and_from _ _ parts.0 refl)

digit-is : (n : ℕ) → n < 10 → is_ascii_digit (48 + n) ≡ true
digit-is n small = and_from _ _ (le-leb 48 (48 + n) (omega arith)) (le-leb (48 + n) 57 (omega (arith, small)))

-- digits, and not none
abbrev AreDigits : List ℕ → Type 0
AreDigits ds = (list_all is_ascii_digit ds ≡ true) × (0 < length ds)

decimal-digits : (n : ℕ) → n < 2 ^ 64 → AreDigits (decimal n)
decimal-digits n small =
    decimal_by_steps (λ m ds. AreDigits ds)
    (λ m low. (and_from _ _ (digit-is m low) refl, omega arith))
    (λ m ds many more. (
      all-both is_ascii_digit ds ((48 + m % 10) ∷ []) more.0 (and_from _ _ (digit-is (m % 10) (omega arith)) refl),
      let size = length-append ds ((48 + m % 10) ∷ []) in omega (arith, size),
    )) n small

words : (ds : List ℕ) → list_all is_ascii_digit ds ≡ true → list_all is_word_byte ds ≡ true
words [] e = refl
words (d ∷ ds) e = let parts = and_parts _ _ e in and_from _ _ (or_right (is_word_start d) (is_ascii_digit d) parts.0) (words ds parts.1)

-- a text that ends in a digit doesn't end with `_t`
ends-in-digit : (back front : List ℕ) → list_all is_ascii_digit back ≡ true → 0 < length back →
    starts_with nat_eq (back ++ front) (reverse (codes "_t")) ≡ false
ends-in-digit [] front e some = absurd (omega (arith, some))
ends-in-digit (d ∷ ds) front e some =
    let range = and_parts (nat_le 48 d) (nat_le d 57) (and_parts (is_ascii_digit d) (list_all is_ascii_digit ds) e).0 in
    let high : d ≤ 57 = leb-true d 57 range.1 in
    and_left (116 == d) _ (ne_eqb 116 d (omega (arith, high)))

no-ending : (front ds : List ℕ) → AreDigits ds → ends_with (front ++ ds) (codes "_t") ≡ false
no-ending front ds digits =
    ap (λ l. starts_with nat_eq l (reverse (codes "_t"))) (reverse-append front ds)
    ∙ ends-in-digit (reverse ds) (reverse front) (all-reverse is_ascii_digit ds digits.0)
    (let some = digits.1 in let size = length-reverse ds in omega (arith, some, size))

-- a keyword's second byte is no digit
abbrev second_is_letter : List ℕ → Bool
second_is_letter [] = false
second_is_letter (a ∷ []) = false
second_is_letter (a ∷ b ∷ bs) = not (is_ascii_digit b)

no-keyword : (x d : ℕ) (ds : List ℕ) (others : List (List ℕ)) → is_ascii_digit d ≡ true → list_all second_is_letter others ≡ true →
    list_any (bytes_eq (x ∷ d ∷ ds)) others ≡ false
no-keyword x d ds [] digit e = refl
no-keyword x d ds ([] ∷ others) digit e = absurd (true≢false (sym e))
no-keyword x d ds ((a ∷ []) ∷ others) digit e = absurd (true≢false (sym e))
no-keyword x d ds ((a ∷ b ∷ bs) ∷ others) digit e =
    let parts = and_parts _ _ e in
    let apart : d ≢ b = λ same. true≢false (sym parts.0 ∙ ap (λ c. not (is_ascii_digit c)) (sym same) ∙ ap not digit) in
    ap₂ ◌||◌ (and_right (x == a) _ (and_left (d == b) _ (ne_eqb d b apart))) (no-keyword x d ds others digit parts.1)

letter-digits : (x : ℕ) (ds : List ℕ) → is_lower x ≡ true → AreDigits ds → is_name (x ∷ ds) ≡ true
letter-digits x [] lower digits = absurd (let some = digits.1 in omega (arith, some))
letter-digits x (d ∷ ds) lower digits =
    let digit = (and_parts _ _ digits.0).0 in
    let word = and_from _ _ (or_left (is_word_start x) (is_ascii_digit x) (or_left _ _ (or_left _ _ lower))) (words (d ∷ ds) digits.0) in
    let ending : not (ends_with (x ∷ d ∷ ds) (codes "_t")) ≡ true = ap not (no-ending (x ∷ []) (d ∷ ds) digits) in
    let keyword : not (list_any (bytes_eq (x ∷ d ∷ ds)) keywords) ≡ true = ap not (no-keyword x d ds keywords digit refl) in
    let s : not (bytes_eq (x ∷ d ∷ ds) (codes "s")) ≡ true = ap not (and_right (x == 115) false refl) in
    and_from _ _ (and_from _ _ (and_from _ _ (and_from _ _ lower word) ending) keyword) s

pub letter-name : (x n : ℕ) → is_lower x ≡ true → n < 2 ^ 64 → is_name (x ∷ decimal n) ≡ true
letter-name x n lower small = letter-digits x (decimal n) lower (decimal-digits n small)

-- a system's name is one
pub system-name : (s : Option ℕ) → IsNumbered s → is_name (system_name s) ≡ true
system-name None small = refl
system-name (Some e) small = letter-name 115 e refl small
