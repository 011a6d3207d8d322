-- Names with a number at their end, and those after the name of a system and `_`: they are names, and say what their parts are.
use Rattle.std.specs.Prelude.{◌≡◌, ◌≢◌, ℕ, ◌<◌, ◌≤◌, Bool, true, false, not, ◌||◌, ◌==◌, nat_eq, List, [], ◌∷◌, ◌++◌, reverse, length, decimal, bytes_eq, codes}
use Rattle.std.specs.List.{list_any, list_all, starts_with}
use Rattle.std.specs.Char.{is_ascii_digit}
use Rattle.std.proofs.Common.{refl, sym, ◌∙◌, ap, ap₂, arith, true≢false}
use Rattle.std.proofs.lemmas.List.{append_assoc, reverse-append, length-reverse}
use Rattle.std.proofs.lemmas.Bool.{and_from, and_parts, and_left, and_right, or_left, or_right, leb-true, ne_eqb}
use Rattle.c_syntax.specs.Names.{is_name, is_lower, is_word_byte, is_word_start, ends_with, keywords}
use Rattle.right_system_rules.proofs.Digits.{decimal-digits, decimal-some, decimal-cons, all-both, list_all-reverse}

-- ---- Digits in names

all-words : (ds : List ℕ) → list_all is_ascii_digit ds ≡ true → list_all is_word_byte ds ≡ true
all-words [] e = refl
all-words (d ∷ ds) e =
    let parts = and_parts _ _ e in and_from _ _ (or_right (is_word_start d) (is_ascii_digit d) parts.0) (all-words ds parts.1)

pub decimal-words : (n : ℕ) → list_all is_word_byte (decimal n) ≡ true
decimal-words n = all-words (decimal n) (decimal-digits n)

digit-bounds : (b : ℕ) → is_ascii_digit b ≡ true → (48 ≤ b) × (b ≤ 57)
digit-bounds b e = let parts = and_parts _ _ e in (leb-true 48 b parts.0, leb-true b 57 parts.1)

-- a text that ends in a digit doesn't end with `_t`
ends-in-digit : (back front : List ℕ) → list_all is_ascii_digit back ≡ true → 0 < length back →
    starts_with nat_eq (back ++ front) (reverse (codes "_t")) ≡ false
ends-in-digit [] front e some = absurd (omega (arith, some))
ends-in-digit (d ∷ ds) front e some =
    let range = digit-bounds d (and_parts _ _ e).0 in and_left (116 == d) _ (ne_eqb 116 d (let high = range.1 in omega (arith, high)))

pub no-ending : (front : List ℕ) (n : ℕ) → ends_with (front ++ decimal n) (codes "_t") ≡ false
no-ending front n =
    ap (λ l. starts_with nat_eq l (reverse (codes "_t"))) (reverse-append front (decimal n))
    ∙ ends-in-digit (reverse (decimal n)) (reverse front) (list_all-reverse is_ascii_digit (decimal n) (decimal-digits n))
    (let some = decimal-some n in let size = length-reverse (decimal n) in omega (arith, some, size))

-- a keyword's second byte is no digit
abbrev second_is_letter : List ℕ → Bool
second_is_letter [] = false
second_is_letter (a ∷ []) = false
second_is_letter (a ∷ b ∷ bs) = not (is_ascii_digit b)

no-keyword : (x d : ℕ) (ds : List ℕ) (words : List (List ℕ)) → is_ascii_digit d ≡ true → list_all second_is_letter words ≡ true →
    list_any (bytes_eq (x ∷ d ∷ ds)) words ≡ false
no-keyword x d ds [] digit e = refl
no-keyword x d ds ([] ∷ words) digit e = absurd (true≢false (sym e))
no-keyword x d ds ((a ∷ []) ∷ words) digit e = absurd (true≢false (sym e))
no-keyword x d ds ((a ∷ b ∷ bs) ∷ words) digit e =
    let parts = and_parts _ _ e in
    let apart : d ≢ b = λ same. true≢false (sym parts.0 ∙ ap (λ c. not (is_ascii_digit c)) (sym same) ∙ ap not digit) in
    ap₂ ◌||◌ (and_right (x == a) _ (and_left (d == b) _ (ne_eqb d b apart))) (no-keyword x d ds words digit parts.1)

-- ---- A letter, a number and more

numbered-name : (x n : ℕ) (more : List ℕ) → is_lower x ≡ true → list_all is_word_byte more ≡ true →
    ends_with (x ∷ decimal n ++ more) (codes "_t") ≡ false → is_name (x ∷ decimal n ++ more) ≡ true
numbered-name x n more lower words ends =
    let (d, ds, e, digit) = decimal-cons n in
    let word : list_all is_word_byte (x ∷ decimal n ++ more) ≡ true =
    and_from _ _ (or_left (is_word_start x) (is_ascii_digit x) (or_left _ _ (or_left _ _ lower)))
    (all-both is_word_byte (decimal n) more (decimal-words n) words) in
    let keyword : not (list_any (bytes_eq (x ∷ decimal n ++ more)) keywords) ≡ true =
    ap (λ l. not (list_any (bytes_eq (x ∷ l ++ more)) keywords)) e ∙ ap not (no-keyword x d (ds ++ more) keywords digit refl) in
    let s : not (bytes_eq (x ∷ decimal n ++ more) (codes "s")) ≡ true =
    ap (λ l. not (bytes_eq (x ∷ l ++ more) (codes "s"))) e ∙ ap not (and_right (x == 115) false refl) in
    and_from _ _ (and_from _ _ (and_from _ _ (and_from _ _ lower word) (ap not ends)) keyword) s

-- a letter and a number
pub letter-name : (x n : ℕ) → is_lower x ≡ true → is_name (x ∷ decimal n) ≡ true
letter-name x n lower =
    let (d, ds, e, digit) = decimal-cons n in
    let word : list_all is_word_byte (x ∷ decimal n) ≡ true =
    and_from _ _ (or_left (is_word_start x) (is_ascii_digit x) (or_left _ _ (or_left _ _ lower))) (decimal-words n) in
    let ending : not (ends_with (x ∷ decimal n) (codes "_t")) ≡ true = ap not (no-ending (x ∷ []) n) in
    let keyword : not (list_any (bytes_eq (x ∷ decimal n)) keywords) ≡ true =
    ap (λ l. not (list_any (bytes_eq (x ∷ l)) keywords)) e ∙ ap not (no-keyword x d ds keywords digit refl) in
    let s : not (bytes_eq (x ∷ decimal n) (codes "s")) ≡ true =
    ap (λ l. not (bytes_eq (x ∷ l) (codes "s"))) e ∙ ap not (and_right (x == 115) false refl) in
    and_from _ _ (and_from _ _ (and_from _ _ (and_from _ _ lower word) ending) keyword) s

-- ---- After `_`

-- a suffix after `_` that keeps a name a name
pub record IsSuffix (suffix : List ℕ) : Type 0 where
  pub words : list_all is_word_byte suffix ≡ true
  pub ends : (front : List ℕ) → ends_with (front ++ 95 ∷ suffix) (codes "_t") ≡ false

pub inner-name : (n : ℕ) (suffix : List ℕ) → IsSuffix suffix → is_name ((115 ∷ decimal n) ++ 95 ∷ suffix) ≡ true
inner-name n suffix is = numbered-name 115 n (95 ∷ suffix) refl (and_from _ _ refl is.words) (is.ends (115 ∷ decimal n))

pub top-name : (suffix : List ℕ) → IsSuffix suffix → is_name (codes "top" ++ 95 ∷ suffix) ≡ true
top-name suffix is =
    and_from _ _ (and_from _ _ (and_from _ _ (and_from _ _ refl (and_from _ _ refl is.words)) (ap not (is.ends (codes "top")))) refl) refl

-- a word and a number
pub numbered-suffix : (word : List ℕ) (n : ℕ) → list_all is_word_byte word ≡ true → IsSuffix (word ++ decimal n)
numbered-suffix word n words = record {
  words = all-both is_word_byte word (decimal n) words (decimal-words n);
  ends = λ front. ap (λ l. ends_with l (codes "_t")) (sym (append_assoc front (95 ∷ word) (decimal n))) ∙ no-ending (front ++ 95 ∷ word) n;
}

-- a word that doesn't end with `_t` after `_`
plain-suffix : (word : List ℕ) → list_all is_word_byte word ≡ true →
    ((front : List ℕ) → starts_with nat_eq (reverse (95 ∷ word) ++ front) (reverse (codes "_t")) ≡ false) → IsSuffix word
plain-suffix word words ends = record {
  words = words;
  ends = λ front. ap (λ l. starts_with nat_eq l (reverse (codes "_t"))) (reverse-append front (95 ∷ word)) ∙ ends (reverse front);
}

pub update-suffix : IsSuffix (codes "update")
update-suffix = plain-suffix (codes "update") refl (λ front. refl)

pub start-suffix : IsSuffix (codes "start")
start-suffix = plain-suffix (codes "start") refl (λ front. refl)

pub reset-suffix : IsSuffix (codes "reset")
reset-suffix = plain-suffix (codes "reset") refl (λ front. refl)

-- ---- Parts of a name

-- the first byte of a text, and those after it
abbrev pub first_byte : List ℕ → ℕ
first_byte [] = 0
first_byte (b ∷ bs) = b

abbrev pub later_bytes : List ℕ → List ℕ
later_bytes [] = []
later_bytes (b ∷ bs) = bs

abbrev pub no_bar : ℕ → Bool
no_bar b = not (b == 95)

-- what comes before the first `_`, and what after it
pub parts-equal : (a b x y : List ℕ) → list_all no_bar a ≡ true → list_all no_bar b ≡ true → a ++ 95 ∷ x ≡ b ++ 95 ∷ y → (a ≡ b) × (x ≡ y)
parts-equal [] [] x y p q e = (refl, cc e)
parts-equal [] (c ∷ b) x y p q e = absurd (let same : 95 ≡ c = cc e in true≢false (sym (and_parts _ _ q).0 ∙ ap no_bar (sym same)))
parts-equal (c ∷ a) [] x y p q e = absurd (let same : c ≡ 95 = cc e in true≢false (sym (and_parts _ _ p).0 ∙ ap no_bar same))
parts-equal (c ∷ a) (d ∷ b) x y p q e =
    let first : c ≡ d = cc e in
    let rest : a ++ 95 ∷ x ≡ b ++ 95 ∷ y = cc e in
    let more = parts-equal a b x y (and_parts _ _ p).1 (and_parts _ _ q).1 rest in
    (ap₂ ◌∷◌ first more.0, more.1)

digits-no_bar : (ds : List ℕ) → list_all is_ascii_digit ds ≡ true → list_all no_bar ds ≡ true
digits-no_bar [] e = refl
digits-no_bar (d ∷ ds) e =
    let parts = and_parts _ _ e in
    let range = digit-bounds d parts.0 in
    and_from _ _ (ap not (ne_eqb d 95 (let high = range.1 in omega (arith, high)))) (digits-no_bar ds parts.1)

pub decimal-no_bar : (n : ℕ) → list_all no_bar (decimal n) ≡ true
decimal-no_bar n = digits-no_bar (decimal n) (decimal-digits n)
