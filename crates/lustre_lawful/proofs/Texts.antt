-- Names of a letter, a number and more: they are lawful, and say which number it is.
use Rattle.std.specs.Prelude.{◌≡◌, ℕ, ◌^◌, ◌<◌, Bool, true, false, not, ◌&&◌, ◌==◌, if◌then◌else◌, nat_eq, nat_le, List, [], ◌∷◌, ◌++◌, reverse, length, codes, decimal, bytes_eq}
use Rattle.std.specs.List.{list_all, list_any, starts_with}
use Rattle.std.specs.Char.{is_ascii_digit}
use Rattle.std.proofs.Common.{refl, sym, ◌∙◌, ap, arith, inl, inr, true≢false}
use Rattle.std.proofs.lemmas.Bool.{and_from, and_parts, and_left, or_parts, or_cases, or_left, or_right, leb-true, ne_eqb, false_from_ne_true}
use Rattle.std.proofs.lemmas.Fmt.{decimal_nonempty}
use Rattle.std.proofs.lemmas.List.{append_assoc, append-nil, reverse-append}
use Rattle.std.proofs.lemmas.List.Folds.{list_all-append}
use Rattle.std.proofs.lemmas.Slice.Eq.{bytes_eq-Decides}
use Rattle.c_syntax.specs.Names.{is_name, is_lower, starts_lower, is_word_byte, is_word_start, ends_with, keywords}
use Rattle.c_grammar.proofs.lemmas.LiteralLaws.{numeral}
use Rattle.lustre_syntax.specs.Names.{words, is_lustre_name}

-- ---- Digits

pub has-digits : (n : ℕ) → n < 2 ^ 64 → list_all is_ascii_digit (decimal n) ≡ true
has-digits n small = (numeral n small).all

first-of : (ds : List ℕ) → list_all is_ascii_digit ds ≡ true → 0 < length ds →
    (d : ℕ) × (more : List ℕ) × (ds ≡ d ∷ more) × (is_ascii_digit d ≡ true)
first-of [] all some = absurd (omega (arith, some))
first-of (d ∷ more) all some = (d, more, refl, (and_parts _ _ all).0)

last-of : (ds : List ℕ) → list_all is_ascii_digit ds ≡ true → 0 < length ds →
    (front : List ℕ) × (d : ℕ) × (ds ≡ front ++ d ∷ []) × (is_ascii_digit d ≡ true)
last-of [] all some = absurd (omega (arith, some))
last-of (d ∷ []) all some = ([], d, refl, (and_parts _ _ all).0)
last-of (d ∷ e ∷ more) all some =
    let (front, last, is, digit) = last-of (e ∷ more) (and_parts _ _ all).1 (omega arith) in
    (d ∷ front, last, ap (λ ds. d ∷ ds) is, digit)

digit-low : (d : ℕ) → is_ascii_digit d ≡ true → d < 58
digit-low d digit = let high = leb-true d 57 (and_parts (nat_le 48 d) (nat_le d 57) digit).1 in omega (arith, high)

digit-words : (ds : List ℕ) → list_all is_ascii_digit ds ≡ true → list_all is_word_byte ds ≡ true
digit-words [] all = refl
digit-words (d ∷ ds) all =
    let parts = and_parts _ _ all in and_from _ _ (or_right (is_word_start d) (is_ascii_digit d) parts.0) (digit-words ds parts.1)

-- ---- Words that aren't such names

-- what holds of each of some texts holds of one that is among them
among : (p : List ℕ → Bool) (text : List ℕ) (ts : List (List ℕ)) → list_all p ts ≡ true → list_any (bytes_eq text) ts ≡ true → p text ≡ true
among p text [] all one = absurd (true≢false (sym one))
among p text (t ∷ ts) all one =
    let parts = and_parts (p t) (list_all p ts) all in
    elim (or_cases (bytes_eq text t) (list_any (bytes_eq text) ts) one) [
      | inl here ↦ ap p ((bytes_eq-Decides text t).0 here) ∙ parts.0
      | inr later ↦ among p text ts parts.1 later
    ]

none-among : (p : List ℕ → Bool) (text : List ℕ) (ts : List (List ℕ)) → list_all p ts ≡ true → p text ≡ false →
    list_any (bytes_eq text) ts ≡ false
none-among p text ts all fails = false_from_ne_true _ (λ e. true≢false (sym (among p text ts all e) ∙ fails))

-- a text whose second byte, if there is one, is no digit
abbrev second_is_letter : List ℕ → Bool
second_is_letter [] = true
second_is_letter (a ∷ []) = true
second_is_letter (a ∷ b ∷ bs) = not (is_ascii_digit b)

-- ---- Names

-- a text that begins with a letter and a digit, and ends with a digit
pub record IsNumbered (text : List ℕ) : Type 0 where
  pub letter : ℕ
  pub digit : ℕ
  pub more : List ℕ
  pub front : List ℕ
  pub last : ℕ
  pub begins : text ≡ letter ∷ digit ∷ more
  pub ends : text ≡ front ++ last ∷ []
  pub is_letter : is_lower letter ≡ true
  pub is_digit : is_ascii_digit digit ≡ true
  pub last_is_digit : is_ascii_digit last ≡ true
  pub word_bytes : list_all is_word_byte text ≡ true

no-ending : (front : List ℕ) (d : ℕ) → is_ascii_digit d ≡ true → ends_with (front ++ d ∷ []) (codes "_t") ≡ false
no-ending front d digit =
    ap (λ l. starts_with nat_eq l (reverse (codes "_t"))) (reverse-append front (d ∷ []))
    ∙ and_left (116 == d) _ (ne_eqb 116 d (λ same. let low = digit-low d digit in omega (arith, same, low)))

pub numbered-name : (text : List ℕ) → IsNumbered text → is_lustre_name text ≡ true
numbered-name text is =
    let second : second_is_letter text ≡ false = ap second_is_letter is.begins ∙ ap not is.is_digit in
    let lower : starts_lower text ≡ true = ap starts_lower is.begins ∙ is.is_letter in
    let ending : not (ends_with text (codes "_t")) ≡ true =
    ap (λ l. not (ends_with l (codes "_t"))) is.ends ∙ ap not (no-ending is.front is.last is.last_is_digit) in
    let keyword : not (list_any (bytes_eq text) keywords) ≡ true = ap not (none-among second_is_letter text keywords refl second) in
    let alone : bytes_eq text (codes "s") ≡ false =
    (or_parts _ _ (none-among second_is_letter text (codes "s" ∷ []) refl second)).0 in
    let word : not (list_any (bytes_eq text) words) ≡ true = ap not (none-among second_is_letter text words refl second) in
    or_right (bytes_eq text (codes "s")) (is_name text && not (list_any (bytes_eq text) words))
    (and_from _ _ (and_from _ _ (and_from _ _ (and_from _ _ (and_from _ _ lower is.word_bytes) ending) keyword) (ap not alone)) word)

-- a letter and a number
pub letter-number : (x n : ℕ) → is_lower x ≡ true → n < 2 ^ 64 → IsNumbered (x ∷ decimal n)
letter-number x n lower small =
    let all = has-digits n small in
    let (d, more, begins, digit) = first-of (decimal n) all (decimal_nonempty n small) in
    let (front, last, ends, last_digit) = last-of (decimal n) all (decimal_nonempty n small) in
    record {
      letter = x;
      digit = d;
      more = more;
      front = x ∷ front;
      last = last;
      begins = ap (λ ds. x ∷ ds) begins;
      ends = ap (λ ds. x ∷ ds) ends;
      is_letter = lower;
      is_digit = digit;
      last_is_digit = last_digit;
      word_bytes = and_from _ _ (word-letter x lower) (digit-words (decimal n) all);
    }
  where
    word-letter : (x : ℕ) → is_lower x ≡ true → is_word_byte x ≡ true
    word-letter x lower = or_left (is_word_start x) (is_ascii_digit x) (or_left _ _ (or_left _ _ lower))

-- a letter, a number, `_` and a second number
pub joined-text : (x n : ℕ) (more : List ℕ) → (x ∷ decimal n ++ 95 ∷ []) ++ more ≡ x ∷ (decimal n ++ 95 ∷ more)
joined-text x n more = ap (λ ds. x ∷ ds) (append_assoc (decimal n) (95 ∷ []) more)

pub letter-numbers : (x n k : ℕ) → is_lower x ≡ true → n < 2 ^ 64 → k < 2 ^ 64 → IsNumbered ((x ∷ decimal n ++ 95 ∷ []) ++ decimal k)
letter-numbers x n k lower small few =
    let first = letter-number x n lower small in
    let all = has-digits k few in
    let (d, more, begins, digit) = first-of (decimal n) (has-digits n small) (decimal_nonempty n small) in
    let (front, last, ends, last_digit) = last-of (decimal k) all (decimal_nonempty k few) in
    let head = x ∷ decimal n ++ 95 ∷ [] in
    record {
      letter = x;
      digit = d;
      more = (more ++ 95 ∷ []) ++ decimal k;
      front = head ++ front;
      last = last;
      begins = ap (λ ds. x ∷ ((ds ++ 95 ∷ []) ++ decimal k)) begins;
      ends = ap (λ ds. head ++ ds) ends ∙ sym (append_assoc head front (last ∷ []));
      is_letter = lower;
      is_digit = digit;
      last_is_digit = last_digit;
      word_bytes = ap (list_all is_word_byte) (joined-text x n (decimal k)) ∙ list_all-append is_word_byte (x ∷ decimal n) (95 ∷ decimal k)
          ∙ and_from _ _ first.word_bytes (and_from _ _ refl (digit-words (decimal k) all));
    }

-- ---- The number in a name

-- the digits that a text begins with
abbrev pub leading : List ℕ → List ℕ
leading [] = []
leading (b ∷ bs) = if is_ascii_digit b then b ∷ leading bs else []

-- those after the first byte
abbrev pub number_text : List ℕ → List ℕ
number_text [] = []
number_text (b ∷ bs) = leading bs

abbrev pub first_byte : List ℕ → ℕ
first_byte [] = 0
first_byte (b ∷ bs) = b

leading-all : (ds more : List ℕ) → list_all is_ascii_digit ds ≡ true → leading more ≡ [] → leading (ds ++ more) ≡ ds
leading-all [] more all none = none
leading-all (d ∷ ds) more all none =
    let parts = and_parts _ _ all in
    ap (λ b. if b then d ∷ leading (ds ++ more) else []) parts.0 ∙ ap (λ es. d ∷ es) (leading-all ds more parts.1 none)

pub number-of : (x n : ℕ) (more : List ℕ) → n < 2 ^ 64 → leading more ≡ [] → number_text (x ∷ decimal n ++ more) ≡ decimal n
number-of x n more small none = leading-all (decimal n) more (has-digits n small) none

pub number-first : (x n : ℕ) (more : List ℕ) → n < 2 ^ 64 → number_text ((x ∷ decimal n ++ 95 ∷ []) ++ more) ≡ decimal n
number-first x n more small = ap number_text (joined-text x n more) ∙ number-of x n (95 ∷ more) small refl

pub number-alone : (x n : ℕ) → n < 2 ^ 64 → number_text (x ∷ decimal n) ≡ decimal n
number-alone x n small = ap leading (sym (append-nil (decimal n))) ∙ number-of x n [] small refl
