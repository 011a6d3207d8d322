-- Bytes of names and numbers, which end no line.
use Rattle.std.proofs.Common.{◌≡◌, refl, sym, ◌∙◌, ap, ℕ, ◌+◌, ◌≤◌, List, [], ◌∷◌, ◌++◌, Bool, true, false, not, ◌&&◌, ◌||◌, ◌==◌, nat_le, take_while, codes, bytes_eq, if◌then◌else◌, arith}
use Rattle.std.specs.List.{list_all, list_any}
use Rattle.std.specs.Char.{is_ascii_digit}
use Rattle.std.proofs.lemmas.Bool.{leb-true, ne_eqb}
use Rattle.std.proofs.lemmas.Bool.Decides.{nat_tests}
use Rattle.std.proofs.lemmas.List.Sums.{take_while-cons}
use Rattle.c_grammar.specs.Tokens.{is_white_space, class_of, word_class, digit_class, line_after}
use Rattle.c_syntax.specs.Names.{is_lower, is_word_start, is_word_byte, starts_lower, ends_with, keywords, is_name}
use Rattle.c_grammar.proofs.lemmas.LiteralLaws.{and_first, and_second, or_first}

-- the number of the line after a text
abbrev pub lines_after : ℕ → List ℕ → ℕ
lines_after line [] = line
lines_after line (b ∷ bs) = lines_after (line_after b line) bs

-- all of the bytes that pass, and none of those after them
pub take_while-all : (p : ℕ → Bool) (xs ys : List ℕ) → list_all p xs ≡ true → take_while p ys ≡ [] → take_while p (xs ++ ys) ≡ xs
take_while-all p [] ys all none = none
take_while-all p (x ∷ xs) ys all none =
    take_while-cons p x (xs ++ ys)
    ∙ ap (λ b. if b then x ∷ take_while p (xs ++ ys) else []) (and_first (p x) (list_all p xs) all)
    ∙ ap (λ l. x ∷ l) (take_while-all p xs ys (and_second (p x) (list_all p xs) all) none)

-- a byte that passes a test is none that fails it
pub differs : (test : ℕ → Bool) (b c : ℕ) → test b ≡ true → test c ≡ false → (b == c) ≡ false
differs test b c passes fails = ne_eqb b c (λ e. cc (sym passes ∙ ap test e ∙ fails))

-- bytes that are letters, digits or `_` end no line
pub words_on_one_line : (test : ℕ → Bool) → test 10 ≡ false → (xs : List ℕ) → list_all test xs ≡ true → (line : ℕ) →
    lines_after line xs ≡ line
words_on_one_line test fails [] all line = refl
words_on_one_line test fails (x ∷ xs) all line =
    let same : line_after x line ≡ line =
    ap (λ b. if b then line + 1 else line) (differs test x 10 (and_first (test x) (list_all test xs) all) fails) in
    ap (λ n. lines_after n xs) same ∙ words_on_one_line test fails xs (and_second (test x) (list_all test xs) all) line

or_all_false : (a b c d : Bool) → a ≡ false → b ≡ false → c ≡ false → d ≡ false → (a || b || c || d) ≡ false
or_all_false false b c d e f g h = or_three b c d f g h
  where
    or_three : (b c d : Bool) → b ≡ false → c ≡ false → d ≡ false → (false || b || c || d) ≡ false
    or_three false false d f g h = h
    or_three false true d f g h = cc
    or_three true c d f g h = cc
or_all_false true b c d e f g h = cc

-- what passes such a test is no blank
pub not_blank : (test : ℕ → Bool) (b : ℕ) → test b ≡ true → test 32 ≡ false → test 9 ≡ false → test 10 ≡ false →
    test 13 ≡ false → is_white_space b ≡ false
not_blank test b passes space tab end return =
    or_all_false (b == 32) (b == 9) (b == 10) (b == 13) (differs test b 32 passes space) (differs test b 9 passes tab)
    (differs test b 10 passes end) (differs test b 13 passes return)

-- what a lower-case letter begins
pub class_of-lower : (b : ℕ) → is_lower b ≡ true → class_of b ≡ word_class
class_of-lower b lower =
    rw (
      not_blank is_lower b lower refl refl refl refl,
      or_first (is_lower b || (nat_le 65 b && nat_le b 90)) (b == 95)
          (or_first (is_lower b) (nat_le 65 b && nat_le b 90) lower),
    ) refl

-- a digit begins no word
no_word_start : (b : ℕ) → b ≤ 57 → is_word_start b ≡ false
no_word_start b high = grind (arith, nat_tests)

-- what a digit begins
pub class_of-digit : (b : ℕ) → is_ascii_digit b ≡ true → class_of b ≡ digit_class
class_of-digit b digit =
    let low : 48 ≤ b = leb-true 48 b (and_first (nat_le 48 b) (nat_le b 57) digit) in
    let high : b ≤ 57 = leb-true b 57 (and_second (nat_le 48 b) (nat_le b 57) digit) in
    rw (not_blank is_ascii_digit b digit refl refl refl refl, no_word_start b high, digit) refl

-- the parts of a name
pub record NameParts (name : List ℕ) : Type 0 where
  pub first : ℕ
  pub later : List ℕ
  pub list : name ≡ first ∷ later
  pub lower : is_lower first ≡ true
  pub bytes : list_all is_word_byte (first ∷ later) ≡ true

pub name-parts : (name : List ℕ) → is_name name ≡ true → NameParts name
name-parts [] h = cc
name-parts (b ∷ bs) h =
    let text : List ℕ = b ∷ bs in
    let c : Bool = starts_lower text && list_all is_word_byte text in
    let d : Bool = c && not (ends_with text (codes "_t")) in
    let e : Bool = d && not (list_any (bytes_eq text) keywords) in
    let both : c ≡ true =
    and_first c (not (ends_with text (codes "_t")))
    (and_first d (not (list_any (bytes_eq text) keywords)) (and_first e (not (bytes_eq text (codes "s"))) h)) in
    record {
      first = b;
      later = bs;
      list = refl;
      lower = and_first (is_lower b) (list_all is_word_byte text) both;
      bytes = and_second (is_lower b) (list_all is_word_byte text) both;
    }
