-- Words of a command line, by their bytes.
use Rattle.std.proofs.Common.{◌≡◌, ◌∙◌, refl, sym, ap, subst, ℕ, ◌<◌, ◌≤◌, Bool, true, false, List, [], ◌∷◌, length, arith, Some, None, codes}
use Rattle.std.specs.Prelude.{String, string_bytes, bytes_eq, is_some, if◌then◌else◌}
use Rattle.std.specs.List.{list_all}
use Rattle.std.specs.declared.alloc.Global.{Global}
use Rattle.std.proofs.lemmas.List.Folds.{list_all-map}
use Rattle.tool_words.specs.Words.{Asked, is_word, word_bytes, command_with, asked_by}

pub all_words_by_bytes : (words : List (String Global)) →
    list_all (λ w. is_word (string_bytes w)) words ≡ list_all is_word (word_bytes words)
all_words_by_bytes words = sym (list_all-map is_word string_bytes words)

is_some_where : (b : Bool) (a : Asked) → is_some (if b then Some a else None) ≡ b
is_some_where true a = refl
is_some_where false a = refl

pub one_word_asks : (command : List ℕ) (words : List (String Global)) → 1 ≤ length words → length words < 2
    → is_some (command_with command (word_bytes words)) ≡ bytes_eq command (codes "profile")
one_word_asks command [] some one = absurd (omega (arith, some))
one_word_asks command (a ∷ []) some one = is_some_where _ _
one_word_asks command (a ∷ b ∷ more) some one = absurd (omega (arith, one))

pub five_words_ask_nothing : (command : List ℕ) (words : List (String Global)) → 5 ≤ length words →
    is_some (command_with command (word_bytes words)) ≡ false
five_words_ask_nothing command [] many = refl
five_words_ask_nothing command (a ∷ []) many = absurd (omega (arith, many))
five_words_ask_nothing command (a ∷ b ∷ []) many = absurd (omega (arith, many))
five_words_ask_nothing command (a ∷ b ∷ c ∷ []) many = absurd (omega (arith, many))
five_words_ask_nothing command (a ∷ b ∷ c ∷ d ∷ []) many = absurd (omega (arith, many))
five_words_ask_nothing command (a ∷ b ∷ c ∷ d ∷ e ∷ more) many = refl

-- words with a first one, where all are words and where one is none
pub asks_by_parts : (words : List (String Global)) (first : String Global) (further : List (String Global))
    (command : List ℕ) → words ≡ first ∷ further
    → command ≡ string_bytes first → list_all (λ w. is_word (string_bytes w)) words ≡ true
    → is_some (command_with command (word_bytes further)) ≡ is_some (asked_by (word_bytes words))
asks_by_parts words first further command parts same all =
    subst (λ ws. is_some (command_with command (word_bytes further)) ≡ is_some (asked_by (word_bytes ws)))
    (sym parts)
    (ap (λ c. is_some (command_with c (word_bytes further))) same
    ∙ sym (ap (λ b. is_some (if b then command_with (string_bytes first) (word_bytes further) else None))
    (sym (all_words_by_bytes (first ∷ further)) ∙ subst (λ ws. list_all (λ w. is_word (string_bytes w)) ws ≡ true) parts all)))

pub asks_nothing_by_parts : (words : List (String Global)) (first : String Global) (further : List (String Global)) →
    words ≡ first ∷ further
    → list_all (λ w. is_word (string_bytes w)) words ≡ false → is_some (asked_by (word_bytes words)) ≡ false
asks_nothing_by_parts words first further parts some = subst (λ ws. is_some (asked_by (word_bytes ws)) ≡ false)
    (sym parts)
    (ap (λ b. is_some (if b then command_with (string_bytes first) (word_bytes further) else None))
    (sym (all_words_by_bytes (first ∷ further)) ∙ subst (λ ws. list_all (λ w. is_word (string_bytes w)) ws ≡ false) parts some))
