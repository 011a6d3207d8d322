-- Texts that are one token, whatever follows them.
use Rattle.std.proofs.Common.{◌≡◌, refl, sym, ◌∙◌, ap, subst, ℕ, ◌+◌, ◌-◌, ◌^◌, ◌<◌, List, [], ◌∷◌, ◌++◌, length, Bool, true, false, not, ◌&&◌, ◌||◌, take_while, codes, decimal, bytes_eq, arith}
use Rattle.std.specs.List.{list_all, list_any}
use Rattle.std.specs.Char.{is_ascii_digit}
use Rattle.std.proofs.lemmas.Fmt.{decimal_nonempty}
use Rattle.std.proofs.lemmas.Slice.Eq.{bytes_eq-Decides}
use Rattle.base_core.specs.Numbers.{reported_number}
use Rattle.c_grammar.specs.Tokens.{Token, class_of, token, piece_tokens, line_after}
use Rattle.c_grammar.proofs.lemmas.LiteralLaws.{and_first, and_second, IsNumeralOf, numeral}
use Rattle.c_syntax.specs.Names.{is_word_byte, starts_lower, is_name}
use Rattle.lustre_syntax.specs.Names.{words, is_lustre_name}
use Rattle.lustre_grammar.specs.Tokens.{piece_of, tokens_from}
use Rattle.c_printer.proofs.lemmas.Bytes.{lines_after, take_while-all, words_on_one_line, class_of-lower, class_of-digit, name-parts}

-- what is skipped moves the line alone
tokens_from-skip : (bytes rest : List ℕ) (line : ℕ) →
    tokens_from (length bytes) line (bytes ++ rest) ≡ tokens_from 0 (lines_after line bytes) rest
tokens_from-skip [] rest line = refl
tokens_from-skip (b ∷ bs) rest line = tokens_from-skip bs rest (line_after b line)

-- this text, directly before these bytes, is one token on one line
pub record IsTokenBefore (text rest : List ℕ) : Type 0 where
  pub first : ℕ
  pub later : List ℕ
  pub list : text ≡ first ∷ later
  pub piece : piece_of (class_of first) first (later ++ rest) ≡ token text
  pub one_line : (line : ℕ) → lines_after line text ≡ line

-- the tokens that begin with it
pub tokens_from-token : (text rest : List ℕ) (line : ℕ) → IsTokenBefore text rest →
    tokens_from 0 line (text ++ rest) ≡ record { text = text; line = reported_number line } ∷ tokens_from 0 line rest
tokens_from-token text rest line t =
    let more : ℕ → List Token = λ n. tokens_from n (line_after t.first line) (t.later ++ rest) in
    let size : length text - 1 ≡ length t.later = ap (λ x. length x - 1) t.list ∙ omega arith in
    ap (λ x. tokens_from 0 line (x ++ rest)) t.list ∙ ap (λ p. piece_tokens p line more) t.piece
    ∙ ap (λ n. record { text = text; line = reported_number line } ∷ more n) size
    ∙ ap (λ x. record { text = text; line = reported_number line } ∷ x)
    (tokens_from-skip t.later rest (line_after t.first line)
    ∙ ap (λ n. tokens_from 0 n rest) (sym (ap (lines_after line) t.list) ∙ t.one_line line))

-- a word or a number ends before these bytes
pub record Ends (rest : List ℕ) : Type 0 where
  pub word : take_while is_word_byte rest ≡ []
  pub number : take_while is_ascii_digit rest ≡ []

-- letters, digits and `_` that begin with a lower-case letter
pub word-token : (text rest : List ℕ) → starts_lower text ≡ true → list_all is_word_byte text ≡ true → Ends rest →
    IsTokenBefore text rest
word-token [] rest lower bytes ends = cc
word-token (b ∷ bs) rest lower bytes ends = record {
  first = b;
  later = bs;
  list = refl;
  piece = ap (λ c. piece_of c b (bs ++ rest)) (class_of-lower b lower)
      ∙ ap (λ x. token (b ∷ x))
      (take_while-all is_word_byte bs rest (and_second (is_word_byte b) (list_all is_word_byte bs) bytes) ends.word);
  one_line = words_on_one_line is_word_byte refl (b ∷ bs) bytes;
}

-- a name
pub name-token : (name rest : List ℕ) → is_lustre_name name ≡ true → Ends rest → IsTokenBefore name rest
name-token name rest h ends = by (bytes_eq name (codes "s")) refl h
  where
    by : (is_s : Bool) → bytes_eq name (codes "s") ≡ is_s →
        (is_s || (is_name name && not (list_any (bytes_eq name) words))) ≡ true → IsTokenBefore name rest
    by true is_s h =
        subst (λ n. IsTokenBefore n rest) (sym ((bytes_eq-Decides name (codes "s")).0 is_s))
        (word-token (codes "s") rest refl refl ends)
    by false other h =
        let p : _ = name-parts name (and_first (is_name name) (not (list_any (bytes_eq name) words)) h) in
        subst (λ n. IsTokenBefore n rest) (sym p.list) (word-token (p.first ∷ p.later) rest p.lower p.bytes ends)

-- a number
pub decimal-token : (n : ℕ) (rest : List ℕ) → n < 2 ^ 63 → Ends rest → IsTokenBefore (decimal n) rest
decimal-token n rest small ends = by (decimal n) (numeral n (omega (arith, small))) (decimal_nonempty n (omega (arith, small)))
  where
    by : (ds : List ℕ) → IsNumeralOf n ds → 0 < length ds → IsTokenBefore ds rest
    by [] k some = absurd (omega (arith, some))
    by (d ∷ ds) k some = record {
      first = d;
      later = ds;
      list = refl;
      piece = ap (λ c. piece_of c d (ds ++ rest))
          (class_of-digit d (and_first (is_ascii_digit d) (list_all is_ascii_digit ds) k.all))
          ∙ ap (λ x. token (d ∷ x))
          (take_while-all is_ascii_digit ds rest (and_second (is_ascii_digit d) (list_all is_ascii_digit ds) k.all)
          ends.number);
      one_line = words_on_one_line is_ascii_digit refl (d ∷ ds) k.all;
    }
