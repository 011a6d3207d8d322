-- Texts that are one token, whatever follows them.
use Rattle.std.proofs.Common.{◌≡◌, refl, sym, ◌∙◌, ap, ℕ, ◌-◌, ◌^◌, ◌<◌, List, [], ◌∷◌, ◌++◌, length, true, take_while, decimal, arith}
use Rattle.std.specs.List.{list_all}
use Rattle.std.specs.Char.{is_ascii_digit}
use Rattle.std.proofs.lemmas.Fmt.{decimal_nonempty}
use Rattle.base_core.specs.Numbers.{reported_number}
use Rattle.c_grammar.specs.Tokens.{Token, class_of, token, piece_of, piece_tokens, line_after, tokens_from}
use Rattle.c_syntax.specs.Names.{is_word_byte, is_name}
use Rattle.c_printer.proofs.TokenLaws.{tokens_from-skip}
use Rattle.c_printer.proofs.lemmas.Bytes.{lines_after, take_while-all, words_on_one_line, class_of-lower, class_of-digit, NameParts, name-parts}
use Rattle.c_grammar.proofs.lemmas.LiteralLaws.{and_first, and_second, IsNumeralOf, numeral}

-- this text, directly before these bytes, is one token on one line
pub record IsTokenBefore (text rest : List ℕ) : Type 0 where
  pub first : ℕ
  pub later : List ℕ
  pub list : text ≡ first ∷ later
  pub piece : piece_of (class_of first) first (later ++ rest) ≡ token text
  pub one_line : (line : ℕ) → lines_after line text ≡ line

-- the tokens that begin with it
pub tokens_from-token : (text rest : List ℕ) (line : ℕ) → IsTokenBefore text rest →
    tokens_from 0 line (text ++ rest) ≡ record { text = text; line = reported_number line } ∷ tokens_from 0 line rest
tokens_from-token text rest line t =
    let more : ℕ → List Token = λ n. tokens_from n (line_after t.first line) (t.later ++ rest) in
    let size : length text - 1 ≡ length t.later = ap (λ x. length x - 1) t.list ∙ omega arith in
    ap (λ x. tokens_from 0 line (x ++ rest)) t.list ∙ ap (λ p. piece_tokens p line more) t.piece
    ∙ ap (λ n. record { text = text; line = reported_number line } ∷ more n) size
    ∙ ap (λ x. record { text = text; line = reported_number line } ∷ x)
    (tokens_from-skip t.later rest (line_after t.first line)
    ∙ ap (λ n. tokens_from 0 n rest) (sym (ap (lines_after line) t.list) ∙ t.one_line line))

-- a name is one token where no letter, digit or `_` follows
pub name-token : (name rest : List ℕ) → is_name name ≡ true → take_while is_word_byte rest ≡ [] → IsTokenBefore name rest
name-token name rest h none =
    let p : NameParts name = name-parts name h in
    record {
      first = p.first;
      later = p.later;
      list = p.list;
      piece = ap (λ c. piece_of c p.first (p.later ++ rest)) (class_of-lower p.first p.lower)
          ∙ ap (λ x. token (p.first ∷ x))
          (take_while-all is_word_byte p.later rest
          (and_second (is_word_byte p.first) (list_all is_word_byte p.later) p.bytes) none) ∙ ap token (sym p.list);
      one_line = λ line. ap (lines_after line) p.list ∙ words_on_one_line is_word_byte refl (p.first ∷ p.later) p.bytes line;
    }

-- a number is one token where no digit follows
pub decimal-token : (n : ℕ) (rest : List ℕ) → n < 2 ^ 63 → take_while is_ascii_digit rest ≡ [] → IsTokenBefore (decimal n) rest
decimal-token n rest small none = by (decimal n) (numeral n (omega (arith, small))) (decimal_nonempty n (omega (arith, small)))
  where
    by : (ds : List ℕ) → IsNumeralOf n ds → 0 < length ds → IsTokenBefore ds rest
    by [] k some = absurd (omega (arith, some))
    by (d ∷ ds) k some = record {
      first = d;
      later = ds;
      list = refl;
      piece = ap (λ c. piece_of c d (ds ++ rest))
          (class_of-digit d (and_first (is_ascii_digit d) (list_all is_ascii_digit ds) k.all))
          ∙ ap (λ x. token (d ∷ x))
          (take_while-all is_ascii_digit ds rest (and_second (is_ascii_digit d) (list_all is_ascii_digit ds) k.all)
          none);
      one_line = words_on_one_line is_ascii_digit refl (d ∷ ds) k.all;
    }
