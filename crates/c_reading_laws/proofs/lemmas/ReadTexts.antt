-- What is read from a text, from what the parse of its tokens gives.
use Rattle.std.proofs.Common.{◌≡◌, refl, sym, subst, ℕ, Bool, true, false, List, Result, Ok, Err}
use Rattle.c_syntax.specs.declared.fault.CFault.{CFault}
use Rattle.c_syntax.specs.declared.fault.CKind.TheVariants.{Syntax}
use Rattle.c_syntax.specs.Tree.{ProgramTree}
use Rattle.c_grammar.specs.Tokens.{has_header, tokens_of, last_line}
use Rattle.c_grammar.specs.Written.{WrittenProgram}
use Rattle.c_grammar.specs.Prefix.{fault_at}
use Rattle.base_core.specs.Results.{◌>>=◌}
use Rattle.c_rules.specs.Resolve.{resolve_program}
use Rattle.c_rules.specs.Reading.{CText, CFaultOf, IsRuleFault, IsFaultBehind}
use Rattle.c_grammar.specs.Parsing.{the_limits, parse_file}
use Rattle.c_reading_laws.proofs.lemmas.Readings.{text-read}
use Rattle.c_reading_laws.proofs.LawfulReadings.{text-lawful}
use Rattle.c_grammar.proofs.lemmas.File.{parsing_agrees}
use Rattle.c_grammar.specs.ParsedText.{parse_behind, ParsingAgrees}
use Rattle.c_reading_laws.specs.ReadText.{read_text, TextsAgree}

err_same : (x y : CFault) → ◌≡◌ {A = Result ProgramTree CFault} (Err x) (Err y) → x ≡ y
err_same x y e = cc

module _ (parsing : ParsingAgrees) where
  read : (bytes : List ℕ) (p : ProgramTree) → read_text bytes ≡ Ok p → CText bytes p
  read bytes p h = by (has_header bytes) refl h
    where
      by_parse : (r : Result WrittenProgram CFault) → parse_file (last_line bytes) the_limits (tokens_of bytes) ≡ r →
          has_header bytes ≡ true → (r >>= resolve_program (last_line bytes)) ≡ Ok p → CText bytes p
      by_parse (Ok w) e header k =
          let parsed : _ = parsing.read (last_line bytes) (tokens_of bytes) w e in
          text-read bytes w p header parsed.0 parsed.1 k
      by_parse (Err fault) e header k = cc

      by : (b : Bool) → has_header bytes ≡ b → (parse_behind b bytes >>= resolve_program (last_line bytes)) ≡ Ok p → CText bytes p
      by true e k = by_parse (parse_file (last_line bytes) the_limits (tokens_of bytes)) refl e k
      by false e k = cc

  refused : (bytes : List ℕ) (fault : CFault) → read_text bytes ≡ Err fault → CFaultOf bytes fault
  refused bytes fault h = by (has_header bytes) refl h
    where
      by_parse : (r : Result WrittenProgram CFault) → parse_file (last_line bytes) the_limits (tokens_of bytes) ≡ r →
          (r >>= resolve_program (last_line bytes)) ≡ Err fault → IsFaultBehind true bytes fault
      by_parse (Ok w) e k =
          let parsed : _ = parsing.read (last_line bytes) (tokens_of bytes) w e in
          subst (λ o. IsRuleFault o bytes fault) (sym parsed.1) (w, parsed.0, k)
      by_parse (Err first) e k =
          subst (λ o. IsRuleFault o bytes fault) (sym (parsing.refused (last_line bytes) (tokens_of bytes) first e))
          (err_same fault first (sym k))

      by : (b : Bool) → has_header bytes ≡ b →
          (parse_behind b bytes >>= resolve_program (last_line bytes)) ≡ Err fault → CFaultOf bytes fault
      by true e k =
          subst (λ b. IsFaultBehind b bytes fault) (sym e)
          (by_parse (parse_file (last_line bytes) the_limits (tokens_of bytes)) refl k)
      by false e k = subst (λ b. IsFaultBehind b bytes fault) (sym e) (err_same fault (fault_at 1 Syntax) (sym k))

pub texts_agree : TextsAgree
texts_agree =
    record {
      read = read parsing_agrees;
      refused = refused parsing_agrees;
      lawful = λ bytes p h. text-lawful bytes p (read parsing_agrees bytes p h);
    }
