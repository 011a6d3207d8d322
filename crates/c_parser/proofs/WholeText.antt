-- The program of a text is that of the tokens after its first line.
use Rattle.std.proofs.Common.{◌≡◌, sym, ◌∙◌, ap, ℕ, Bool, true, List, Result, Ok, Err}
use Rattle.std.specs.List.{after_first}
use Rattle.c_grammar.specs.Tokens.{Token, has_header, tokens_from, last_line, is_line_end}
use Rattle.c_grammar.specs.Parsing.{Limits, the_limits, parse_file}
use Rattle.c_grammar.specs.declared.fault.ReadCFault.{ReadCFault}
use Rattle.c_grammar.specs.declared.fault.ReadCFault.TheVariants.{Refused, Memory}
use Rattle.c_grammar.specs.declared.written.WrittenProgram.{WrittenProgram as Program}
use Rattle.c_parser.specs.GivesProgram.{GivesProgram}
use Rattle.c_grammar.specs.ParsedText.{parse_behind, parse_text}
use Rattle.c_parser.specs.ParsedText.{GivesText}

-- a text with the first line
pub text-gives : (bytes behind : List ℕ) (tokens : List Token) (last : ℕ) (limits : Limits) (b : Bool)
    (answer : Result Program ReadCFault) → b ≡ has_header bytes → b ≡ true → last ≡ last_line bytes →
    limits ≡ the_limits → tokens ≡ tokens_from 0 2 behind → behind ≡ after_first is_line_end bytes →
    GivesProgram answer (parse_file last limits tokens) → GivesText bytes answer
text-gives bytes behind tokens last limits b answer is headed ends kept there from gives = by answer gives
  where
    same : parse_text bytes ≡ parse_file last limits tokens
    same =
        ap (λ h. parse_behind h bytes) (sym is ∙ headed)
        ∙ (λ i. parse_file (sym ends i) (sym kept i) (sym (there ∙ ap (tokens_from 0 2) from) i))

    by : (a : Result Program ReadCFault) → GivesProgram a (parse_file last limits tokens) → GivesText bytes a
    by (Ok program) g = same ∙ g
    by (Err (Refused fault)) g = same ∙ g
    by (Err Memory) g = tt
