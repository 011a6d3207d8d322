-- The parse of tokens and of texts, and what it owes to the grammar.
use Rattle.std.specs.Prelude.{◌≡◌, ℕ, Bool, true, false, List, Some, None, Result, Ok, Err}
use Rattle.c_syntax.specs.declared.fault.CFault.{CFault}
use Rattle.c_syntax.specs.declared.fault.CKind.TheVariants.{Syntax}
use Rattle.c_grammar.specs.Tokens.{Token, has_header, tokens_of, last_line}
use Rattle.c_grammar.specs.Written.{WrittenProgram}
use Rattle.c_grammar.specs.Grammar.{Spells}
use Rattle.c_grammar.specs.Prefix.{file_needs, token_fault, fault_at}
use Rattle.c_grammar.specs.Parsing.{the_limits, parse_file}

-- a text with the right first line, or one without it
abbrev pub parse_behind : (has_header : Bool) → List ℕ → Result WrittenProgram CFault
parse_behind true bytes = parse_file (last_line bytes) the_limits (tokens_of bytes)
parse_behind false bytes = Err (fault_at 1 Syntax)

-- the program that is written in a text, or the first error of the grammar
abbrev pub parse_text : List ℕ → Result WrittenProgram CFault
parse_text bytes = parse_behind (has_header bytes) bytes

-- what the parse gives is spelled and has no error; the error that it gives is the first
pub record ParsingAgrees : Type 0 where
  pub read : (last : ℕ) (tokens : List Token) (w : WrittenProgram) →
      parse_file last the_limits tokens ≡ Ok w →
      Spells tokens w × (token_fault file_needs last tokens ≡ None)
  pub refused : (last : ℕ) (tokens : List Token) (fault : CFault) →
      parse_file last the_limits tokens ≡ Err fault →
      token_fault file_needs last tokens ≡ Some fault
