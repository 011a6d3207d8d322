-- The file that is written in a text, and what it is of the grammar.
use Rattle.std.specs.Prelude.{◌≡◌, ℕ, List, Some, None, Result, Ok, Err}
use Rattle.c_syntax.specs.declared.fault.CFault.{CFault}
use Rattle.c_grammar.specs.Tokens.{Token}
use Rattle.lustre_grammar.specs.Tokens.{tokens_of, last_line}
use Rattle.lustre_grammar.specs.Written.{WrittenFile}
use Rattle.lustre_grammar.specs.Grammar.{Spells}
use Rattle.lustre_grammar.specs.Prefix.{file_needs, token_fault}
use Rattle.lustre_grammar.specs.Parsing.{parse_file}

-- the file that is written in a text, or the first error of the grammar
abbrev pub parse_text : List ℕ → Result WrittenFile CFault
parse_text bytes = parse_file (last_line bytes) (tokens_of bytes)

-- what the parse gives is spelled and has no error; the error that it gives is the first
pub record ParsingAgrees : Type 0 where
  pub read : (last : ℕ) (tokens : List Token) (w : WrittenFile) → parse_file last tokens ≡ Ok w →
      Spells tokens w × (token_fault file_needs last tokens ≡ None)
  pub refused : (last : ℕ) (tokens : List Token) (fault : CFault) →
      parse_file last tokens ≡ Err fault → token_fault file_needs last tokens ≡ Some fault
