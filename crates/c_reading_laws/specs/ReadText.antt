-- The reading of texts by recursive descent, and what it owes to the definition of their programs.
use Rattle.std.specs.Prelude.{◌≡◌, ℕ, List, Result, Ok, Err}
use Rattle.c_syntax.specs.declared.fault.CFault.{CFault}
use Rattle.c_syntax.specs.Tree.{ProgramTree}
use Rattle.c_grammar.specs.Tokens.{last_line}
use Rattle.base_core.specs.Results.{◌>>=◌}
use Rattle.c_rules.specs.Resolve.{resolve_program}
use Rattle.c_rules.specs.Reading.{CText, CFaultOf}
use Rattle.c_syntax.specs.Lawful.{IsLawful}
use Rattle.c_grammar.specs.ParsedText.{parse_text}

-- the program of a text, its names resolved, or its first error
abbrev pub read_text : List ℕ → Result ProgramTree CFault
read_text bytes = parse_text bytes >>= resolve_program (last_line bytes)

-- what is read from a text is its program, which is lawful; the reported error is the text's
-- first
pub record TextsAgree : Type 0 where
  pub read : (bytes : List ℕ) (p : ProgramTree) → read_text bytes ≡ Ok p → CText bytes p
  pub refused : (bytes : List ℕ) (fault : CFault) → read_text bytes ≡ Err fault →
      CFaultOf bytes fault
  pub lawful : (bytes : List ℕ) (p : ProgramTree) → read_text bytes ≡ Ok p → IsLawful p
