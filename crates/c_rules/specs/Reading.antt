-- The program of a text, and the first error of a text that has none.
use Rattle.std.specs.Prelude.{◌≡◌, ℕ, Bool, true, false, List, Option, Some, None, Ok, Err}
use Rattle.c_syntax.specs.declared.fault.CFault.{CFault}
use Rattle.c_syntax.specs.declared.fault.CKind.TheVariants.{Syntax}
use Rattle.c_syntax.specs.Tree.{ProgramTree}
use Rattle.c_grammar.specs.Written.{WrittenProgram}
use Rattle.c_grammar.specs.Tokens.{has_header, tokens_of, last_line}
use Rattle.c_grammar.specs.Grammar.{Spells}
use Rattle.c_syntax.specs.Limits.{IsWithinLimits}
use Rattle.c_grammar.specs.Prefix.{file_needs, token_fault, fault_at}
use Rattle.c_rules.specs.AlikeTexts.{is_alike}
use Rattle.c_rules.specs.Resolve.{resolve_program}
use Rattle.c_syntax.specs.Lawful.{without_lines}

-- the bytes are a text of the program
pub record CText (bytes : List ℕ) (p : ProgramTree) : Type 0 where
  pub header : has_header bytes ≡ true
  pub written : WrittenProgram
  pub spelled : Spells (tokens_of bytes) written
  pub resolved : resolve_program (last_line bytes) written ≡ Ok p
  pub limits : IsWithinLimits p

-- where no token has an error, the first construct of the written program that breaks a static rule
abbrev pub IsRuleFault : Option CFault → List ℕ → CFault → Type 0
IsRuleFault (Some first) bytes fault = fault ≡ first
IsRuleFault None bytes fault =
    (written : WrittenProgram) × Spells (tokens_of bytes) written
    × (resolve_program (last_line bytes) written ≡ Err fault)

-- the first error after a first line that is right, or the error of the first line
abbrev pub IsFaultBehind : Bool → List ℕ → CFault → Type 0
IsFaultBehind false bytes fault = fault ≡ fault_at 1 Syntax
IsFaultBehind true bytes fault =
    IsRuleFault (token_fault file_needs (last_line bytes) (tokens_of bytes)) bytes fault

-- the bytes are no text of a program, and this is their first error
abbrev pub CFaultOf : List ℕ → CFault → Type 0
CFaultOf bytes fault = IsFaultBehind (has_header bytes) bytes fault

-- the bytes have one reading, and it is this program, lines aside; and C99 reads the same tokens
pub record IsTextOf (bytes : List ℕ) (p : ProgramTree) : Type 0 where
  pub reading : ProgramTree
  pub read : CText bytes reading
  pub one : (other : ProgramTree) → CText bytes other → other ≡ reading
  pub same : without_lines reading ≡ without_lines p
  pub alike : is_alike bytes ≡ true
