-- The file of a text, and the first error of a text that has none.
use Rattle.std.specs.Prelude.{◌≡◌, ℕ, ◌≤◌, List, Option, Some, None, Ok, Err}
use Rattle.std.specs.List.{AllByRecursion}
use Rattle.c_syntax.specs.declared.fault.CFault.{CFault}
use Rattle.lustre_syntax.specs.Tree.{EquationTree, NodeTree, FileTree, expressions_of, without_lines}
use Rattle.lustre_syntax.specs.Lawful.{expr_depth, expr_limit}
use Rattle.lustre_grammar.specs.Tokens.{tokens_of, last_line}
use Rattle.lustre_grammar.specs.Written.{WrittenFile}
use Rattle.lustre_grammar.specs.Grammar.{Spells}
use Rattle.lustre_grammar.specs.Prefix.{file_needs, token_fault}
use Rattle.lustre_rules.specs.Resolve.{resolve_file}

-- no expression is too deep
abbrev pub IsShallow : EquationTree → Type 0
IsShallow e = AllByRecursion (λ x. expr_depth x ≤ expr_limit) (expressions_of e)

abbrev pub IsWithinLimit : FileTree → Type 0
IsWithinLimit f = AllByRecursion (λ (n : NodeTree). AllByRecursion IsShallow n.equations) f.nodes

-- the bytes are a text of the file
pub record LustreText (bytes : List ℕ) (f : FileTree) : Type 0 where
  pub written : WrittenFile
  pub spelled : Spells (tokens_of bytes) written
  pub resolved : resolve_file written ≡ Ok f
  pub limit : IsWithinLimit f

-- where no token has an error, the first construct of the written file that breaks a static rule
abbrev pub IsRuleFault : Option CFault → List ℕ → CFault → Type 0
IsRuleFault (Some first) bytes fault = fault ≡ first
IsRuleFault None bytes fault =
    (written : WrittenFile) × Spells (tokens_of bytes) written
    × (resolve_file written ≡ Err fault)

-- the bytes are no text of a file, and this is their first error
abbrev pub LustreFaultOf : List ℕ → CFault → Type 0
LustreFaultOf bytes fault =
    IsRuleFault (token_fault file_needs (last_line bytes) (tokens_of bytes)) bytes fault

-- the bytes have one reading, and it is this file, lines aside
pub record IsTextOf (bytes : List ℕ) (f : FileTree) : Type 0 where
  pub reading : FileTree
  pub read : LustreText bytes reading
  pub one : (other : FileTree) → LustreText bytes other → other ≡ reading
  pub same : without_lines reading ≡ without_lines f
