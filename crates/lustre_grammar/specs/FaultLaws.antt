-- What the first error of tokens is: the first token with which no file can go on, or that opens an
-- expression beyond the limit.
use Rattle.std.specs.Prelude.{◌≡◌, ◌⊎◌, ◌↔◌, ℕ, true, false, List, [], ◌∷◌, ◌++◌, length, take, slice_get, Some, None}
use Rattle.std.specs.List.{list_all}
use Rattle.c_syntax.specs.declared.fault.CFault.{CFault}
use Rattle.c_syntax.specs.declared.fault.CKind.TheVariants.{Syntax, Deep}
use Rattle.c_grammar.specs.Tokens.{Token}
use Rattle.c_grammar.specs.Prefix.{fault_at}
use Rattle.lustre_grammar.specs.Written.{WrittenFile}
use Rattle.lustre_grammar.specs.Grammar.{Spells, CanGoOn}
use Rattle.lustre_grammar.specs.Prefix.{file_needs, token_fault}
use Rattle.lustre_grammar.specs.Openings.{Opening, openings, is_within}

-- some file of the grammar begins with these tokens, and none of them opens an expression beyond
-- the limit
pub record GoesOn (tokens : List Token) : Type 0 where
  pub more : List Token
  pub file : WrittenFile
  pub spelled : Spells (tokens ++ more) file
  pub within : list_all is_within (take (length tokens) (openings file)) ≡ true

-- some file of the grammar begins with these tokens and this one after them, which opens an
-- expression beyond the limit
pub record OpensBeyond (before : List Token) (t : Token) : Type 0 where
  pub more : List Token
  pub file : WrittenFile
  pub spelled : Spells (before ++ t ∷ more) file
  pub opening : Opening
  pub there : slice_get (openings file) (length before) ≡ Some opening
  pub beyond : is_within opening ≡ false

-- after the first tokens of a list, with which a file can go on, this token comes
pub record Reaches (tokens before : List Token) (t : Token) : Type 0 where
  pub after : List Token
  pub list : tokens ≡ before ++ t ∷ after
  pub goes_on : GoesOn before

-- no file goes on with a token, and the error is Syntax at its line
pub record StopsAtToken (tokens : List Token) (fault : CFault) : Type 0 where
  pub before : List Token
  pub token : Token
  pub reached : Reaches tokens before token
  pub stops : CanGoOn (before ++ token ∷ []) → ⊥
  pub is : fault ≡ fault_at token.line Syntax

-- a token opens an expression beyond the limit, and the error is Deep at its line
pub record StopsAtDepth (tokens : List Token) (fault : CFault) : Type 0 where
  pub before : List Token
  pub token : Token
  pub reached : Reaches tokens before token
  pub deep : OpensBeyond before token
  pub is : fault ≡ fault_at token.line Deep

-- a file can go on with the tokens, but they are none, and the error is Syntax at the last line
pub record StopsAtEnd (tokens : List Token) (last : ℕ) (fault : CFault) : Type 0 where
  pub goes_on : GoesOn tokens
  pub no_file : (f : WrittenFile) → Spells tokens f → ⊥
  pub is : fault ≡ fault_at last Syntax

-- the first error of tokens is one of these, and where there is none they spell a file within the
-- limit
abbrev pub FaultsAreFirst : Type 0
FaultsAreFirst =
    (last : ℕ) (tokens : List Token) (fault : CFault) →
    (token_fault file_needs last tokens ≡ Some fault)
    ↔ (StopsAtToken tokens fault ⊎ StopsAtDepth tokens fault ⊎ StopsAtEnd tokens last fault)

abbrev pub FaultlessIsSpelled : Type 0
FaultlessIsSpelled =
    (last : ℕ) (tokens : List Token) →
    (token_fault file_needs last tokens ≡ None)
    ↔ ((f : WrittenFile) × Spells tokens f × (list_all is_within (openings f) ≡ true))
