-- Laws that readers of texts owe: the first error of tokens is the first token with which no file
-- can go on, or that opens something beyond its limit; and each text has one reading or one error.
use Rattle.std.specs.Prelude.{◌≡◌, ℕ, true, false, List, [], ◌∷◌, ◌++◌, length, take, slice_get, Option, Some, None, Ok, Err, ◌⊎◌, ◌↔◌}
use Rattle.std.specs.List.{list_all}
use Rattle.c_syntax.specs.declared.fault.CFault.{CFault}
use Rattle.c_syntax.specs.declared.fault.CKind.TheVariants.{Syntax, Deep}
use Rattle.c_syntax.specs.Tree.{ProgramTree}
use Rattle.c_grammar.specs.Written.{WrittenProgram}
use Rattle.c_grammar.specs.Tokens.{Token, has_header, tokens_of, last_line}
use Rattle.c_grammar.specs.Grammar.{Spells, CanGoOn}
use Rattle.c_grammar.specs.Prefix.{Need, refuses, too_deep, leaves, step_needs, may_end, file_needs, token_fault, fault_at}
use Rattle.c_rules.specs.Resolve.{resolve_program}
use Rattle.c_grammar.specs.Openings.{Opening, is_within, openings}
use Rattle.c_syntax.specs.Limits.{IsWithinLimits}
use Rattle.c_rules.specs.Reading.{CText, CFaultOf}
use Rattle.c_syntax.specs.Lawful.{IsLawful}

-- some file of the grammar begins with these tokens, and none of them opens anything beyond its
-- limit
pub record GoesOn (tokens : List Token) : Type 0 where
  pub more : List Token
  pub program : WrittenProgram
  pub spelled : Spells (tokens ++ more) program
  pub within : list_all is_within (take (length tokens) (openings program)) ≡ true

-- some file of the grammar begins with these tokens and this one after them, and the one opens
-- something beyond its limit
pub record OpensBeyond (before : List Token) (t : Token) : Type 0 where
  pub more : List Token
  pub program : WrittenProgram
  pub spelled : Spells (before ++ t ∷ more) program
  pub opening : Opening
  pub there : slice_get (openings program) (length before) ≡ Some opening
  pub beyond : is_within opening ≡ false

-- after the first tokens of a list, with which a file can go on, this token comes
pub record Reaches (tokens before : List Token) (t : Token) : Type 0 where
  pub after : List Token
  pub list : tokens ≡ before ++ t ∷ after
  pub goes_on : GoesOn before

-- no file goes on with a token, and the error is Syntax at its line
pub record StopsAtToken (tokens : List Token) (fault : CFault) : Type 0 where
  pub before : List Token
  pub token : Token
  pub reached : Reaches tokens before token
  pub stops : CanGoOn (before ++ token ∷ []) → ⊥
  pub is : fault ≡ fault_at token.line Syntax

-- a token opens something beyond its limit, and the error is Deep at its line
pub record StopsAtDepth (tokens : List Token) (fault : CFault) : Type 0 where
  pub before : List Token
  pub token : Token
  pub reached : Reaches tokens before token
  pub deep : OpensBeyond before token
  pub is : fault ≡ fault_at token.line Deep

-- a file can go on with the tokens, but they are none, and the error is Syntax at the last line
pub record StopsAtEnd (tokens : List Token) (last : ℕ) (fault : CFault) : Type 0 where
  pub goes_on : GoesOn tokens
  pub unfinished : (program : WrittenProgram) → Spells tokens program → ⊥
  pub is : fault ≡ fault_at last Syntax

-- the tokens are a file of the grammar, and none opens anything beyond its limit
pub record IsFile (tokens : List Token) : Type 0 where
  pub program : WrittenProgram
  pub spelled : Spells tokens program
  pub within : list_all is_within (openings program) ≡ true

-- the first error of tokens, if they have one; `last` is the text's last line
abbrev pub IsFirstFault : List Token → ℕ → Option CFault → Type 0
IsFirstFault tokens last None = IsFile tokens
IsFirstFault tokens last (Some fault) =
    StopsAtToken tokens fault ⊎ StopsAtDepth tokens fault ⊎ StopsAtEnd tokens last fault

-- the first error that is reported is the first error
abbrev pub FaultsAgree : Type 0
FaultsAgree = (tokens : List Token) (last : ℕ) (answer : Option CFault) →
    (token_fault file_needs last tokens ≡ answer) ↔ IsFirstFault tokens last answer

-- a text whose first line is not the include line
pub record LacksHeader (bytes : List ℕ) (fault : CFault) : Type 0 where
  pub lacks : has_header bytes ≡ false
  pub is : fault ≡ fault_at 1 Syntax

-- one whose tokens have a first error
pub record StopsAmongTokens (bytes : List ℕ) (fault : CFault) : Type 0 where
  pub header : has_header bytes ≡ true
  pub first : IsFirstFault (tokens_of bytes) (last_line bytes) (Some fault)

-- one whose tokens are a file within the limits, in which this is the first construct that breaks a
-- static rule
pub record BreaksRule (bytes : List ℕ) (fault : CFault) : Type 0 where
  pub header : has_header bytes ≡ true
  pub file : IsFile (tokens_of bytes)
  pub broken : resolve_program (last_line bytes) file.program ≡ Err fault

-- a text is refused by its first line, else by its tokens, else by a static rule
abbrev pub RefusalsAgree : Type 0
RefusalsAgree = (bytes : List ℕ) (fault : CFault) →
    CFaultOf bytes fault
    ↔ (LacksHeader bytes fault ⊎ StopsAmongTokens bytes fault ⊎ BreaksRule bytes fault)

-- these tokens lead from the one list of needs to the other
abbrev pub Leads : List Need → List Token → List Need → Type 0
Leads needs [] left = needs ≡ left
Leads needs (t ∷ tokens) left =
    (next : List Need) × (step_needs needs t.text ≡ leaves next) × Leads next tokens left

-- the needs say just what a file can go on with
pub record NeedsAgree : Type 0 where
  -- tokens are let through exactly where some file begins with them and none opens anything beyond
  -- its limit
  pub passes : (tokens : List Token) →
      ((needs : List Need) × Leads file_needs tokens needs) ↔ GoesOn tokens
  -- which they then do in no file that begins so
  pub throughout : (tokens more : List Token) (program : WrittenProgram) → GoesOn tokens →
      Spells (tokens ++ more) program →
      list_all is_within (take (length tokens) (openings program)) ≡ true
  -- a token after them is refused exactly where no file goes on with it
  pub refused : (before : List Token) (needs : List Need) (t : Token) →
      Leads file_needs before needs →
      (step_needs needs t.text ≡ refuses) ↔ (CanGoOn (before ++ t ∷ []) → ⊥)
  -- it is too deep exactly where a file goes on with it and it opens something beyond its limit
  -- there
  pub deep : (before : List Token) (needs : List Need) (t : Token) → Leads file_needs before needs →
      (step_needs needs t.text ≡ too_deep) ↔ OpensBeyond before t
  -- which it then does in each file that begins so
  pub everywhere : (before : List Token) (t : Token) (more : List Token)
      (program : WrittenProgram) → GoesOn before → OpensBeyond before t →
      Spells (before ++ t ∷ more) program →
      (opening : Opening) × (slice_get (openings program) (length before) ≡ Some opening)
      × (is_within opening ≡ false)
  -- a file may end exactly where the needs say so
  pub ends : (tokens : List Token) (needs : List Need) → Leads file_needs tokens needs →
      (may_end needs ≡ true) ↔ ((program : WrittenProgram) × Spells tokens program)
  -- each token of a file has its opening
  pub each : (tokens : List Token) (program : WrittenProgram) → Spells tokens program →
      length (openings program) ≡ length tokens

-- the limits on a program's tree are those on what its tokens open
abbrev pub LimitsAgree : Type 0
LimitsAgree = (last : ℕ) (written : WrittenProgram) (p : ProgramTree) →
    resolve_program last written ≡ Ok p →
    (list_all is_within (openings written) ≡ true) ↔ IsWithinLimits p

-- each text has one reading or one error, and no text has both; what is read is lawful
pub record ReadingsAgree : Type 0 where
  pub some : (bytes : List ℕ) →
      ((p : ProgramTree) × CText bytes p) ⊎ ((fault : CFault) × CFaultOf bytes fault)
  pub one : (bytes : List ℕ) (p q : ProgramTree) → CText bytes p → CText bytes q → p ≡ q
  pub one_fault : (bytes : List ℕ) (f g : CFault) → CFaultOf bytes f → CFaultOf bytes g → f ≡ g
  pub apart : (bytes : List ℕ) (p : ProgramTree) (fault : CFault) → CText bytes p →
      CFaultOf bytes fault → ⊥
  pub lawful : (bytes : List ℕ) (p : ProgramTree) → CText bytes p → IsLawful p
