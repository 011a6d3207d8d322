-- What a parse answers, beside what the needs say of the same tokens.
use Rattle.std.proofs.Common.{◌≡◌, subst, ℕ, List, Option, Some, Result, Ok, Err}
use Rattle.c_syntax.specs.declared.fault.CFault.{CFault}
use Rattle.c_grammar.specs.Tokens.{Token}
use Rattle.c_grammar.specs.Grammar.{Spelling}
use Rattle.base_core.specs.Results.{◌>>=◌}
use Rattle.lustre_grammar.specs.Prefix.{Need, token_fault}

-- a claim of the result, or the error that the needs report
abbrev pub Given : {X : Type 0} → Option CFault → (X → Type 0) → Result X CFault → Type 0
Given now claim (Ok x) = claim x
Given now claim (Err fault) = now ≡ Some fault

pub record Answers {X : Type 0} (now : Option CFault) (claim : X → Type 0) (answer : Result X CFault) : Type 0 where
  pub is : Given now claim answer

-- a spelling leaves the rest, and the needs of the tokens are those that are left of the rest
pub record Reads {X : Type 0} (last : ℕ) (now : Option CFault) (spelling : X → Spelling) (more : List Need)
    (tokens : List Token) (x : X × List Token) : Type 0 where
  pub spelled : spelling x.0 tokens ≡ Some x.1
  pub goes : now ≡ token_fault more last x.1

-- one parse and then another
pub chain : {X Y : Type 0} {now : Option CFault} {claim : X → Type 0} {aim : Y → Type 0} (answer : Result X CFault)
    (go : X → Result Y CFault) → Answers now claim answer → ((x : X) → claim x → Answers now aim (go x)) →
    Answers now aim (answer >>= go)
chain (Ok x) go a later = later x a.is
chain (Err fault) go a later = record { is = a.is }

-- a claim for another
pub turned : {X : Type 0} {now : Option CFault} {claim aim : X → Type 0} (answer : Result X CFault) →
    Answers now claim answer → ((x : X) → claim x → aim x) → Answers now aim answer
turned (Ok x) a later = record { is = later x a.is }
turned (Err fault) a later = record { is = a.is }

-- what is claimed of an answer that is a result, and of one that is an error
pub claimed : {X : Type 0} {now : Option CFault} {claim : X → Type 0} (answer : Result X CFault) (x : X) →
    Answers now claim answer → answer ≡ Ok x → claim x
claimed {X} {now} {claim} answer x a e = (subst (Answers now claim) e a).is

pub refused : {X : Type 0} {now : Option CFault} {claim : X → Type 0} (answer : Result X CFault) (fault : CFault) →
    Answers now claim answer → answer ≡ Err fault → now ≡ Some fault
refused {X} {now} {claim} answer fault a e = (subst (Answers now claim) e a).is
