-- Each text has one reading or one error, and no text has both.
use Rattle.std.proofs.Common.{◌≡◌, refl, sym, ◌∙◌, ap, ℕ, ◌⊎◌, inl, inr, List, Option, Some, None, Result, Ok, Err, Bool, true, false, subst}
use Rattle.c_syntax.specs.declared.fault.CFault.{CFault}
use Rattle.c_syntax.specs.declared.fault.CKind.TheVariants.{Syntax}
use Rattle.c_grammar.specs.Tokens.{Token, has_header, tokens_of, last_line}
use Rattle.c_syntax.specs.Tree.{ProgramTree}
use Rattle.c_grammar.specs.Written.{WrittenProgram}
use Rattle.c_grammar.specs.Grammar.{Spells}
use Rattle.c_grammar.specs.Prefix.{file_needs, token_fault, fault_at}
use Rattle.c_rules.specs.Resolve.{resolve_program}
use Rattle.c_rules.specs.Reading.{CText, CFaultOf, IsRuleFault, IsFaultBehind}
use Rattle.c_reading_laws.specs.Agreement.{IsFile, LacksHeader, StopsAmongTokens, BreaksRule, RefusalsAgree, ReadingsAgree}
use Rattle.c_rules.proofs.lemmas.Resolved.{ok-same}
use Rattle.c_reading_laws.proofs.TokenFaults.{faults_agree, no_fault-within}
use Rattle.c_reading_laws.proofs.Limits.{program-limits}
use Rattle.c_reading_laws.proofs.LawfulReadings.{text-lawful}
use Rattle.c_reading_laws.proofs.lemmas.ParsedFile.{one_written}

-- the tokens of a text, and its first error among them
abbrev first_of : List ℕ → Option CFault
first_of bytes = token_fault file_needs (last_line bytes) (tokens_of bytes)

-- a text without an error of tokens is a file within the limits
pub file-there : (bytes : List ℕ) → first_of bytes ≡ None → IsFile (tokens_of bytes)
file-there bytes e = (faults_agree (tokens_of bytes) (last_line bytes) None).0 e

-- a program that a text without such an error spells, and what it stands for
pub text-read : (bytes : List ℕ) (written : WrittenProgram) (p : ProgramTree) → has_header bytes ≡ true →
    Spells (tokens_of bytes) written → first_of bytes ≡ None → resolve_program (last_line bytes) written ≡ Ok p →
    CText bytes p
text-read bytes written p header spelled none resolved =
    record {
      header = header;
      written = written;
      spelled = spelled;
      resolved = resolved;
      limits =
          (program-limits (last_line bytes) written p resolved).0
          (no_fault-within (tokens_of bytes) (last_line bytes) written spelled none);
    }

pub some-answer : (bytes : List ℕ) → ((p : ProgramTree) × CText bytes p) ⊎ ((fault : CFault) × CFaultOf bytes fault)
some-answer bytes = by_header (has_header bytes) refl
  where
    by_rules : (file : IsFile (tokens_of bytes)) (r : Result ProgramTree CFault) →
        resolve_program (last_line bytes) file.program ≡ r → has_header bytes ≡ true → first_of bytes ≡ None →
        ((p : ProgramTree) × CText bytes p) ⊎ ((fault : CFault) × CFaultOf bytes fault)
    by_rules file (Ok p) e header none =
        inl (p, text-read bytes file.program p header file.spelled none e)
    by_rules file (Err fault) e header none =
        inr (
          fault,
          subst (λ b. IsFaultBehind b bytes fault) (sym header)
              (subst (λ o. IsRuleFault o bytes fault) (sym none) (file.program, file.spelled, e)),
        )

    by_tokens : (o : Option CFault) → first_of bytes ≡ o → has_header bytes ≡ true →
        ((p : ProgramTree) × CText bytes p) ⊎ ((fault : CFault) × CFaultOf bytes fault)
    by_tokens (Some fault) e header =
        inr (fault, subst (λ b. IsFaultBehind b bytes fault) (sym header) (subst (λ o. IsRuleFault o bytes fault) (sym e) refl))
    by_tokens None e header =
        let file : IsFile (tokens_of bytes) = file-there bytes e in
        by_rules file (resolve_program (last_line bytes) file.program) refl header e

    by_header : (b : Bool) → has_header bytes ≡ b → ((p : ProgramTree) × CText bytes p) ⊎ ((fault : CFault) × CFaultOf bytes fault)
    by_header false e = inr (fault_at 1 Syntax, subst (λ b. IsFaultBehind b bytes (fault_at 1 Syntax)) (sym e) refl)
    by_header true e = by_tokens (first_of bytes) refl e

refusal-said : (bytes : List ℕ) (fault : CFault) (header : Bool) → has_header bytes ≡ header →
    IsFaultBehind header bytes fault → LacksHeader bytes fault ⊎ StopsAmongTokens bytes fault ⊎ BreaksRule bytes fault
refusal-said bytes fault false header f = inl (record { lacks = header; is = f })
refusal-said bytes fault true header f = by (first_of bytes) refl f
  where
    by : (o : Option CFault) → first_of bytes ≡ o → IsRuleFault o bytes fault →
        LacksHeader bytes fault ⊎ StopsAmongTokens bytes fault ⊎ BreaksRule bytes fault
    by (Some first) e k =
        inr (inl
        (record {
          header = header;
          first = (faults_agree (tokens_of bytes) (last_line bytes) (Some fault)).0 (e ∙ ap Some (sym k));
        }))
    by None e k =
        inr (inr
        (record {
          header = header;
          file = record {
            program = k.0;
            spelled = k.1;
            within = no_fault-within (tokens_of bytes) (last_line bytes) k.0 k.1 e;
          };
          broken = k.2;
        }))

refusal-is : (bytes : List ℕ) (fault : CFault) →
    LacksHeader bytes fault ⊎ StopsAmongTokens bytes fault ⊎ BreaksRule bytes fault → CFaultOf bytes fault
refusal-is bytes fault (inl l) = subst (λ b. IsFaultBehind b bytes fault) (sym l.lacks) l.is
refusal-is bytes fault (inr (inl s)) =
    subst (λ b. IsFaultBehind b bytes fault) (sym s.header)
    (subst (λ o. IsRuleFault o bytes fault)
    (sym ((faults_agree (tokens_of bytes) (last_line bytes) (Some fault)).1 s.first)) refl)
refusal-is bytes fault (inr (inr b)) =
    subst (λ c. IsFaultBehind c bytes fault) (sym b.header)
    (subst (λ o. IsRuleFault o bytes fault) (sym ((faults_agree (tokens_of bytes) (last_line bytes) None).1 b.file))
    (b.file.program, b.file.spelled, b.broken))

pub refusals_agree : RefusalsAgree
refusals_agree bytes fault = (λ f. refusal-said bytes fault (has_header bytes) refl f, λ r. refusal-is bytes fault r)

-- what is read has no error among its tokens
pub read-no_fault : (bytes : List ℕ) (p : ProgramTree) → CText bytes p → first_of bytes ≡ None
read-no_fault bytes p text =
    (faults_agree (tokens_of bytes) (last_line bytes) None).1
    (record {
      program = text.written;
      spelled = text.spelled;
      within = (program-limits (last_line bytes) text.written p text.resolved).1 text.limits;
    })

err-same : {A E : Type 0} (x y : E) → ◌≡◌ {A = Result A E} (Err x) (Err y) → x ≡ y
err-same {A} {E} x y e = ap by e
  where
    by : Result A E → E
    by (Ok z) = x
    by (Err z) = z

-- tokens that spell a program spell no other
abbrev pub OneWritten : Type 0
OneWritten = (tokens : List Token) (p q : WrittenProgram) → Spells tokens p → Spells tokens q → p ≡ q

module _ (one_written : OneWritten) where
  pub one-reading : (bytes : List ℕ) (p q : ProgramTree) → CText bytes p → CText bytes q → p ≡ q
  one-reading bytes p q a b =
      let same : a.written ≡ b.written = one_written (tokens_of bytes) a.written b.written a.spelled b.spelled in
      ok-same p q (sym a.resolved ∙ ap (resolve_program (last_line bytes)) same ∙ b.resolved)

  pub one-fault : (bytes : List ℕ) (f g : CFault) → CFaultOf bytes f → CFaultOf bytes g → f ≡ g
  one-fault bytes f g a b = by_header (has_header bytes) a b
    where
      by_tokens : (o : Option CFault) → IsRuleFault o bytes f → IsRuleFault o bytes g → f ≡ g
      by_tokens (Some fault) h k = h ∙ sym k
      by_tokens None h k =
          err-same f g (sym h.2 ∙ ap (resolve_program (last_line bytes)) (one_written (tokens_of bytes) h.0 k.0 h.1 k.1)
          ∙ k.2)

      by_header : (c : Bool) → IsFaultBehind c bytes f → IsFaultBehind c bytes g → f ≡ g
      by_header false h k = h ∙ sym k
      by_header true h k = by_tokens (first_of bytes) h k

  pub apart : (bytes : List ℕ) (p : ProgramTree) (fault : CFault) → CText bytes p → CFaultOf bytes fault → ⊥
  apart bytes p fault text f =
      let rule : IsRuleFault None bytes fault =
      subst (λ o. IsRuleFault o bytes fault) (read-no_fault bytes p text)
      (subst (λ b. IsFaultBehind b bytes fault) text.header f) in
      cc (sym text.resolved
      ∙ ap (resolve_program (last_line bytes))
      (one_written (tokens_of bytes) text.written rule.0 text.spelled rule.1) ∙ rule.2)

pub readings_agree : ReadingsAgree
readings_agree =
    record {
      some = some-answer;
      one = one-reading one_written;
      one_fault = one-fault one_written;
      apart = apart one_written;
      lawful = text-lawful;
    }
