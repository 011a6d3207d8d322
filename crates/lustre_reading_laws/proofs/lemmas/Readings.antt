-- Each text has one reading, or else one first error; and recursive descent finds it.
use Rattle.std.proofs.Common.{◌≡◌, ◌⊎◌, inl, inr, refl, sym, ◌∙◌, ap, subst, ℕ, List, Bool, true, false, Option, Some, None, Result, Ok, Err}
use Rattle.std.specs.List.{list_all}
use Rattle.c_syntax.specs.declared.fault.CFault.{CFault}
use Rattle.c_grammar.specs.Tokens.{Token}
use Rattle.c_rules.proofs.lemmas.Resolved.{ok-same}
use Rattle.lustre_syntax.specs.Tree.{FileTree}
use Rattle.lustre_grammar.specs.Tokens.{tokens_of, last_line}
use Rattle.lustre_grammar.specs.Written.{WrittenFile}
use Rattle.lustre_grammar.specs.Grammar.{Spells}
use Rattle.lustre_grammar.specs.Prefix.{file_needs, token_fault}
use Rattle.lustre_grammar.specs.Parsing.{parse_file}
use Rattle.lustre_grammar.specs.ParsedText.{parse_text}
use Rattle.lustre_grammar.specs.Openings.{openings, is_within}
use Rattle.lustre_grammar.specs.FaultLaws.{FaultlessIsSpelled}
use Rattle.lustre_grammar.proofs.lemmas.File.{parsing_agrees}
use Rattle.lustre_rules.specs.Resolve.{resolve_file}
use Rattle.lustre_rules.specs.Reading.{IsRuleFault, LustreText, LustreFaultOf}
use Rattle.lustre_reading_laws.specs.ReadingLaws.{HasOneReading, HasOneFault, TextsAreJudged, ReadingsAreLawful}
use Rattle.lustre_reading_laws.proofs.Depths.{file_within}
use Rattle.lustre_reading_laws.proofs.OpeningDepths.{file-opens}
use Rattle.lustre_reading_laws.proofs.SpelledNodes.{file-parsed, file-too_deep}
use Rattle.lustre_reading_laws.proofs.LawfulReadings.{ResolvedFile, file-resolved}

ok-err : {A E : Type 0} (r : Result A E) (x : A) (fault : E) → r ≡ Ok x → r ≡ Err fault → ⊥
ok-err r x fault e h = cc

-- what is parsed is within the limit
pub parsed-within : (last : ℕ) (tokens : List Token) (w : WrittenFile) → parse_file last tokens ≡ Ok w → file_within w ≡ true
parsed-within last tokens w e = by (file_within w) refl
  where
    by : (b : Bool) → file_within w ≡ b → b ≡ true
    by true h = refl
    by false h =
        let f : _ = file-too_deep last w tokens (parsing_agrees.read last tokens w e).0 h in
        absurd (ok-err (parse_file last tokens) w f.0 e f.1)

-- what tokens without an error spell is parsed
pub faultless-parsed : (last : ℕ) (tokens : List Token) (w : WrittenFile) → Spells tokens w →
    token_fault file_needs last tokens ≡ None → parse_file last tokens ≡ Ok w
faultless-parsed last tokens w spelled none = by (file_within w) refl
  where
    by : (b : Bool) → file_within w ≡ b → parse_file last tokens ≡ Ok w
    by true h = file-parsed last w tokens spelled h
    by false h =
        let f : _ = file-too_deep last w tokens spelled h in
        let some : token_fault file_needs last tokens ≡ Some f.0 = parsing_agrees.refused last tokens f.0 f.1 in
        cc

module _ (bytes : List ℕ) where
  abbrev first_of : Option CFault
  first_of = token_fault file_needs (last_line bytes) (tokens_of bytes)

  -- a text whose names are resolved
  pub text-read : (w : WrittenFile) (f : FileTree) → parse_text bytes ≡ Ok w → resolve_file w ≡ Ok f → LustreText bytes f
  text-read w f e resolved =
      let p : Spells (tokens_of bytes) w × (first_of ≡ None) = parsing_agrees.read (last_line bytes) (tokens_of bytes) w e in
      let r : ResolvedFile w f = file-resolved w (tokens_of bytes) f p.0 resolved in
      record {
        written = w;
        spelled = p.0;
        resolved = resolved;
        limit = r.limit.0 (parsed-within (last_line bytes) (tokens_of bytes) w e);
      }

  -- a text with an error of the grammar
  pub text-refused : (fault : CFault) → parse_text bytes ≡ Err fault → LustreFaultOf bytes fault
  text-refused fault e =
      subst (λ o. IsRuleFault o bytes fault) (sym (parsing_agrees.refused (last_line bytes) (tokens_of bytes) fault e)) refl

  -- a text that breaks a rule
  pub rule-broken : (w : WrittenFile) (fault : CFault) → parse_text bytes ≡ Ok w → resolve_file w ≡ Err fault → LustreFaultOf bytes fault
  rule-broken w fault e broken =
      let p : Spells (tokens_of bytes) w × (first_of ≡ None) = parsing_agrees.read (last_line bytes) (tokens_of bytes) w e in
      subst (λ o. IsRuleFault o bytes fault) (sym p.1) (w, p.0, broken)

  -- the file that is written in a text that is read
  text-parsed : (f : FileTree) (text : LustreText bytes f) → parse_text bytes ≡ Ok text.written
  text-parsed f text =
      file-parsed (last_line bytes) text.written (tokens_of bytes) text.spelled
      ((file-resolved text.written (tokens_of bytes) f text.spelled text.resolved).limit.1 text.limit)

  one-file : (f g : FileTree) → LustreText bytes f → LustreText bytes g → f ≡ g
  one-file f g a b =
      let same : a.written ≡ b.written = ok-same a.written b.written (sym (text-parsed f a) ∙ text-parsed g b) in
      ok-same f g (sym a.resolved ∙ ap resolve_file same ∙ b.resolved)

  -- an error is one of the grammar, or of what is parsed
  data Told (fault : CFault) : Type 0 where
    among_tokens : first_of ≡ Some fault → Told fault
    by_rule : (w : WrittenFile) → first_of ≡ None → parse_text bytes ≡ Ok w → resolve_file w ≡ Err fault → Told fault

  fault-told : (fault : CFault) → LustreFaultOf bytes fault → Told fault
  fault-told fault h = by first_of refl h
    where
      by : (o : Option CFault) → first_of ≡ o → IsRuleFault o bytes fault → Told fault
      by (Some first) e k = among_tokens (e ∙ ap Some (sym k))
      by None e k = by_rule k.0 e (faultless-parsed (last_line bytes) (tokens_of bytes) k.0 k.1 e) k.2

  one-fault : (f g : CFault) → LustreFaultOf bytes f → LustreFaultOf bytes g → f ≡ g
  one-fault f g a b = by (fault-told f a) (fault-told g b)
    where
      by : Told f → Told g → f ≡ g
      by (among_tokens e) (among_tokens k) = let same : Some f ≡ Some g = sym e ∙ k in cc
      by (among_tokens e) (by_rule w k p r) = let same : Some f ≡ None = sym e ∙ k in cc
      by (by_rule w e p r) (among_tokens k) = let same : None ≡ Some g = sym e ∙ k in cc
      by (by_rule w e p r) (by_rule v k q s) =
          let same : w ≡ v = ok-same w v (sym p ∙ q) in
          let faults : Err f ≡ Err g = sym r ∙ ap resolve_file same ∙ s in
          cc

  apart : (f : FileTree) (fault : CFault) → LustreText bytes f → LustreFaultOf bytes fault → ⊥
  apart f fault text h = by (fault-told fault h)
    where
      by : Told fault → ⊥
      by (among_tokens e) =
          let none : first_of ≡ None =
          (parsing_agrees.read (last_line bytes) (tokens_of bytes) text.written (text-parsed f text)).1 in
          cc
      by (by_rule w e p r) =
          let same : w ≡ text.written = ok-same w text.written (sym p ∙ text-parsed f text) in
          ok-err (resolve_file w) f fault (ap resolve_file same ∙ text.resolved) r

  judged : HasOneReading bytes ⊎ HasOneFault bytes
  judged = by (parse_text bytes) refl
    where
      refused : (fault : CFault) → LustreFaultOf bytes fault → HasOneFault bytes
      refused fault first =
          record {
            fault = fault;
            first = first;
            one = λ other h. one-fault other fault h first;
            unread = λ file text. apart file fault text first;
          }

      resolved : (w : WrittenFile) → parse_text bytes ≡ Ok w → (r : Result FileTree CFault) → resolve_file w ≡ r →
          HasOneReading bytes ⊎ HasOneFault bytes
      resolved w e (Ok f) k =
          let text : LustreText bytes f = text-read w f e k in
          inl (record {
            file = f;
            read = text;
            one = λ other h. one-file other f h text;
            faultless = λ fault h. apart f fault text h;
          })
      resolved w e (Err fault) k = inr (refused fault (rule-broken w fault e k))

      by : (r : Result WrittenFile CFault) → parse_text bytes ≡ r → HasOneReading bytes ⊎ HasOneFault bytes
      by (Ok w) e = resolved w e (resolve_file w) refl
      by (Err fault) e = inr (refused fault (text-refused fault e))

pub texts_are_judged : TextsAreJudged
texts_are_judged bytes = judged bytes

-- tokens have no error exactly where they spell a file within the limit
pub faultless_is_spelled : FaultlessIsSpelled
faultless_is_spelled last tokens = (to, from)
  where
    parsed : (r : Result WrittenFile CFault) → parse_file last tokens ≡ r → token_fault file_needs last tokens ≡ None →
        (w : WrittenFile) × Spells tokens w × (list_all is_within (openings w) ≡ true)
    parsed (Ok w) e none = (
      w,
      (parsing_agrees.read last tokens w e).0,
      file-opens w ∙ parsed-within last tokens w e,
    )
    parsed (Err fault) e none =
        let some : token_fault file_needs last tokens ≡ Some fault = parsing_agrees.refused last tokens fault e in
        cc

    to : token_fault file_needs last tokens ≡ None → (w : WrittenFile) × Spells tokens w × (list_all is_within (openings w) ≡ true)
    to none = parsed (parse_file last tokens) refl none

    from : (w : WrittenFile) × Spells tokens w × (list_all is_within (openings w) ≡ true) → token_fault file_needs last tokens ≡ None
    from h =
        (parsing_agrees.read last tokens h.0 (file-parsed last h.0 tokens h.1 (sym (file-opens h.0) ∙ h.2))).1

-- what is read is lawful
pub readings_are_lawful : ReadingsAreLawful
readings_are_lawful bytes f text =
    (file-resolved text.written (tokens_of bytes) f text.spelled text.resolved).lawful text.limit
