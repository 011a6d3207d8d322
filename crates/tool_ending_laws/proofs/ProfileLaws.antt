-- What `profile` does where nothing fails, by the way in which it ended.
use Rattle.std.proofs.Common.{◌≡◌, ℕ, inl, inr, List, refl, subst, arith}
use Rattle.std.specs.Prelude.{Some}
use Rattle.base_refusals.specs.Refusals.{plain_refusal}
use Rattle.diagram_meaning.specs.ResolvedTable.{ResolvedTable, diagram_of_table}
use Rattle.modules_report.specs.Reports.{IsReportText}
use Rattle.modules_interfaces.specs.Interfaces.{IsReportOf}
use Rattle.tool_endings.specs.declared.ending.Ending.{Ending}
use Rattle.tool_endings.specs.declared.ending.Ending.TheVariants.{Reported, Refused, ReadFault, NoMemory}
use Rattle.tool_words.specs.Words.{Profile}
use Rattle.tool_endings.specs.Told.{HostTold, SinkTold}
use Rattle.tool_endings.specs.Endings.{status_of, text_of, PutsWhole, Finds}
use Rattle.tool_endings.specs.Statuses.{IsPlain, IfFile}
use Rattle.tool_endings.specs.Headline.{Profiles}
use Rattle.tool_endings.proofs.lemmas.Files.{known_file, named}
use Rattle.tool_ending_laws.proofs.OneAnswer.{OneVerdict, accepted_only, same_resolution}
use Rattle.tool_ending_laws.proofs.PutTexts.{put_alone, tells_refusal, refusal_unsaid}

-- the report was made and printed
reported : OneVerdict → (text model : List ℕ) (s : ℕ) (h h' : HostTold) (b before b' : SinkTold) → s ≡ 0 →
    h'.written ≡ h.written → before ≡ b → PutsWhole text before b' → IsReportOf model text → Profiles model s h h' b b'
reported one text model s h h' b before b' is written same whole report = record {
  unwritten = written;
  accepted = λ r accepts. record {
    status = inl is;
    done = λ zero. (
      text,
      subst (λ (x : ResolvedTable). IsReportText (diagram_of_table x) text)
          (same_resolution one model report.resolved r report.verdict accepts) report.report,
      put_alone b before b' text same whole,
    );
  };
  refused = λ refusal refuses. absurd (accepted_only one model report.resolved refusal report.verdict refuses);
}

pub profile_memory : (model : List ℕ) (s : ℕ) (h h' : HostTold) (b b' : SinkTold) → s ≡ 10 → h'.written ≡ h.written →
    Profiles model s h h' b b'
profile_memory model s h h' b b' is written = record {
  unwritten = written;
  accepted = λ r accepts. record { status = inr is; done = λ zero. absurd (omega (arith, is, zero)) };
  refused = λ refusal refuses. refusal_unsaid refusal s h h' b b' is;
}

pub profile_does : OneVerdict → (e : Ending) (s : ℕ) (model : List ℕ) (h h' : HostTold) (b before b' : SinkTold) →
    Finds e (Some (Profile model)) h h' b before → IsPlain (status_of e) → s ≡ status_of e →
    PutsWhole (text_of e) before b' → IfFile h model (λ bytes. Profiles bytes s h h' b b')
profile_does one (Reported text) s model h h' b before b' ends plain is whole =
    known_file h.files h.rest model (named h model ends.0.model) (λ bytes report.
    reported one text.items bytes s h h' b before b' is ends.0.left.written ends.1 whole report)
profile_does one (Refused refusal) s model h h' b before b' ends plain is whole =
    known_file h.files h.rest model (named h model ends.0.model) (λ bytes v. record {
      unwritten = ends.0.written;
      accepted = λ r accepts. absurd (accepted_only one bytes r (plain_refusal refusal) accepts v);
      refused =
          λ other refuses. tells_refusal one (plain_refusal refusal) other bytes s h h' b before b' is v refuses
          ends.0.written ends.1 whole;
    })
profile_does one ReadFault s model h h' b before b' ends plain is whole = absurd (plain.no_read_fault refl)
profile_does one NoMemory s model h h' b before b' ends plain is whole = absurd (plain.no_want_of_memory refl)
profile_does one _ s model h h' b before b' ends plain is whole = absurd ends.0
