-- What `lustre` does where nothing fails, by the way in which it ended.
use Rattle.std.proofs.Common.{◌≡◌, ℕ, inl, inr, List, refl, sym, ap, subst, ◌∙◌, arith}
use Rattle.std.specs.Prelude.{Option, Some, None}
use Rattle.std.specs.Io.KnownBytes.{append_known}
use Rattle.base_core.specs.declared.base.Place.{Place}
use Rattle.base_refusals.specs.Refusals.{plain_refusal}
use Rattle.diagram_meaning.specs.ResolvedTable.{ResolvedTable, diagram_of_table}
use Rattle.diagram_verdict.specs.Verdict.{HasVerdict, Accepted}
use Rattle.lustre_right.specs.LongDelays.{long_delay}
use Rattle.lustre_agreement.specs.BackEnds.{RightFilesAgree}
use Rattle.tool_endings.specs.declared.ending.Ending.{Ending}
use Rattle.tool_endings.specs.declared.ending.Ending.TheVariants.{Noded, Refused, LustreLong, ReadFault, WriteFault, NoMemory}
use Rattle.tool_words.specs.Words.{Lustre}
use Rattle.tool_endings.specs.Told.{HostTold, SinkTold}
use Rattle.tool_endings.specs.Texts.{nodes_line, long_delay_line}
use Rattle.tool_endings.specs.EndingsOfLustre.{WritesLustre}
use Rattle.tool_endings.specs.Endings.{status_of, text_of, PutsWhole, Finds}
use Rattle.tool_endings.specs.Statuses.{IsPlain, IfFile}
use Rattle.tool_endings.specs.Headline.{WritesAccepted, Translates}
use Rattle.tool_endings.proofs.lemmas.Files.{known_file, named}
use Rattle.tool_ending_laws.proofs.OneAnswer.{OneVerdict, accepted_only, same_resolution}
use Rattle.tool_ending_laws.proofs.PutTexts.{put_alone, tells_memory, tells_refusal, refusal_unsaid}

module _ (model : List ℕ) (s : ℕ) (file : List ℕ) (h h' : HostTold) (b b' : SinkTold) where
  -- what is shown for the table that was accepted, by its long delay, holds of that of each verdict
  for-verdict : OneVerdict → (r : ResolvedTable) (long : Option Place) → HasVerdict model (Accepted r) →
      long_delay (diagram_of_table r) ≡ long → WritesAccepted long r s file h h' b b' → Translates model s file h h' b b'
  for-verdict one r long verdict is shown = record {
    accepted =
        λ other accepts. subst (λ (x : ResolvedTable). WritesAccepted (long_delay (diagram_of_table x)) x s file h h' b b')
        (same_resolution one model r other verdict accepts)
        (subst (λ (o : Option Place). WritesAccepted o r s file h h' b b') (sym is) shown);
    refused = λ refusal refuses. absurd (accepted_only one model r refusal verdict refuses);
  }

  -- the file was written whole
  noded : OneVerdict → RightFilesAgree → (nodes : ℕ) (before : SinkTold) → s ≡ 0 → before ≡ b → PutsWhole (nodes_line nodes) before b' →
      WritesLustre nodes file model h h' → Translates model s file h h' b b'
  noded one agree nodes before is same whole (bytes, from, written) =
      for-verdict one from.resolved None from.verdict from.short (record {
        status = inl is;
        done = λ zero. record {
          bytes = bytes;
          right = from.right;
          agrees = agree from.right.file from.resolved from.right.right;
          written = written;
          line = put_alone b before b' (nodes_line nodes) same whole
              ∙ ap (λ (n : ℕ). append_known b.bytes (nodes_line n)) from.count;
        };
      })

  memory-by : (r : ResolvedTable) (long : Option Place) → s ≡ 10 → WritesAccepted long r s file h h' b b'
  memory-by r None is = record { status = inr is; done = λ zero. absurd (omega (arith, is, zero)) }
  memory-by r (Some place) is = record {
    tells = tells_memory 11 (long_delay_line place) s b b' is (λ e. omega arith);
    unwritten = λ eleven. absurd (omega (arith, is, eleven));
  }

  pub lustre_memory : s ≡ 10 → Translates model s file h h' b b'
  lustre_memory is = record {
    accepted = λ r accepts. memory-by r (long_delay (diagram_of_table r)) is;
    refused = λ refusal refuses. refusal_unsaid refusal s h h' b b' is;
  }

pub lustre_does : OneVerdict → RightFilesAgree → (e : Ending) (s : ℕ) (model file : List ℕ) (h h' : HostTold) (b before b' : SinkTold) →
    Finds e (Some (Lustre model file)) h h' b before → IsPlain (status_of e) → s ≡ status_of e →
    PutsWhole (text_of e) before b' → IfFile h model (λ bytes. Translates bytes s file h h' b b')
lustre_does one agree (Noded nodes) s model file h h' b before b' ends plain is whole =
    known_file h.files h.rest model (named h model ends.0.model)
    (λ bytes w. noded bytes s file h h' b b' one agree nodes before is ends.1 whole w)
lustre_does one agree (Refused refusal) s model file h h' b before b' ends plain is whole =
    known_file h.files h.rest model (named h model ends.0.model) (λ bytes v. record {
      accepted = λ r accepts. absurd (accepted_only one bytes r (plain_refusal refusal) accepts v);
      refused =
          λ other refuses. tells_refusal one (plain_refusal refusal) other bytes s h h' b before b' is v refuses
          ends.0.written ends.1 whole;
    })
lustre_does one agree (LustreLong place) s model file h h' b before b' ends plain is whole =
    known_file h.files h.rest model (named h model ends.0.model) (λ bytes x.
    for-verdict bytes s file h h' b b' one x.0 (Some place) x.1 x.2 (record {
      tells = record { status = inl is; put = λ eleven. put_alone b before b' (long_delay_line place) ends.1 whole };
      unwritten = λ eleven. ends.0.left.written;
    }))
lustre_does one agree ReadFault s model file h h' b before b' ends plain is whole = absurd (plain.no_read_fault refl)
lustre_does one agree WriteFault s model file h h' b before b' ends plain is whole = absurd (plain.no_write_fault refl)
lustre_does one agree NoMemory s model file h h' b before b' ends plain is whole = absurd (plain.no_want_of_memory refl)
lustre_does one agree _ s model file h h' b before b' ends plain is whole = absurd ends.0
