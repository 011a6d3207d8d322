-- What `gen` does where nothing fails, by the way in which it ended.
use Rattle.std.proofs.Common.{◌≡◌, ℕ, inl, inr, List, ◌++◌, refl, ap, subst, ◌∙◌}
use Rattle.std.specs.Prelude.{Option, Some, None}
use Rattle.std.specs.Io.KnownBytes.{append_known}
use Rattle.base_refusals.specs.Refusals.{plain_refusal}
use Rattle.base_fixed_point.specs.declared.types.FixType.{FixType}
use Rattle.tool_traces.specs.declared.rows.BadLine.{BadLine}
use Rattle.diagram_meaning.specs.ResolvedTable.{ResolvedTable, diagram_of_table}
use Rattle.c_semantics.specs.Rows.{Rows}
use Rattle.tool_compiled.specs.Compilation.{root_types}
use Rattle.tool_generator.specs.Models.{model_text, trace_text}
use Rattle.tool_runner.specs.declared.outcome.Totals.{Totals}
use Rattle.tool_runner.specs.Runs.{totals_of}
use Rattle.tool_endings.specs.declared.ending.Ending.{Ending}
use Rattle.tool_endings.specs.declared.ending.Ending.TheVariants.{Ran, Refused, WriteFault, PutFault, NoMemory}
use Rattle.tool_words.specs.Words.{Gen}
use Rattle.tool_endings.specs.Told.{HostTold, SinkTold}
use Rattle.tool_endings.specs.Texts.{totals_line}
use Rattle.tool_endings.specs.Runs.{rows_in, rows_over, bad_line, PutsTicks}
use Rattle.tool_endings.specs.EndingsOfGenerating.{WritesBoth, line_of, with_line}
use Rattle.tool_endings.specs.Endings.{status_of, text_of, PutsWhole, Finds}
use Rattle.tool_endings.specs.Statuses.{IsPlain}
use Rattle.tool_endings.specs.Headline.{last_line, run_text, MakesAccepted, Makes}
use Rattle.tool_ending_laws.proofs.OneAnswer.{OneVerdict, accepted_only, same_resolution}
use Rattle.tool_ending_laws.proofs.PutTexts.{put_both, run_lines, tells_refusal, refusal_unsaid}
use Rattle.tool_endings.proofs.lemmas.TraceTypes.{rows-trace}

module _ (start size : ℕ) (model code : List ℕ) (h h' : HostTold) (w : WritesBoth start size model code h h') where
  abbrev types : List FixType
  types = root_types (diagram_of_table w.resolved)

  -- what the code that was written gives over the trace
  abbrev given : Rows
  given = rows_over w.right.code.program types (trace_text start size)

  -- the compiled line and what the run prints
  both-texts : (b before b' : SinkTold) (bad : Option BadLine) (last : List ℕ) → given.stuck_place ≡ None →
      bad_line types (trace_text start size) ≡ bad → last ≡ last_line given.ticks None bad →
      PutsTicks given.ticks (with_line b w.compilation) before → PutsWhole last before b' →
      b'.bytes
      ≡ append_known b.bytes (line_of w.compilation ++ run_text w.right.code.program types (trace_text start size))
  both-texts b before b' bad last free good text ticks whole =
      run_lines w.right.code.program types (trace_text start size) (with_line b w.compilation) before b' None bad last
      free good text ticks whole
      ∙ put_both b.bytes (line_of w.compilation) (run_text w.right.code.program types (trace_text start size))

  -- a run to the end of the trace
  ran : (s : ℕ) (b before b' : SinkTold) (totals : Totals) → s ≡ 0 → given.stuck_place ≡ None →
      bad_line types (trace_text start size) ≡ None → totals ≡ totals_of given.ticks →
      PutsTicks given.ticks (with_line b w.compilation) before → PutsWhole (text_of (Ran totals)) before b' →
      MakesAccepted w.resolved start size s model code h h' b b'
  ran s b before b' totals is free good taken ticks whole = record {
    status = inl is;
    done = λ _. record {
      compilation = w.compilation;
      right = w.right;
      noted = w.noted;
      written = w.written;
      outputs =
          w.right.code.code.runs.outputs (rows_in types (trace_text start size))
          (rows-trace (diagram_of_table w.resolved) (trace_text start size));
      lines = both-texts b before b' None (text_of (Ran totals)) free good
          (ap (λ (t : Totals). totals_line t.ticks t.steps t.calls) taken) ticks whole;
    };
  }

  -- what is shown for the diagram of the model that was compiled holds of that of its verdict
  for-verdict : OneVerdict → (s : ℕ) (b b' : SinkTold) → MakesAccepted w.resolved start size s model code h h' b b' →
      Makes start size s model code h h' b b'
  for-verdict one s b b' shown = record {
    accepted =
        λ r accepts. subst (λ (x : ResolvedTable). MakesAccepted x start size s model code h h' b b')
        (same_resolution one (model_text start size) w.resolved r w.verdict accepts) shown;
    refused = λ refusal refuses. absurd (accepted_only one (model_text start size) w.resolved refusal w.verdict refuses);
  }

pub generate_memory : (start size s : ℕ) (model code : List ℕ) (h h' : HostTold) (b b' : SinkTold) → s ≡ 10 →
    Makes start size s model code h h' b b'
generate_memory start size s model code h h' b b' is = record {
  accepted = λ r accepts. record { status = inr is; done = λ zero. cc };
  refused = λ refusal refuses. refusal_unsaid refusal s h h' b b' is;
}

pub generate_does : OneVerdict →
    (e : Ending) (s start size : ℕ) (model code : List ℕ) (h h' : HostTold) (b before b' : SinkTold) →
    Finds e (Some (Gen start size model code)) h h' b before → IsPlain (status_of e) → s ≡ status_of e →
    PutsWhole (text_of e) before b' → Makes start size s model code h h' b b'
generate_does one (Ran totals) s start size model code h h' b before b' ends plain is whole =
    for-verdict start size model code h h' ends.both one s b b'
    (ran start size model code h h' ends.both s b before b' totals is ends.runs.free ends.runs.good ends.runs.totals
    ends.runs.lines whole)
generate_does one (Refused refusal) s start size model code h h' b before b' ends plain is whole = record {
  accepted = λ r accepts. absurd (accepted_only one (model_text start size) r (plain_refusal refusal) accepts ends.0.verdict);
  refused =
      λ other refuses. tells_refusal one (plain_refusal refusal) other (model_text start size) s h h' b before b' is
      ends.0.verdict refuses ends.0.left.written ends.1 whole;
}
generate_does one WriteFault s start size model code h h' b before b' ends plain is whole = absurd (plain.no_write_fault refl)
generate_does one PutFault s start size model code h h' b before b' ends plain is whole = absurd (plain.no_put_fault refl)
generate_does one NoMemory s start size model code h h' b before b' ends plain is whole = absurd (plain.no_want_of_memory refl)
generate_does one _ s start size model code h h' b before b' ends plain is whole = absurd ends
