-- What `flow` does where nothing fails, by the way in which it ended.
use Rattle.std.proofs.Common.{◌≡◌, ◌≢◌, ℕ, ◌<◌, ◌≤◌, inl, inr, List, ◌++◌, length, refl, sym, ap, subst, ◌∙◌, arith}
use Rattle.std.specs.Prelude.{Option, Some, None}
use Rattle.std.specs.Io.KnownBytes.{append_known}
use Rattle.c_syntax.specs.declared.fault.CFault.{CFault}
use Rattle.lustre_syntax.specs.Tree.{FileTree}
use Rattle.lustre_rules.specs.Reading.{LustreFaultOf}
use Rattle.lustre_flows.specs.declared.stuck.LusStuck.{LusStuck}
use Rattle.lustre_flows.specs.Flows.{flows}
use Rattle.lustre_reading_laws.specs.ReadingLaws.{TextsAreJudged}
use Rattle.tool_traces.specs.declared.rows.BadLine.{BadLine}
use Rattle.tool_flow_runner.specs.FlowTraces.{flow_rows, flow_bad_line, flow_lines}
use Rattle.tool_endings.specs.declared.ending.Ending.{Ending}
use Rattle.tool_endings.specs.declared.ending.Ending.TheVariants.{Flowed, BadTrace, LustreRefused, LustreTooLong, FlowStuck, ReadFault, PutFault, NoMemory}
use Rattle.tool_words.specs.Words.{Flow}
use Rattle.tool_endings.specs.Told.{HostTold, SinkTold}
use Rattle.tool_endings.specs.Texts.{ticks_line, lustre_refused_line, long_lustre_line}
use Rattle.tool_endings.specs.EndingsOfRuns.{code_limit}
use Rattle.tool_endings.specs.EndingsOfFlows.{ReadsLustre}
use Rattle.tool_endings.specs.Endings.{status_of, text_of, PutsWhole, Finds}
use Rattle.tool_endings.specs.Statuses.{IsPlain, IfFile, flow_status, flow_status_over}
use Rattle.tool_endings.specs.Headline.{Tells, last_flow_line, flow_text, Flows}
use Rattle.tool_endings.proofs.lemmas.Files.{any_file, known_file, named}
use Rattle.tool_ending_laws.proofs.OneAnswer.{same_file, same_fault, read_only}
use Rattle.tool_ending_laws.proofs.PutTexts.{put_alone, put_both, tells_memory}
use Rattle.tool_ending_laws.proofs.StatusLaws.{flow_over}

-- what flows print that end at this place, at this bad line, or at neither
told-flows : (f : FileTree) (lines : List ℕ) (s : ℕ) (b before b' : SinkTold) (place : Option LusStuck)
    (bad : Option BadLine) (last : List ℕ) → (flows f (flow_rows f lines)).stuck_place ≡ place → flow_bad_line f lines ≡ bad →
    s ≡ flow_status place bad → last ≡ last_flow_line (length (flow_rows f lines)) place bad →
    before.bytes ≡ append_known b.bytes (flow_lines f (flow_rows f lines)) → PutsWhole last before b' →
    Tells (flow_status_over f lines) (flow_text f lines) s b b'
told-flows f lines s b before b' place bad last free good is text put whole =
    let rows = flow_rows f lines in record {
      status = inl (is ∙ flow_over f lines place bad free good);
      put = λ _. whole.text
          ∙ ap (λ (o : Option (List ℕ)). append_known o last) put
          ∙ put_both b.bytes (flow_lines f rows) last
          ∙ ap (λ (x : List ℕ). append_known b.bytes (flow_lines f rows ++ x)) (text
          ∙ sym (ap (λ (x : Option LusStuck). last_flow_line (length rows) x (flow_bad_line f lines)) free
          ∙ ap (last_flow_line (length rows) place) good));
    }

flow-status-small : (place : Option LusStuck) (bad : Option BadLine) → flow_status place bad ≢ 10
flow-status-small (Some at) bad = λ e. omega arith
flow-status-small None (Some line) = λ e. omega arith
flow-status-small None None = λ e. omega arith

module _ (bytes trace : List ℕ) (s : ℕ) (h h' : HostTold) (b b' : SinkTold) where
  pub flow_memory : s ≡ 10 → h'.written ≡ h.written → Flows bytes trace s h h' b b'
  flow_memory is written = record {
    unwritten = written;
    long = λ long. tells_memory 11 long_lustre_line s b b' is (λ e. omega arith);
    unread = λ fits fault refuses. tells_memory 11 (lustre_refused_line fault) s b b' is (λ e. omega arith);
    runs = λ fits f text. any_file h.files h.rest trace (λ lines.
        tells_memory (flow_status_over f lines) (flow_text f lines) s b b' is
        (flow-status-small (flows f (flow_rows f lines)).stuck_place (flow_bad_line f lines)));
  }

  -- of a file that was read, what is shown for its tree holds of each reading
  flowed : TextsAreJudged → (x : ReadsLustre bytes) → h'.written ≡ h.written →
      IfFile h trace (λ lines. Tells (flow_status_over x.tree lines) (flow_text x.tree lines) s b b') →
      Flows bytes trace s h h' b b'
  flowed judged x written over = record {
    unwritten = written;
    long = λ long. let fits = x.fits in absurd (omega (arith, long, fits));
    unread = λ fits fault is. absurd (read_only judged bytes x.tree fault x.reading is);
    runs = λ fits f text. subst
        (λ (g : FileTree). IfFile h trace (λ lines. Tells (flow_status_over g lines) (flow_text g lines) s b b'))
        (same_file judged bytes x.tree f x.reading text) over;
  }

  -- a text that is no file
  unread : TextsAreJudged → (fault : CFault) (before : SinkTold) → s ≡ 11 → length bytes ≤ code_limit →
      LustreFaultOf bytes fault → h'.written ≡ h.written → before ≡ b → PutsWhole (lustre_refused_line fault) before b' →
      Flows bytes trace s h h' b b'
  unread judged fault before is within refuses written same whole = record {
    unwritten = written;
    long = λ long. absurd (omega (arith, long, within));
    unread = λ fits other also. record {
      status = inl is;
      put = λ _. put_alone b before b' (lustre_refused_line fault) same whole
          ∙ ap (λ (x : CFault). append_known b.bytes (lustre_refused_line x)) (same_fault judged bytes fault other refuses also);
    };
    runs = λ fits f text. absurd (read_only judged bytes f fault text refuses);
  }

  -- a file that is too long
  too-long : (before : SinkTold) → s ≡ 11 → code_limit < length bytes → h'.written ≡ h.written → before ≡ b →
      PutsWhole long_lustre_line before b' → Flows bytes trace s h h' b b'
  too-long before is beyond written same whole = record {
    unwritten = written;
    long = λ long. record { status = inl is; put = λ _. put_alone b before b' long_lustre_line same whole };
    unread = λ fits fault refuses. absurd (omega (arith, beyond, fits));
    runs = λ fits f text. absurd (omega (arith, beyond, fits));
  }

pub flow_does : TextsAreJudged → (e : Ending) (s : ℕ) (file trace : List ℕ) (h h' : HostTold) (b before b' : SinkTold) →
    Finds e (Some (Flow file trace)) h h' b before → IsPlain (status_of e) → s ≡ status_of e →
    PutsWhole (text_of e) before b' → IfFile h file (λ bytes. Flows bytes trace s h h' b b')
flow_does judged (Flowed ticks) s file trace h h' b before b' ends plain is whole =
    known_file h.files h.rest file (named h file ends.file) (λ bytes x.
    flowed bytes trace s h h' b b' judged x.file ends.left.written
    (known_file h.files h.rest trace (named h trace x.runs) (λ lines run.
    told-flows x.file.tree lines s b before b' None None (ticks_line ticks) run.whole.free run.whole.rows_only is
    (ap ticks_line run.count) run.whole.lines whole)))
flow_does judged (BadTrace line) s file trace h h' b before b' ends plain is whole =
    known_file h.files h.rest file (named h file ends.file) (λ bytes x.
    flowed bytes trace s h h' b b' judged x.file ends.left.written
    (known_file h.files h.rest trace (named h trace x.runs) (λ lines run.
    told-flows x.file.tree lines s b before b' None (Some line) (text_of (BadTrace line)) run.free run.first_bad is refl run.lines whole)))
flow_does judged (FlowStuck at) s file trace h h' b before b' ends plain is whole =
    known_file h.files h.rest file (named h file ends.file) (λ bytes x.
    flowed bytes trace s h h' b b' judged x.file ends.left.written
    (known_file h.files h.rest trace (named h trace x.runs) (λ lines run.
    told-flows x.file.tree lines s b before b' (Some at) (flow_bad_line x.file.tree lines) (text_of (FlowStuck at)) run.stuck refl is refl
    run.lines whole)))
flow_does judged (LustreRefused fault) s file trace h h' b before b' ends plain is whole =
    known_file h.files h.rest file (named h file ends.code) (λ bytes x.
    unread bytes trace s h h' b b' judged fault before is x.0 x.1 ends.left.written ends.silent whole)
flow_does judged LustreTooLong s file trace h h' b before b' ends plain is whole =
    known_file h.files h.rest file (named h file ends.code) (λ bytes long.
    too-long bytes trace s h h' b b' before is long ends.left.written ends.silent whole)
flow_does judged ReadFault s file trace h h' b before b' ends plain is whole = absurd (plain.no_read_fault refl)
flow_does judged PutFault s file trace h h' b before b' ends plain is whole = absurd (plain.no_put_fault refl)
flow_does judged NoMemory s file trace h h' b before b' ends plain is whole = absurd (plain.no_want_of_memory refl)
flow_does judged _ s file trace h h' b before b' ends plain is whole = absurd ends
