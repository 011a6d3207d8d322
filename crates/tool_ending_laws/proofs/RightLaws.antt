-- That what is asked for is done where nothing fails, by the way in which a call ended.
use Rattle.std.proofs.Common.{◌≡◌, ◌≢◌, ◌⊎◌, ℕ, ◌<◌, ◌≤◌, inl, inr, List, length, refl, sym, ap, subst, ◌∙◌, arith}
use Rattle.std.specs.Prelude.{Option, Some, None}
use Rattle.std.specs.Io.KnownBytes.{append_known}
use Rattle.std.proofs.lemmas.Bool.Decides.{eqb_tells}
use Rattle.base_refusals.specs.Refusals.{plain_refusal}
use Rattle.base_fixed_point.specs.declared.types.FixType.{FixType}
use Rattle.base_host.specs.Files.{add_file}
use Rattle.diagram_meaning.specs.ResolvedTable.{ResolvedTable, diagram_of_table}
use Rattle.tool_traces.specs.declared.rows.BadLine.{BadLine}
use Rattle.c_syntax.specs.declared.fault.CFault.{CFault}
use Rattle.c_syntax.specs.declared.fault.Stuck.{Stuck}
use Rattle.c_syntax.specs.Tree.{ProgramTree}
use Rattle.c_semantics.specs.Cells.{Cells}
use Rattle.c_semantics.specs.Machine.{After, done, stuck}
use Rattle.c_semantics.specs.Rows.{start_run}
use Rattle.c_rules.specs.Reading.{CFaultOf}
use Rattle.c_reading_laws.specs.Agreement.{ReadingsAgree}
use Rattle.lustre_reading_laws.specs.ReadingLaws.{TextsAreJudged}
use Rattle.lustre_agreement.specs.BackEnds.{RightFilesAgree}
use Rattle.emit_notes.specs.ModelNotes.{HasNotesOf}
use Rattle.tool_compiled.specs.Compilation.{Compilation, root_types, IsCompilationOf}
use Rattle.tool_runner.specs.declared.outcome.Totals.{Totals}
use Rattle.tool_endings.specs.declared.ending.Ending.{Ending}
use Rattle.tool_endings.specs.declared.ending.Ending.TheVariants.{Compiled, Ran, Refused, BadTrace, CodeRefused, CodeTooLong, Stuck as IsStuck, ReadFault, WriteFault, PutFault, NoMemory}
use Rattle.tool_system_driver.specs.SystemShapes.{ShapesAreOne}
use Rattle.tool_words.specs.Words.{Asked, Compile, Run, Exec, Profile, Drive, Gen, Lustre, Flow}
use Rattle.tool_endings.specs.Told.{HostTold, SinkTold}
use Rattle.tool_endings.specs.Texts.{compiled_line, totals_line, code_refused_line, long_code_line, stuck_line}
use Rattle.tool_endings.specs.Runs.{HasStepTypes, rows_in, rows_over, bad_line, PutsTicks}
use Rattle.tool_endings.specs.EndingsOfModels.{WritesCode}
use Rattle.tool_endings.specs.EndingsOfRuns.{code_limit, WritesWhole, StartsCode, IsStuckAtStart}
use Rattle.tool_endings.specs.Endings.{status_of, text_of, PutsWhole, Finds, EndsAt}
use Rattle.tool_endings.specs.Statuses.{IsPlain, IfFile, run_status, status_over}
use Rattle.tool_endings.specs.Headline.{Tells, Compiles, last_line, run_text, RunsAccepted, Runs, Executes, Does, DoesRight}
use Rattle.tool_endings.proofs.lemmas.Files.{any_file, known_file, named}
use Rattle.tool_ending_laws.proofs.EndingLaws.{SaysFound, says_found, calm_plain}
use Rattle.tool_ending_laws.proofs.OneAnswer.{OneVerdict, accepted_only, same_resolution, same_types}
use Rattle.tool_endings.proofs.lemmas.TraceTypes.{rows-trace}
use Rattle.tool_ending_laws.proofs.PutTexts.{put_alone, run_lines, tells_memory, tells_refusal, refusal_unsaid}
use Rattle.tool_ending_laws.proofs.Unwritten.{exec_unwritten, profile_unwritten, flow_unwritten}
use Rattle.tool_ending_laws.proofs.ProfileLaws.{profile_does, profile_memory}
use Rattle.tool_ending_laws.proofs.DrivesRight.{drive_does, drive_memory}
use Rattle.tool_ending_laws.proofs.GenerateLaws.{generate_does, generate_memory}
use Rattle.tool_ending_laws.proofs.LustreLaws.{lustre_does, lustre_memory}
use Rattle.tool_ending_laws.proofs.FlowLaws.{flow_does, flow_memory}

-- ---- `compile`

compiled : OneVerdict → (rows systems functions : ℕ) (model : List ℕ) (s : ℕ) (code : List ℕ) (h h' : HostTold)
    (b before b' : SinkTold) → s ≡ 0 → before ≡ b → PutsWhole (compiled_line rows systems functions) before b' →
    WritesCode rows systems functions code model h h' → Compiles model s code h h' b b'
compiled one rows systems functions model s code h h' b before b' is same whole (c, from, r, y, f, written) = record {
  accepted = λ d accepts. record {
    status = inl is;
    done = λ zero. record {
      compilation = c;
      right = subst (λ (x : ResolvedTable). IsCompilationOf x c)
          (same_resolution one model from.resolved d from.verdict accepts) from.compiled;
      noted = from.noted;
      written = written;
      line = rw (r, y, f) (put_alone b before b' (compiled_line rows systems functions) same whole);
    };
  };
  refused = λ refusal refuses. absurd (accepted_only one model from.resolved refusal from.verdict refuses);
}

compile-memory : (model : List ℕ) (s : ℕ) (code : List ℕ) (h h' : HostTold) (b b' : SinkTold) → s ≡ 10 → Compiles model s code h h' b b'
compile-memory model s code h h' b b' is = record {
  accepted = λ d accepts. record { status = inr is; done = λ zero. absurd (omega (arith, is, zero)) };
  refused = λ refusal refuses. refusal_unsaid refusal s h h' b b' is;
}

compile-does : OneVerdict → (e : Ending) (s : ℕ) (model code : List ℕ) (h h' : HostTold) (b before b' : SinkTold) →
    Finds e (Some (Compile model code)) h h' b before → IsPlain (status_of e) → s ≡ status_of e →
    PutsWhole (text_of e) before b' → IfFile h model (λ bytes. Compiles bytes s code h h' b b')
compile-does one (Compiled rows systems functions) s model code h h' b before b' ends plain is whole =
    known_file h.files h.rest model (named h model ends.0.model)
    (λ bytes w. compiled one rows systems functions bytes s code h h' b before b' is ends.1 whole w)
compile-does one (Refused refusal) s model code h h' b before b' ends plain is whole =
    known_file h.files h.rest model (named h model ends.0.model) (λ bytes v. record {
      accepted = λ d accepts. absurd (accepted_only one bytes d (plain_refusal refusal) accepts v);
      refused =
          λ other refuses. tells_refusal one (plain_refusal refusal) other bytes s h h' b before b' is v refuses
          ends.0.written ends.1 whole;
    })
compile-does one ReadFault s model code h h' b before b' ends plain is whole = absurd (plain.no_read_fault refl)
compile-does one WriteFault s model code h h' b before b' ends plain is whole = absurd (plain.no_write_fault refl)
compile-does one NoMemory s model code h h' b before b' ends plain is whole = absurd (plain.no_want_of_memory refl)
compile-does one _ s model code h h' b before b' ends plain is whole = absurd ends.0

-- ---- `run`

-- a run to the end of the trace, or to its first bad line
ran : (r : ResolvedTable) (model lines : List ℕ) (s : ℕ) (code : List ℕ) (h h' : HostTold) (b before b' : SinkTold)
    (c : Compilation) (right : IsCompilationOf r c) → HasNotesOf model c.code → (bad : Option BadLine) (last : List ℕ) →
    h'.written ≡ add_file h.written code c.code → s ≡ run_status None bad →
    bad_line (root_types (diagram_of_table r)) lines ≡ bad →
    (rows_over right.code.program (root_types (diagram_of_table r)) lines).stuck_place ≡ None →
    last ≡ last_line (rows_over right.code.program (root_types (diagram_of_table r)) lines).ticks None bad →
    PutsTicks (rows_over right.code.program (root_types (diagram_of_table r)) lines).ticks b before →
    PutsWhole last before b' → RunsAccepted r model lines s code h h' b b'
ran r model lines s code h h' b before b' c right noted bad last written is first free text ticks whole = record {
  status = inl (is ∙ ap (run_status None) (sym first));
  done = λ _. record {
    compilation = c;
    right = right;
    noted = noted;
    written = written;
    outputs = right.code.code.runs.outputs (rows_in (root_types (diagram_of_table r)) lines) (rows-trace (diagram_of_table r) lines);
    lines = run_lines right.code.program (root_types (diagram_of_table r)) lines b before b' None bad last free first text ticks whole;
  };
}

-- of a model that was compiled, what is shown for its diagram holds of that of its verdict
for-diagram : OneVerdict → (bytes trace : List ℕ) (s : ℕ) (code : List ℕ) (h h' : HostTold) (b b' : SinkTold)
    (w : WritesWhole code bytes h h') → IfFile h trace (λ lines. RunsAccepted w.resolved bytes lines s code h h' b b') →
    Runs bytes trace s code h h' b b'
for-diagram one bytes trace s code h h' b b' w shown = record {
  accepted = λ d accepts. subst (λ (x : ResolvedTable). IfFile h trace (λ lines. RunsAccepted x bytes lines s code h h' b b'))
      (same_resolution one bytes w.resolved d w.verdict accepts) shown;
  refused = λ refusal refuses. absurd (accepted_only one bytes w.resolved refusal w.verdict refuses);
}

run-memory : (model trace : List ℕ) (s : ℕ) (code : List ℕ) (h h' : HostTold) (b b' : SinkTold) → s ≡ 10 → Runs model trace s code h h' b b'
run-memory model trace s code h h' b b' is = record {
  accepted = λ d accepts. any_file h.files h.rest trace (λ lines. record { status = inr is; done = λ other. absurd (other is) });
  refused = λ refusal refuses. refusal_unsaid refusal s h h' b b' is;
}

run-does : OneVerdict → (e : Ending) (s : ℕ) (model code trace : List ℕ) (h h' : HostTold) (b before b' : SinkTold) →
    Finds e (Some (Run model code trace)) h h' b before → IsPlain (status_of e) → s ≡ status_of e →
    PutsWhole (text_of e) before b' → IfFile h model (λ bytes. Runs bytes trace s code h h' b b')
run-does one (Ran totals) s model code trace h h' b before b' ends plain is whole =
    known_file h.files h.rest model (named h model ends.model)
    (λ bytes m. for-diagram one bytes trace s code h h' b b' m.whole
    (known_file h.files h.rest trace (named h trace m.runs) (λ lines run.
    ran m.whole.resolved bytes lines s code h h' b before b' m.whole.compilation m.whole.right m.whole.noted None
    (text_of (Ran totals)) m.whole.written is run.good run.free
    (ap (λ (t : Totals). totals_line t.ticks t.steps t.calls) run.totals) run.lines whole)))
run-does one (BadTrace line) s model code trace h h' b before b' ends plain is whole =
    known_file h.files h.rest model (named h model ends.model)
    (λ bytes m. for-diagram one bytes trace s code h h' b b' m.whole
    (known_file h.files h.rest trace (named h trace m.runs) (λ lines run.
    ran m.whole.resolved bytes lines s code h h' b before b' m.whole.compilation m.whole.right m.whole.noted (Some line)
    (text_of (BadTrace line)) m.whole.written is run.bad run.free refl run.lines whole)))
run-does one (Refused refusal) s model code trace h h' b before b' ends plain is whole =
    known_file h.files h.rest model (named h model ends.0.model) (λ bytes v. record {
      accepted = λ d accepts. absurd (accepted_only one bytes d (plain_refusal refusal) accepts v);
      refused =
          λ other refuses. tells_refusal one (plain_refusal refusal) other bytes s h h' b before b' is v refuses
          ends.0.written ends.1 whole;
    })
run-does one ReadFault s model code trace h h' b before b' ends plain is whole = absurd (plain.no_read_fault refl)
run-does one WriteFault s model code trace h h' b before b' ends plain is whole = absurd (plain.no_write_fault refl)
run-does one PutFault s model code trace h h' b before b' ends plain is whole = absurd (plain.no_put_fault refl)
run-does one NoMemory s model code trace h h' b before b' ends plain is whole = absurd (plain.no_want_of_memory refl)
run-does one _ s model code trace h h' b before b' ends plain is whole = absurd ends

-- ---- `exec`

apart : (after : After) (at : Stuck) (cells : Cells) → done after ≡ stuck at cells → ⊥
apart after at cells e = cc

-- of code that has started, what is shown for its program and its types holds of each reading
executed : ReadingsAgree → (bytes trace : List ℕ) (s : ℕ) (h h' : HostTold) (b b' : SinkTold) (x : StartsCode bytes) →
    h'.written ≡ h.written →
    IfFile h trace (λ lines. Tells (status_over x.program x.types lines) (run_text x.program x.types lines) s b b') →
    Executes bytes trace s h h' b b'
executed agree bytes trace s h h' b b' x written over = record {
  unwritten = written;
  long = λ long. let fits = x.fits in absurd (omega (arith, long, fits));
  unread = λ fits fault is. absurd (agree.apart bytes x.program fault x.reading is);
  stuck = λ fits p text at cells start.
      absurd (apart x.after at cells (sym x.start ∙ ap start_run (agree.one bytes x.program p x.reading text) ∙ start));
  runs = λ fits p text after start types inputs.
      let same : x.program ≡ p = agree.one bytes x.program p x.reading text in
      let typed : x.types ≡ types =
      same_types p x.types types (agree.lawful bytes p text)
      (subst (λ (q : ProgramTree). HasStepTypes q x.types) same x.inputs) inputs in
      subst (λ (t : List FixType). IfFile h trace (λ lines. Tells (status_over p t lines) (run_text p t lines) s b b')) typed
      (subst (λ (q : ProgramTree). IfFile h trace
      (λ lines. Tells (status_over q x.types lines) (run_text q x.types lines) s b b')) same over);
}

-- what is reported of a run that was not stuck, or stuck in one of its ticks
told-run : (p : ProgramTree) (types : List FixType) (lines : List ℕ) (s : ℕ) (b before b' : SinkTold)
    (place : Option Stuck) (bad : Option BadLine) → (rows_over p types lines).stuck_place ≡ place →
    bad_line types lines ≡ bad → s ≡ run_status place bad → PutsTicks (rows_over p types lines).ticks b before →
    PutsWhole (last_line (rows_over p types lines).ticks place bad) before b' →
    Tells (status_over p types lines) (run_text p types lines) s b b'
told-run p types lines s b before b' place bad free good is ticks whole = record {
  status = inl (is ∙ sym (ap (λ (x : Option Stuck). run_status x (bad_line types lines)) free ∙ ap (run_status place) good));
  put = λ _. run_lines p types lines b before b' place bad (last_line (rows_over p types lines).ticks place bad) free good refl ticks whole;
}

run-status-small : (place : Option Stuck) (bad : Option BadLine) → run_status place bad ≢ 10
run-status-small (Some at) bad = λ e. omega arith
run-status-small None (Some line) = λ e. omega arith
run-status-small None None = λ e. omega arith

exec-memory : (bytes trace : List ℕ) (s : ℕ) (h h' : HostTold) (b b' : SinkTold) → s ≡ 10 → h'.written ≡ h.written →
    Executes bytes trace s h h' b b'
exec-memory bytes trace s h h' b b' is written = record {
  unwritten = written;
  long = λ long. tells_memory 8 long_code_line s b b' is (λ e. omega arith);
  unread = λ fits fault refuses. tells_memory 8 (code_refused_line fault) s b b' is (λ e. omega arith);
  stuck = λ fits p text at cells start. tells_memory 9 (stuck_line at) s b b' is (λ e. omega arith);
  runs = λ fits p text after start types inputs. any_file h.files h.rest trace (λ lines.
      tells_memory (status_over p types lines) (run_text p types lines) s b b' is
      (run-status-small (rows_over p types lines).stuck_place (bad_line types lines)));
}

-- code that is no program
exec-unread : ReadingsAgree →
    (fault : CFault) (bytes trace : List ℕ) (s : ℕ) (h h' : HostTold) (b before b' : SinkTold) → s ≡ 8 →
    length bytes ≤ code_limit → CFaultOf bytes fault → h'.written ≡ h.written → before ≡ b →
    PutsWhole (code_refused_line fault) before b' → Executes bytes trace s h h' b b'
exec-unread agree fault bytes trace s h h' b before b' is within refuses written same whole = record {
  unwritten = written;
  long = λ long. absurd (omega (arith, long, within));
  unread = λ fits other also. record {
    status = inl is;
    put = λ _. put_alone b before b' (code_refused_line fault) same whole
        ∙ ap (λ (f : CFault). append_known b.bytes (code_refused_line f))
        (agree.one_fault bytes fault other refuses also);
  };
  stuck = λ fits p text at cells start. absurd (agree.apart bytes p fault text refuses);
  runs = λ fits p text after start types inputs. absurd (agree.apart bytes p fault text refuses);
}

-- code that is too long
exec-long : (bytes trace : List ℕ) (s : ℕ) (h h' : HostTold) (b before b' : SinkTold) → s ≡ 8 →
    code_limit < length bytes → h'.written ≡ h.written → before ≡ b → PutsWhole long_code_line before b' →
    Executes bytes trace s h h' b b'
exec-long bytes trace s h h' b before b' is beyond written same whole = record {
  unwritten = written;
  long = λ long. record { status = inl is; put = λ _. put_alone b before b' long_code_line same whole };
  unread = λ fits other also. absurd (omega (arith, beyond, fits));
  stuck = λ fits p text at cells start. absurd (omega (arith, beyond, fits));
  runs = λ fits p text after start types inputs. absurd (omega (arith, beyond, fits));
}

-- code that is stuck in its start
exec-start : ReadingsAgree → (at : Stuck) (bytes trace : List ℕ) (s : ℕ) (h h' : HostTold) (b before b' : SinkTold) →
    s ≡ 9 → IsStuckAtStart at bytes → h'.written ≡ h.written → before ≡ b → PutsWhole (stuck_line at) before b' →
    Executes bytes trace s h h' b b'
exec-start agree at bytes trace s h h' b before b' is x written same whole = record {
  unwritten = written;
  long = λ long. let fits = x.fits in absurd (omega (arith, long, fits));
  unread = λ fits fault refuses. absurd (agree.apart bytes x.program fault x.reading refuses);
  stuck = λ fits p text other cells start. record {
    status = inl is;
    put = λ _. put_alone b before b' (stuck_line at) same whole
        ∙ ap (λ (y : Stuck). append_known b.bytes (stuck_line y))
        (one-place at other x.cells cells (sym x.start ∙ ap start_run (agree.one bytes x.program p x.reading text)
        ∙ start));
  };
  runs = λ fits p text after start types inputs.
      absurd (never x.cells at after (sym x.start ∙ ap start_run (agree.one bytes x.program p x.reading text) ∙ start));
}
  where
    one-place : (at other : Stuck) (c d : Cells) → stuck at c ≡ stuck other d → at ≡ other
    one-place at other c d e = cc

    never : (c : Cells) (at : Stuck) (after : After) → stuck at c ≡ done after → ⊥
    never c at after e = cc

exec-stuck : ReadingsAgree → (at : Stuck) (s : ℕ) (code trace : List ℕ) (h h' : HostTold) (b before b' : SinkTold) →
    Finds (IsStuck at) (Some (Exec code trace)) h h' b before → s ≡ 9 → PutsWhole (stuck_line at) before b' →
    IfFile h code (λ bytes. Executes bytes trace s h h' b b')
exec-stuck agree at s code trace h h' b before b' (inl ends) is whole =
    known_file h.files h.rest code (named h code ends.code)
    (λ bytes x. exec-start agree at bytes trace s h h' b before b' is x ends.left.written ends.silent whole)
exec-stuck agree at s code trace h h' b before b' (inr ends) is whole =
    known_file h.files h.rest code (named h code ends.code)
    (λ bytes x. executed agree bytes trace s h h' b b' x.starts ends.left.written
    (known_file h.files h.rest trace (named h trace x.runs) (λ lines run.
    told-run x.starts.program x.starts.types lines s b before b' (Some at)
    (bad_line x.starts.types lines) run.stuck refl is run.lines whole)))

exec-does : ReadingsAgree → (e : Ending) (s : ℕ) (code trace : List ℕ) (h h' : HostTold) (b before b' : SinkTold) →
    Finds e (Some (Exec code trace)) h h' b before → IsPlain (status_of e) → s ≡ status_of e →
    PutsWhole (text_of e) before b' → IfFile h code (λ bytes. Executes bytes trace s h h' b b')
exec-does agree (Ran totals) s code trace h h' b before b' ends plain is whole =
    known_file h.files h.rest code (named h code ends.code)
    (λ bytes x. executed agree bytes trace s h h' b b' x.starts ends.left.written
    (known_file h.files h.rest trace (named h trace x.runs) (λ lines run.
    told-run x.starts.program x.starts.types lines s b before b' None None run.free run.good is run.lines
    (subst (λ (t : Totals). PutsWhole (totals_line t.ticks t.steps t.calls) before b') run.totals whole))))
exec-does agree (BadTrace line) s code trace h h' b before b' ends plain is whole =
    known_file h.files h.rest code (named h code ends.code)
    (λ bytes x. executed agree bytes trace s h h' b b' x.starts ends.left.written
    (known_file h.files h.rest trace (named h trace x.runs) (λ lines run.
    told-run x.starts.program x.starts.types lines s b before b' None (Some line) run.free run.bad is run.lines whole)))
exec-does agree (IsStuck at) s code trace h h' b before b' ends plain is whole =
    exec-stuck agree at s code trace h h' b before b' ends is whole
exec-does agree (CodeRefused fault) s code trace h h' b before b' ends plain is whole =
    known_file h.files h.rest code (named h code ends.code)
    (λ bytes x. exec-unread agree fault bytes trace s h h' b before b' is x.0 x.1 ends.left.written ends.silent
    whole)
exec-does agree CodeTooLong s code trace h h' b before b' ends plain is whole =
    known_file h.files h.rest code (named h code ends.code)
    (λ bytes long. exec-long bytes trace s h h' b before b' is long ends.left.written ends.silent whole)
exec-does agree ReadFault s code trace h h' b before b' ends plain is whole = absurd (plain.no_read_fault refl)
exec-does agree PutFault s code trace h h' b before b' ends plain is whole = absurd (plain.no_put_fault refl)
exec-does agree NoMemory s code trace h h' b before b' ends plain is whole = absurd (plain.no_want_of_memory refl)
exec-does agree _ s code trace h h' b before b' ends plain is whole = absurd ends

-- ---- All

does : OneVerdict → ReadingsAgree → TextsAreJudged → RightFilesAgree → ShapesAreOne → (e : Ending) (s : ℕ) (a : Option Asked)
    (h h' : HostTold) (b before b' : SinkTold) → Finds e a h h' b before → IsPlain (status_of e) → s ≡ status_of e →
    PutsWhole (text_of e) before b' → Does s a h h' b b'
does one agree judged files shapes e s None h h' b before b' ends plain is whole = tt
does one agree judged files shapes e s (Some (Compile model code)) h h' b before b' ends plain is whole =
    compile-does one e s model code h h' b before b' ends plain is whole
does one agree judged files shapes e s (Some (Run model code trace)) h h' b before b' ends plain is whole =
    run-does one e s model code trace h h' b before b' ends plain is whole
does one agree judged files shapes e s (Some (Exec code trace)) h h' b before b' ends plain is whole =
    exec-does agree e s code trace h h' b before b' ends plain is whole
does one agree judged files shapes e s (Some (Profile model)) h h' b before b' ends plain is whole =
    profile_does one e s model h h' b before b' ends plain is whole
does one agree judged files shapes e s (Some (Drive model code word script)) h h' b before b' ends plain is whole =
    drive_does one shapes e s model code word script h h' b before b' ends plain is whole
does one agree judged files shapes e s (Some (Gen start size model code)) h h' b before b' ends plain is whole =
    generate_does one e s start size model code h h' b before b' ends plain is whole
does one agree judged files shapes e s (Some (Lustre model file)) h h' b before b' ends plain is whole =
    lustre_does one files e s model file h h' b before b' ends plain is whole
does one agree judged files shapes e s (Some (Flow file trace)) h h' b before b' ends plain is whole =
    flow_does judged e s file trace h h' b before b' ends plain is whole

-- running out of memory, whatever was found
starved : (e : Ending) (s : ℕ) (a : Option Asked) (h h' : HostTold) (b before b' : SinkTold) → s ≡ 10 →
    Finds e a h h' b before → Does s a h h' b b'
starved e s None h h' b before b' is ends = tt
starved e s (Some (Compile model code)) h h' b before b' is ends =
    any_file h.files h.rest model (λ bytes. compile-memory bytes s code h h' b b' is)
starved e s (Some (Run model code trace)) h h' b before b' is ends =
    any_file h.files h.rest model (λ bytes. run-memory bytes trace s code h h' b b' is)
starved e s (Some (Exec code trace)) h h' b before b' is ends =
    any_file h.files h.rest code (λ bytes. exec-memory bytes trace s h h' b b' is (exec_unwritten e code trace h h' b before ends))
starved e s (Some (Profile model)) h h' b before b' is ends =
    any_file h.files h.rest model (λ bytes. profile_memory bytes s h h' b b' is (profile_unwritten e model h h' b before ends))
starved e s (Some (Drive model code word script)) h h' b before b' is ends =
    any_file h.files h.rest model (λ bytes. drive_memory word script code bytes s h h' b b' is)
starved e s (Some (Gen start size model code)) h h' b before b' is ends = generate_memory start size s model code h h' b b' is
starved e s (Some (Lustre model file)) h h' b before b' is ends =
    any_file h.files h.rest model (λ bytes. lustre_memory bytes s file h h' b b' is)
starved e s (Some (Flow file trace)) h h' b before b' is ends =
    any_file h.files h.rest file (λ bytes. flow_memory bytes trace s h h' b b' is (flow_unwritten e file trace h h' b before ends))

pub does_right : OneVerdict → ReadingsAgree → TextsAreJudged → RightFilesAgree → ShapesAreOne → (s : ℕ) (a : Option Asked) (h h' : HostTold)
    (b b' : SinkTold) → EndsAt s a h h' b b' → DoesRight s a h h' b b'
does_right one agree judged files shapes s a h h' b b' e calm = by (eqb_tells s 10)
  where
    by : {A B : Type 0} → (A × (s ≡ 10)) ⊎ (B × (s ≢ 10)) → Does s a h h' b b'
    by (inl ten) = starved e.found s a h h' b e.before b' ten.1 e.ends.finds
    by (inr other) =
        let plain : IsPlain s = calm_plain s a h h' b b' e calm other.1 in
        let f : SaysFound s a h h' b b' = says_found s a h h' b b' e plain.no_put_fault other.1 in
        does one agree judged files shapes f.found s a h h' b f.before b' f.ends.finds (subst IsPlain f.status plain) f.status f.whole
