-- To which status a call comes, by the way in which it ended.
use Rattle.std.proofs.Common.{◌≡◌, ◌≢◌, ℕ, ◌<◌, inl, inr, List, refl, sym, ap, subst, ◌∙◌, arith}
use Rattle.std.specs.Prelude.{Option, Some, None, IsSomeAnd}
use Rattle.base_refusals.specs.Refusals.{plain_refusal}
use Rattle.base_fixed_point.specs.declared.types.FixType.{FixType}
use Rattle.base_host.specs.Files.{lookup}
use Rattle.tool_traces.specs.declared.rows.BadLine.{BadLine}
use Rattle.c_syntax.specs.declared.fault.Stuck.{Stuck}
use Rattle.c_syntax.specs.Tree.{ProgramTree}
use Rattle.c_semantics.specs.Machine.{Outcome, done, stuck}
use Rattle.c_semantics.specs.Rows.{start_run, rows_of_start}
use Rattle.c_reading_laws.specs.Agreement.{ReadingsAgree}
use Rattle.diagram_meaning.specs.ResolvedTable.{ResolvedTable, diagram_of_table}
use Rattle.lustre_syntax.specs.Tree.{FileTree}
use Rattle.lustre_flows.specs.declared.stuck.LusStuck.{LusStuck}
use Rattle.lustre_flows.specs.Flows.{flows}
use Rattle.lustre_reading_laws.specs.ReadingLaws.{TextsAreJudged}
use Rattle.tool_compiled.specs.Compilation.{root_types}
use Rattle.tool_driver.specs.Driven.{Driven, shape_of}
use Rattle.tool_system_driver.specs.SystemShapes.{IsSystemOfModel, ShapesAreOne}
use Rattle.tool_system_driver.specs.Words.{system_named}
use Rattle.tool_script_runner.specs.ScriptEnds.{script_end}
use Rattle.tool_flow_runner.specs.FlowTraces.{flow_rows, flow_bad_line}
use Rattle.tool_endings.specs.declared.ending.Ending.{Ending}
use Rattle.tool_endings.specs.declared.ending.Ending.TheVariants.{Compiled, Ran, Reported, Noded, Flowed, Usage, Refused, BadTrace, BadScript, CodeRefused, CodeTooLong, Stuck as IsStuck, LustreRefused, LustreTooLong, LustreLong, FlowStuck, ReadFault, WriteFault, PutFault, NoMemory}
use Rattle.tool_endings.specs.declared.ending.ScriptStop.TheVariants.{NoSubsystem, Line, Call}
use Rattle.tool_words.specs.Words.{Asked, Compile, Run, Exec, Profile, Drive, Gen, Lustre, Flow}
use Rattle.tool_endings.specs.Told.{HostTold, SinkTold}
use Rattle.tool_endings.specs.Runs.{HasStepTypes, rows_in, rows_over, bad_line, RunsTo}
use Rattle.tool_endings.specs.EndingsOfModels.{OnBytes}
use Rattle.tool_endings.specs.EndingsOfRuns.{WritesWhole, RunsModel, StartsCode, ExecutesCode}
use Rattle.tool_endings.specs.Scripts.{DrivesTo}
use Rattle.tool_endings.specs.EndingsOfDriving.{WritesDriven, DrivesModel}
use Rattle.tool_endings.specs.EndingsOfFlows.{FlowsTo, ReadsLustre, RunsFlows}
use Rattle.tool_endings.specs.Endings.{status_of, Finds, EndsAt, IsSaidOf, Puts}
use Rattle.tool_endings.specs.Statuses.{IsPlain, IsExactly, ProgramComes, Comes, ComesExactly, OnTold, run_status, status_over, status_at, SystemComes, lustre_status, flow_status, flow_status_over}
use Rattle.tool_endings.specs.Calls.{IsExactAt}
use Rattle.tool_endings.proofs.lemmas.Files.{IfTold, named, there, at_there, told_one, told_two, told_any, told-map}
use Rattle.tool_ending_laws.specs.Laws.{StatusesAreExact, EachComesExactly}
use Rattle.tool_ending_laws.proofs.EndingLaws.{SaysFound, says_found}
use Rattle.tool_ending_laws.proofs.OneAnswer.{OneVerdict, comes-one}

-- where the files are reported, the status that is no error's is that to which the command comes
abbrev pub ComesTo : ℕ → Asked → HostTold → Type 0
ComesTo n a h = IfTold h.files h.rest (λ fs. IsPlain n → Comes a fs n)

-- a status that an error or running out of memory gives
not-plain : (n : ℕ) (a : Asked) (h : HostTold) → (IsPlain n → ⊥) → ComesTo n a h
not-plain n a h fault = told_any h.files h.rest (λ fs plain. absurd (fault plain))

-- ---- A run of a model's code

run-comes : (e : Ending) (model code trace : List ℕ) (h h' : HostTold) (b b' : SinkTold) →
    ((types : List FixType) (p : ProgramTree) (lines : List ℕ) → RunsTo e p types lines b b' →
    status_of e ≡ run_status None (bad_line types lines)) →
    OnBytes h model (λ bytes. RunsModel e trace code bytes h h' b b') → ComesTo (status_of e) (Run model code trace) h
run-comes e model code trace h h' b b' by_run found =
    told_two h.files h.rest model trace {X = λ bytes. WritesWhole code bytes h h'}
    {P = λ bytes (w : WritesWhole code bytes h h') lines.
    RunsTo e w.right.code.program (root_types (diagram_of_table w.resolved)) lines b b'}
    (there h.files h.rest model (named h model found) (λ bytes m. (m.whole, named h trace m.runs)))
    (λ fs known plain.
    at_there (lookup model fs) known
    (λ bytes k.
    inr (
      k.0.resolved,
      k.0.verdict,
      at_there (lookup trace fs) k.1
          (λ lines run. by_run (root_types (diagram_of_table k.0.resolved)) k.0.right.code.program lines run),
    )))

-- ---- A run of code

-- a program that is stuck in its start is stuck over each trace
pub comes-over : (p : ProgramTree) (types : List FixType) (trace : Option (List ℕ)) (n : ℕ) (o : Outcome) →
    start_run p ≡ o → HasStepTypes p types → IsSomeAnd trace (λ lines. n ≡ status_over p types lines) →
    ProgramComes p o trace n
comes-over p types trace n (done after) e k h = (types, k, h)
comes-over p types None n (stuck at cells) e k h = absurd h
comes-over p types (Some lines) n (stuck at cells) e k h =
    h ∙ ap (λ (o : Outcome). run_status (rows_of_start p o (rows_in types lines)).stuck_place (bad_line types lines)) e

exec-comes : (e : Ending) (code trace : List ℕ) (h h' : HostTold) (b b' : SinkTold) →
    ((types : List FixType) (p : ProgramTree) (lines : List ℕ) → RunsTo e p types lines b b' →
    status_of e ≡ status_over p types lines) → OnBytes h code (λ bytes. ExecutesCode e trace bytes h h' b b') →
    ComesTo (status_of e) (Exec code trace) h
exec-comes e code trace h h' b b' by_run found =
    told_two h.files h.rest code trace {X = StartsCode}
    {P = λ bytes (x : StartsCode bytes) lines. RunsTo e x.program x.types lines b b'}
    (there h.files h.rest code (named h code found) (λ bytes x. (x.starts, named h trace x.runs)))
    (λ fs known plain.
    at_there (lookup code fs) known
    (λ bytes k.
    inr (inr (
      k.0.fits,
      (
        k.0.program,
        k.0.reading,
        comes-over k.0.program k.0.types (lookup trace fs) (status_of e)
            (start_run k.0.program) refl k.0.inputs
            (at_there (lookup trace fs) k.1 (λ lines run. by_run k.0.types k.0.program lines run)),
      ),
    ))))

-- ---- A script on a system of a model

-- what is driven gives the status of the script's end
system-comes : ShapesAreOne → (r : ResolvedTable) (system : Option (Option ℕ)) (w : Driven) (script : Option (List ℕ)) (n : ℕ) →
    IsSystemOfModel r w.system w → system ≡ Some w.system → IsSomeAnd script (λ lines. n ≡ status_at (script_end (shape_of w) lines)) →
    SystemComes r system script n
system-comes shapes r system w script n of_model is ends =
    subst (λ (x : Option (Option ℕ)). SystemComes r x script n) (sym is) (shape_of w, shapes.of_driven r w.system w of_model, ends)

drive-comes : ShapesAreOne → (e : Ending) (model code word script : List ℕ) (h h' : HostTold) (b b' : SinkTold) →
    ((w : Driven) (lines : List ℕ) → DrivesTo e w lines b b' → status_of e ≡ status_at (script_end (shape_of w) lines)) →
    OnBytes h model (λ bytes. DrivesModel e word script code bytes h h' b b') → ComesTo (status_of e) (Drive model code word script) h
drive-comes shapes e model code word script h h' b b' by_end found =
    told_two h.files h.rest model script {X = λ bytes. WritesDriven word code bytes h h'}
    {P = λ bytes (w : WritesDriven word code bytes h h') lines. DrivesTo e w.driven lines b b'}
    (there h.files h.rest model (named h model found) (λ bytes m. (m.written, named h script m.drives)))
    (λ fs known plain. at_there (lookup model fs) known (λ bytes k.
    let w : WritesDriven word code bytes h h' = k.0 in
    let r = w.whole.resolved in
    inr (
      r,
      w.whole.verdict,
      system-comes shapes r (system_named r.table.rows word) w.driven (lookup script fs) (status_of e) w.of_model w.named
          (at_there (lookup script fs) k.1 (λ lines drives. by_end w.driven lines drives)),
    )))

-- ---- Flows of a file

pub flow_over : (f : FileTree) (lines : List ℕ) (place : Option LusStuck) (bad : Option BadLine) →
    (flows f (flow_rows f lines)).stuck_place ≡ place → flow_bad_line f lines ≡ bad →
    flow_status place bad ≡ flow_status_over f lines
flow_over f lines place bad free good =
    sym (ap (λ (x : Option LusStuck). flow_status x (flow_bad_line f lines)) free ∙ ap (flow_status place) good)

flow-comes : (e : Ending) (file trace : List ℕ) (h h' : HostTold) (b b' : SinkTold) →
    ((f : FileTree) (lines : List ℕ) → FlowsTo e f lines b b' → status_of e ≡ flow_status_over f lines) →
    OnBytes h file (λ bytes. RunsFlows e trace bytes h h' b b') → ComesTo (status_of e) (Flow file trace) h
flow-comes e file trace h h' b b' by_flows found =
    told_two h.files h.rest file trace {X = ReadsLustre} {P = λ bytes (x : ReadsLustre bytes) lines. FlowsTo e x.tree lines b b'}
    (there h.files h.rest file (named h file found) (λ bytes x. (x.file, named h trace x.runs)))
    (λ fs known plain. at_there (lookup file fs) known (λ bytes k.
    inr (inr (k.0, at_there (lookup trace fs) k.1 (λ lines run. by_flows k.0.tree lines run)))))

-- ---- Each ending

pub over : (p : ProgramTree) (types : List FixType) (lines : List ℕ) (place : Option Stuck) (bad : Option BadLine) →
    (rows_over p types lines).stuck_place ≡ place → bad_line types lines ≡ bad →
    run_status place bad ≡ status_over p types lines
over p types lines place bad free good =
    sym (ap (λ (x : Option Stuck). run_status x (bad_line types lines)) free ∙ ap (run_status place) good)

compile-comes : (e : Ending) (model code : List ℕ) (h h' : HostTold) (b b' : SinkTold) →
    Finds e (Some (Compile model code)) h h' b b' → ComesTo (status_of e) (Compile model code) h
compile-comes (Compiled rows systems functions) model code h h' b b' ends =
    told_one h.files h.rest model (named h model ends.0.model)
    (λ fs known plain. at_there (lookup model fs) known (λ bytes w. inr (w.1.resolved, w.1.verdict, refl)))
compile-comes (Refused refusal) model code h h' b b' ends =
    told_one h.files h.rest model (named h model ends.0.model)
    (λ fs known plain. at_there (lookup model fs) known (λ bytes v. inl (plain_refusal refusal, v, refl)))
compile-comes ReadFault model code h h' b b' ends = not-plain 5 (Compile model code) h (λ plain. plain.no_read_fault refl)
compile-comes WriteFault model code h h' b b' ends = not-plain 6 (Compile model code) h (λ plain. plain.no_write_fault refl)
compile-comes NoMemory model code h h' b b' ends = not-plain 10 (Compile model code) h (λ plain. plain.no_want_of_memory refl)
compile-comes _ model code h h' b b' ends = absurd ends.0

running-comes : (e : Ending) (model code trace : List ℕ) (h h' : HostTold) (b b' : SinkTold) →
    Finds e (Some (Run model code trace)) h h' b b' → ComesTo (status_of e) (Run model code trace) h
running-comes (Ran totals) model code trace h h' b b' ends =
    run-comes (Ran totals) model code trace h h' b b' (λ types p lines run. sym (ap (run_status None) run.good)) ends.model
running-comes (BadTrace line) model code trace h h' b b' ends =
    run-comes (BadTrace line) model code trace h h' b b' (λ types p lines run. sym (ap (run_status None) run.bad)) ends.model
running-comes (Refused refusal) model code trace h h' b b' ends =
    told_one h.files h.rest model (named h model ends.0.model)
    (λ fs known plain. at_there (lookup model fs) known (λ bytes v. inl (plain_refusal refusal, v, refl)))
running-comes ReadFault model code trace h h' b b' ends = not-plain 5 (Run model code trace) h (λ plain. plain.no_read_fault refl)
running-comes WriteFault model code trace h h' b b' ends = not-plain 6 (Run model code trace) h (λ plain. plain.no_write_fault refl)
running-comes PutFault model code trace h h' b b' ends = not-plain 7 (Run model code trace) h (λ plain. plain.no_put_fault refl)
running-comes NoMemory model code trace h h' b b' ends = not-plain 10 (Run model code trace) h (λ plain. plain.no_want_of_memory refl)
running-comes _ model code trace h h' b b' ends = absurd ends

stuck-comes : (at : Stuck) (code trace : List ℕ) (h h' : HostTold) (b b' : SinkTold) →
    Finds (IsStuck at) (Some (Exec code trace)) h h' b b' → ComesTo 9 (Exec code trace) h
stuck-comes at code trace h h' b b' (inl ends) =
    told_one h.files h.rest code (named h code ends.code) (λ fs known plain. at_there (lookup code fs) known (λ bytes x.
    inr (inr (x.fits, (x.program, x.reading, subst (λ (o : Outcome). ProgramComes x.program o (lookup trace fs) 9) (sym x.start) refl)))))
stuck-comes at code trace h h' b b' (inr ends) =
    exec-comes (IsStuck at) code trace h h' b b'
    (λ types p lines run. sym (ap (λ (x : Option Stuck). run_status x (bad_line types lines)) run.stuck)) ends.code

executing-comes : (e : Ending) (code trace : List ℕ) (h h' : HostTold) (b b' : SinkTold) →
    Finds e (Some (Exec code trace)) h h' b b' → ComesTo (status_of e) (Exec code trace) h
executing-comes (Ran totals) code trace h h' b b' ends =
    exec-comes (Ran totals) code trace h h' b b' (λ types p lines run. over p types lines None None run.free run.good) ends.code
executing-comes (BadTrace line) code trace h h' b b' ends =
    exec-comes (BadTrace line) code trace h h' b b' (λ types p lines run. over p types lines None (Some line) run.free run.bad) ends.code
executing-comes (IsStuck at) code trace h h' b b' ends = stuck-comes at code trace h h' b b' ends
executing-comes (CodeRefused fault) code trace h h' b b' ends =
    told_one h.files h.rest code (named h code ends.code)
    (λ fs known plain. at_there (lookup code fs) known (λ bytes x. inr (inl (x.0, (fault, x.1, refl)))))
executing-comes CodeTooLong code trace h h' b b' ends =
    told_one h.files h.rest code (named h code ends.code)
    (λ fs known plain. at_there (lookup code fs) known (λ bytes long. inl (long, refl)))
executing-comes ReadFault code trace h h' b b' ends = not-plain 5 (Exec code trace) h (λ plain. plain.no_read_fault refl)
executing-comes PutFault code trace h h' b b' ends = not-plain 7 (Exec code trace) h (λ plain. plain.no_put_fault refl)
executing-comes NoMemory code trace h h' b b' ends = not-plain 10 (Exec code trace) h (λ plain. plain.no_want_of_memory refl)
executing-comes _ code trace h h' b b' ends = absurd ends

profiling-comes : (e : Ending) (model : List ℕ) (h h' : HostTold) (b b' : SinkTold) →
    Finds e (Some (Profile model)) h h' b b' → ComesTo (status_of e) (Profile model) h
profiling-comes (Reported text) model h h' b b' ends =
    told_one h.files h.rest model (named h model ends.0.model)
    (λ fs known plain. at_there (lookup model fs) known (λ bytes w. inr (w.resolved, w.verdict, refl)))
profiling-comes (Refused refusal) model h h' b b' ends =
    told_one h.files h.rest model (named h model ends.0.model)
    (λ fs known plain. at_there (lookup model fs) known (λ bytes v. inl (plain_refusal refusal, v, refl)))
profiling-comes ReadFault model h h' b b' ends = not-plain 5 (Profile model) h (λ plain. plain.no_read_fault refl)
profiling-comes NoMemory model h h' b b' ends = not-plain 10 (Profile model) h (λ plain. plain.no_want_of_memory refl)
profiling-comes _ model h h' b b' ends = absurd ends.0

driving-comes : ShapesAreOne → (e : Ending) (model code word script : List ℕ) (h h' : HostTold) (b b' : SinkTold) →
    Finds e (Some (Drive model code word script)) h h' b b' → ComesTo (status_of e) (Drive model code word script) h
driving-comes shapes (Ran totals) model code word script h h' b b' ends =
    drive-comes shapes (Ran totals) model code word script h h' b b' (λ w lines drives. sym (ap status_at drives.end)) ends.model
driving-comes shapes (BadScript NoSubsystem) model code word script h h' b b' ends =
    told_one h.files h.rest model (named h model ends.model) (λ fs known plain. at_there (lookup model fs) known (λ bytes v.
    inr (v.resolved, v.verdict, subst (λ (x : Option (Option ℕ)). SystemComes v.resolved x (lookup script fs) 4) (sym v.none) refl)))
driving-comes shapes (BadScript (Line bad)) model code word script h h' b b' ends =
    drive-comes shapes (BadScript (Line bad)) model code word script h h' b b'
    (λ w lines drives. sym (ap status_at drives.stops)) ends.model
driving-comes shapes (BadScript (Call refused)) model code word script h h' b b' ends =
    drive-comes shapes (BadScript (Call refused)) model code word script h h' b b'
    (λ w lines drives. sym (ap status_at drives.stops)) ends.model
driving-comes shapes (Refused refusal) model code word script h h' b b' ends =
    told_one h.files h.rest model (named h model ends.0.model) (λ fs known plain. at_there (lookup model fs) known (λ bytes v.
    inl (plain_refusal refusal, v, refl)))
driving-comes shapes ReadFault model code word script h h' b b' ends =
    not-plain 5 (Drive model code word script) h (λ plain. plain.no_read_fault refl)
driving-comes shapes WriteFault model code word script h h' b b' ends =
    not-plain 6 (Drive model code word script) h (λ plain. plain.no_write_fault refl)
driving-comes shapes PutFault model code word script h h' b b' ends =
    not-plain 7 (Drive model code word script) h (λ plain. plain.no_put_fault refl)
driving-comes shapes NoMemory model code word script h h' b b' ends =
    not-plain 10 (Drive model code word script) h (λ plain. plain.no_want_of_memory refl)
driving-comes shapes _ model code word script h h' b b' ends = absurd ends

generating-comes : (e : Ending) (start size : ℕ) (model code : List ℕ) (h h' : HostTold) (b b' : SinkTold) →
    Finds e (Some (Gen start size model code)) h h' b b' → ComesTo (status_of e) (Gen start size model code) h
generating-comes (Ran totals) start size model code h h' b b' ends =
    told_any h.files h.rest (λ fs plain. inr (ends.both.resolved, ends.both.verdict, refl))
generating-comes (Refused refusal) start size model code h h' b b' ends =
    told_any h.files h.rest (λ fs plain. inl (plain_refusal refusal, ends.0.verdict, refl))
generating-comes WriteFault start size model code h h' b b' ends =
    not-plain 6 (Gen start size model code) h (λ plain. plain.no_write_fault refl)
generating-comes PutFault start size model code h h' b b' ends =
    not-plain 7 (Gen start size model code) h (λ plain. plain.no_put_fault refl)
generating-comes NoMemory start size model code h h' b b' ends =
    not-plain 10 (Gen start size model code) h (λ plain. plain.no_want_of_memory refl)
generating-comes _ start size model code h h' b b' ends = absurd ends

translating-comes : (e : Ending) (model file : List ℕ) (h h' : HostTold) (b b' : SinkTold) →
    Finds e (Some (Lustre model file)) h h' b b' → ComesTo (status_of e) (Lustre model file) h
translating-comes (Noded nodes) model file h h' b b' ends =
    told_one h.files h.rest model (named h model ends.0.model) (λ fs known plain. at_there (lookup model fs) known (λ bytes w.
    inr (w.1.resolved, w.1.verdict, sym (ap lustre_status w.1.short))))
translating-comes (Refused refusal) model file h h' b b' ends =
    told_one h.files h.rest model (named h model ends.0.model)
    (λ fs known plain. at_there (lookup model fs) known (λ bytes v. inl (plain_refusal refusal, v, refl)))
translating-comes (LustreLong place) model file h h' b b' ends =
    told_one h.files h.rest model (named h model ends.0.model)
    (λ fs known plain. at_there (lookup model fs) known (λ bytes x. inr (x.0, x.1, sym (ap lustre_status x.2))))
translating-comes ReadFault model file h h' b b' ends = not-plain 5 (Lustre model file) h (λ plain. plain.no_read_fault refl)
translating-comes WriteFault model file h h' b b' ends = not-plain 6 (Lustre model file) h (λ plain. plain.no_write_fault refl)
translating-comes NoMemory model file h h' b b' ends = not-plain 10 (Lustre model file) h (λ plain. plain.no_want_of_memory refl)
translating-comes _ model file h h' b b' ends = absurd ends.0

flowing-comes : (e : Ending) (file trace : List ℕ) (h h' : HostTold) (b b' : SinkTold) →
    Finds e (Some (Flow file trace)) h h' b b' → ComesTo (status_of e) (Flow file trace) h
flowing-comes (Flowed ticks) file trace h h' b b' ends =
    flow-comes (Flowed ticks) file trace h h' b b'
    (λ f lines run. flow_over f lines None None run.whole.free run.whole.rows_only) ends.file
flowing-comes (BadTrace line) file trace h h' b b' ends =
    flow-comes (BadTrace line) file trace h h' b b' (λ f lines run. flow_over f lines None (Some line) run.free run.first_bad) ends.file
flowing-comes (FlowStuck at) file trace h h' b b' ends =
    flow-comes (FlowStuck at) file trace h h' b b'
    (λ f lines run. sym (ap (λ (x : Option LusStuck). flow_status x (flow_bad_line f lines)) run.stuck)) ends.file
flowing-comes (LustreRefused fault) file trace h h' b b' ends =
    told_one h.files h.rest file (named h file ends.code)
    (λ fs known plain. at_there (lookup file fs) known (λ bytes x. inr (inl (x.0, (fault, x.1, refl)))))
flowing-comes LustreTooLong file trace h h' b b' ends =
    told_one h.files h.rest file (named h file ends.code)
    (λ fs known plain. at_there (lookup file fs) known (λ bytes long. inl (long, refl)))
flowing-comes ReadFault file trace h h' b b' ends = not-plain 5 (Flow file trace) h (λ plain. plain.no_read_fault refl)
flowing-comes PutFault file trace h h' b b' ends = not-plain 7 (Flow file trace) h (λ plain. plain.no_put_fault refl)
flowing-comes NoMemory file trace h h' b b' ends = not-plain 10 (Flow file trace) h (λ plain. plain.no_want_of_memory refl)
flowing-comes _ file trace h h' b b' ends = absurd ends

comes-to : ShapesAreOne → (e : Ending) (a : Asked) (h h' : HostTold) (b b' : SinkTold) →
    Finds e (Some a) h h' b b' → ComesTo (status_of e) a h
comes-to shapes e (Compile model code) h h' b b' ends = compile-comes e model code h h' b b' ends
comes-to shapes e (Run model code trace) h h' b b' ends = running-comes e model code trace h h' b b' ends
comes-to shapes e (Exec code trace) h h' b b' ends = executing-comes e code trace h h' b b' ends
comes-to shapes e (Profile model) h h' b b' ends = profiling-comes e model h h' b b' ends
comes-to shapes e (Drive model code word script) h h' b b' ends = driving-comes shapes e model code word script h h' b b' ends
comes-to shapes e (Gen start size model code) h h' b b' ends = generating-comes e start size model code h h' b b' ends
comes-to shapes e (Lustre model file) h h' b b' ends = translating-comes e model file h h' b b' ends
comes-to shapes e (Flow file trace) h h' b b' ends = flowing-comes e file trace h h' b b' ends

-- ---- Exactly

-- of a status that an error or running out of memory gives nothing is said
unplain : (s : ℕ) (a : Asked) (h : HostTold) → (IsPlain s → ⊥) → OnTold (Some a) h (ComesExactly s)
unplain s a h fault =
    told_any h.files h.rest (λ fs. record { only = λ plain. absurd (fault plain); wherever = λ n also plain. absurd (fault plain) })

pub comes_exactly : OneVerdict → ReadingsAgree → TextsAreJudged → ShapesAreOne → (s : ℕ) (a : Option Asked) (h h' : HostTold)
    (b b' : SinkTold) → EndsAt s a h h' b b' → OnTold a h (ComesExactly s)
comes_exactly one agree judged shapes s None h h' b b' e = tt
comes_exactly one agree judged shapes s (Some a) h h' b b' e = by e.found e.said e.before e.ends.finds e.says e.puts
  where
    by : (found said : Ending) (before : SinkTold) → Finds found (Some a) h h' b before → IsSaidOf said found →
        Puts said s before b' → OnTold (Some a) h (ComesExactly s)
    by found said before finds (inl same) (inl (is, whole)) =
        let status : s ≡ status_of found = is ∙ ap status_of same in
        told-map h.files h.rest (comes-to shapes found a h h' b before finds) (λ fs comes. record {
          only = λ plain. subst (Comes a fs) (sym status) (comes (subst IsPlain status plain));
          wherever = λ n also plain.
              comes-one one agree judged shapes a fs s n (subst (Comes a fs) (sym status) (comes (subst IsPlain status plain))) also;
        })
    by found said before finds (inr none) (inl (is, whole)) = unplain s a h (λ plain. plain.no_want_of_memory (is ∙ ap status_of none.0))
    by found said before finds says (inr (seven, part)) = unplain s a h (λ plain. plain.no_put_fault seven)

-- the same of one status that no error gives
exactly-by : (n s : ℕ) (a : Option Asked) (h : HostTold) → IsPlain n → OnTold a h (ComesExactly s) →
    IsExactAt n s a h
exactly-by n s None h plain all = tt
exactly-by n s (Some a) h plain all = told-map h.files h.rest all (λ fs x. record {
  only = λ is. subst (Comes a fs) is (x.only (subst IsPlain (sym is) plain));
  wherever = λ comes other. x.wherever n comes other;
})

-- the statuses before those of errors, and after them but for that of running out of memory
early : (n : ℕ) → n < 5 → IsPlain n
early n before = record {
  no_read_fault = λ is. omega (arith, before, is);
  no_write_fault = λ is. omega (arith, before, is);
  no_put_fault = λ is. omega (arith, before, is);
  no_want_of_memory = λ is. omega (arith, before, is);
}

late : (n : ℕ) → 7 < n → n ≢ 10 → IsPlain n
late n after other = record {
  no_read_fault = λ is. omega (arith, after, is);
  no_write_fault = λ is. omega (arith, after, is);
  no_put_fault = λ is. omega (arith, after, is);
  no_want_of_memory = other;
}

pub each_exactly : StatusesAreExact → EachComesExactly
each_exactly law s a h h' b b' ends =
    let comes : OnTold a h (ComesExactly s) = law s a h h' b b' ends in
    let exactly : (n : ℕ) → IsPlain n → IsExactAt n s a h = λ n plain. exactly-by n s a h plain comes in
    record {
      refused = exactly 3 (early 3 (omega arith));
      bad_line = exactly 4 (early 4 (omega arith));
      no_program = exactly 8 (late 8 (omega arith) (omega arith));
      stuck = exactly 9 (late 9 (omega arith) (omega arith));
      no_lustre = exactly 11 (late 11 (omega arith) (omega arith));
    }

-- ---- Words that ask for nothing

only-usage : (e : Ending) → status_of e ≡ 2 → e ≡ Usage
only-usage Usage is = refl
only-usage _ is = absurd (omega (arith, is))

nothing-asked : (a : Option Asked) (h h' : HostTold) (b b' : SinkTold) → Finds Usage a h h' b b' → a ≡ None
nothing-asked None h h' b b' ends = refl
nothing-asked (Some (Compile model code)) h h' b b' ends = absurd ends.0
nothing-asked (Some (Profile model)) h h' b b' ends = absurd ends.0
nothing-asked (Some (Lustre model file)) h h' b b' ends = absurd ends.0
nothing-asked _ h h' b b' ends = absurd ends

unasked : (e : Ending) (h h' : HostTold) (b b' : SinkTold) → Finds e None h h' b b' → IsPlain (status_of e) → status_of e ≡ 2
unasked Usage h h' b b' ends plain = refl
unasked NoMemory h h' b b' ends plain = absurd (plain.no_want_of_memory refl)
unasked _ h h' b b' ends plain = absurd ends.0

pub usage : (s : ℕ) (a : Option Asked) (h h' : HostTold) (b b' : SinkTold) → EndsAt s a h h' b b' → IsExactly 2 s (a ≡ None)
usage s a h h' b b' e = record {
  only = λ two.
      let f : SaysFound s a h h' b b' = says_found s a h h' b b' e (λ seven. omega (arith, two, seven)) (λ ten. omega (arith, two, ten)) in
      nothing-asked a h h' b f.before
      (subst (λ (x : Ending). Finds x a h h' b f.before) (only-usage f.found (sym f.status ∙ two)) f.ends.finds);
  wherever = λ none plain.
      let f : SaysFound s a h h' b b' = says_found s a h h' b b' e plain.no_put_fault plain.no_want_of_memory in
      f.status
      ∙ unasked f.found h h' b f.before
      (subst (λ (x : Option Asked). Finds f.found x h h' b f.before) none f.ends.finds)
      (subst IsPlain f.status plain);
}
