-- What each command does where nothing fails.
use Rattle.std.specs.Prelude.{◌≡◌, ◌≢◌, ◌⊎◌, ℕ, ◌<◌, ◌≤◌, List, ◌++◌, length, Option, Some, None, ⊤}
use Rattle.std.specs.Io.KnownBytes.{append_known}
use Rattle.base_core.specs.declared.base.Place.{Place}
use Rattle.base_refusals.specs.Refusals.{PlainRefusal, refusal_line}
use Rattle.base_fixed_point.specs.declared.types.FixType.{FixType}
use Rattle.base_host.specs.Faults.{IsCalm}
use Rattle.base_host.specs.Files.{add_file}
use Rattle.diagram_meaning.specs.ResolvedTable.{ResolvedTable, diagram_of_table}
use Rattle.tool_traces.specs.declared.rows.BadLine.{BadLine}
use Rattle.c_syntax.specs.declared.fault.CFault.{CFault}
use Rattle.c_syntax.specs.declared.fault.Stuck.{Stuck}
use Rattle.c_syntax.specs.Tree.{ProgramTree}
use Rattle.c_semantics.specs.Cells.{Cells}
use Rattle.c_semantics.specs.Machine.{After, done, stuck}
use Rattle.c_semantics.specs.Rows.{TickRow, start_run}
use Rattle.c_rules.specs.Reading.{CText, CFaultOf}
use Rattle.lustre_syntax.specs.Tree.{FileTree}
use Rattle.lustre_rules.specs.Reading.{LustreText, LustreFaultOf}
use Rattle.lustre_flows.specs.declared.stuck.LusStuck.{LusStuck}
use Rattle.lustre_flows.specs.Flows.{flows}
use Rattle.lustre_right.specs.LongDelays.{long_delay}
use Rattle.lustre_right.specs.Right.{IsRightText}
use Rattle.lustre_agreement.specs.BackEnds.{BackEndsAgree}
use Rattle.right_claim.specs.Right.{GivesOutputs}
use Rattle.diagram_verdict.specs.Verdict.{HasVerdict, Accepted, Refused}
use Rattle.emit_notes.specs.ModelNotes.{HasNotesOf}
use Rattle.tool_compiled.specs.Compilation.{Compilation, root_types, IsCompilationOf}
use Rattle.tool_runner.specs.Texts.{ticks_text}
use Rattle.tool_runner.specs.Runs.{totals_of}
use Rattle.modules_report.specs.Reports.{IsReportText}
use Rattle.tool_generator.specs.Models.{model_text, trace_text}
use Rattle.tool_runner.specs.declared.outcome.Totals.{Totals}
use Rattle.tool_driver.specs.Driven.{Driven, shape_of}
use Rattle.tool_driver.specs.Shapes.{Shape}
use Rattle.tool_system_driver.specs.SystemShapes.{IsShapeOf, IsSystemOfModel}
use Rattle.tool_system_driver.specs.Words.{system_named}
use Rattle.tool_script_runner.specs.Answers.{Answered, calls_in}
use Rattle.tool_script_runner.specs.Standings.{totals_of as totals_of_calls}
use Rattle.tool_script_runner.specs.Texts.{answers_text}
use Rattle.tool_script_runner.specs.ScriptEnds.{ScriptEnd, Whole, AtLine, AtCall, script_end, lawful_calls}
use Rattle.tool_script_runner.specs.FaultTexts.{bad_call_line, refused_call_line}
use Rattle.tool_script_runner.specs.Drives.{AreAnswered}
use Rattle.tool_flow_runner.specs.FlowTraces.{flow_rows, flow_bad_line, flow_lines}
use Rattle.tool_words.specs.Words.{Asked, Compile, Run, Exec, Profile, Drive, Gen, Lustre, Flow}
use Rattle.tool_endings.specs.Texts.{compiled_line, totals_line, nodes_line, ticks_line, bad_line_line, no_subsystem_line, code_refused_line, long_code_line, stuck_line, lustre_refused_line, long_lustre_line, long_delay_line, flow_stuck_line}
use Rattle.tool_endings.specs.Told.{HostTold, SinkTold}
use Rattle.tool_endings.specs.Runs.{HasStepTypes, rows_in, rows_over, bad_line}
use Rattle.tool_endings.specs.EndingsOfRuns.{code_limit}
use Rattle.tool_endings.specs.Statuses.{IfFile, IsDone, run_status, status_over, status_at, flow_status_over}

-- no count of errors rises in the call, or is at its greatest value
pub record Calm (h h' : HostTold) (b b' : SinkTold) : Type 0 where
  pub reads : IsCalm h.read_faults h'.read_faults
  pub writes : IsCalm h.write_faults h'.write_faults
  pub puts : IsCalm b.faults b'.faults

-- the status is n and this text is printed, unless memory runs out
pub record Tells (n : ℕ) (text : List ℕ) (s : ℕ) (b b' : SinkTold) : Type 0 where
  pub status : (s ≡ n) ⊎ (s ≡ 10)
  pub put : s ≡ n → b'.bytes ≡ append_known b.bytes text

-- a model that the rules refuse is refused, unless memory runs out: nothing is written, and the
-- refusal printed
pub record TellsRefusal (refusal : PlainRefusal) (s : ℕ) (h h' : HostTold)
    (b b' : SinkTold) : Type 0 where
  pub tells : Tells 3 (refusal_line refusal) s b b'
  pub unwritten : s ≡ 3 → h'.written ≡ h.written

-- ---- `compile`

-- Right code for the model is written as the one new file: its bytes have one reading, and that is
-- code for the diagram, in all parts; its notes are those of the model's blocks. The compiled line is
-- printed.
pub record WritesRightCode (r : ResolvedTable) (model code : List ℕ) (h h' : HostTold)
    (b b' : SinkTold) : Type 0 where
  pub compilation : Compilation
  pub right : IsCompilationOf r compilation
  pub noted : HasNotesOf model compilation.code
  pub written : h'.written ≡ add_file h.written code compilation.code
  pub line : b'.bytes
      ≡ append_known b.bytes
      (compiled_line compilation.rows compilation.systems compilation.functions)

-- a model that the rules accept is compiled, unless memory runs out
pub record CompilesAccepted (r : ResolvedTable) (s : ℕ) (model code : List ℕ) (h h' : HostTold)
    (b b' : SinkTold) : Type 0 where
  pub status : IsDone s
  pub done : s ≡ 0 → WritesRightCode r model code h h' b b'

-- what a call does with the bytes of its model
pub record Compiles (model : List ℕ) (s : ℕ) (code : List ℕ) (h h' : HostTold)
    (b b' : SinkTold) : Type 0 where
  pub accepted : (r : ResolvedTable) → HasVerdict model (Accepted r) →
      CompilesAccepted r s model code h h' b b'
  pub refused : (refusal : PlainRefusal) → HasVerdict model (Refused refusal) →
      TellsRefusal refusal s h h' b b'

-- ---- `run`

-- the last line of a run: where it is stuck, or the first bad line, or the totals
abbrev pub last_line : List TickRow → Option Stuck → Option BadLine → List ℕ
last_line ticks (Some at) bad = stuck_line at
last_line ticks None (Some line) = bad_line_line line
last_line ticks None None = let t = totals_of ticks in totals_line t.ticks t.steps t.calls

-- what a run of a program over a trace prints: a line for each tick, and the last line
abbrev pub run_text : ProgramTree → List FixType → List ℕ → List ℕ
run_text p types trace =
    let rows = rows_over p types trace in
    ticks_text rows.ticks ++ last_line rows.ticks rows.stuck_place (bad_line types trace)

-- Right code for the model is written as the one new file. What is printed is what its one reading
-- gives over the trace, up to its first bad line, and those are the outputs of the diagram's one
-- run.
pub record RunsRightCode (r : ResolvedTable) (model trace code : List ℕ) (h h' : HostTold)
    (b b' : SinkTold) : Type 0 where
  pub compilation : Compilation
  pub right : IsCompilationOf r compilation
  pub noted : HasNotesOf model compilation.code
  pub written : h'.written ≡ add_file h.written code compilation.code
  pub outputs : GivesOutputs right.code.program (diagram_of_table r)
      (rows_in (root_types (diagram_of_table r)) trace)
  pub lines : b'.bytes
      ≡ append_known b.bytes (run_text right.code.program (root_types (diagram_of_table r)) trace)

-- the code of a model that the rules accept is run over the trace, unless memory runs out
pub record RunsAccepted (r : ResolvedTable) (model trace : List ℕ) (s : ℕ) (code : List ℕ)
    (h h' : HostTold) (b b' : SinkTold) : Type 0 where
  pub status : (s ≡ run_status None (bad_line (root_types (diagram_of_table r)) trace)) ⊎ (s ≡ 10)
  pub done : s ≢ 10 → RunsRightCode r model trace code h h' b b'

-- what a call does with the bytes of its model
pub record Runs (model trace : List ℕ) (s : ℕ) (code : List ℕ) (h h' : HostTold)
    (b b' : SinkTold) : Type 0 where
  pub accepted : (r : ResolvedTable) → HasVerdict model (Accepted r) →
      IfFile h trace (λ lines. RunsAccepted r model lines s code h h' b b')
  pub refused : (refusal : PlainRefusal) → HasVerdict model (Refused refusal) →
      TellsRefusal refusal s h h' b b'

-- ---- `exec`

-- what a call does with the bytes of its code; it writes nothing
pub record Executes (code trace : List ℕ) (s : ℕ) (h h' : HostTold) (b b' : SinkTold) : Type 0 where
  pub unwritten : h'.written ≡ h.written
  pub long : code_limit < length code → Tells 8 long_code_line s b b'
  pub unread : length code ≤ code_limit → (fault : CFault) → CFaultOf code fault →
      Tells 8 (code_refused_line fault) s b b'
  pub stuck : length code ≤ code_limit → (p : ProgramTree) → CText code p →
      (at : Stuck) (cells : Cells) → start_run p ≡ stuck at cells → Tells 9 (stuck_line at) s b b'
  pub runs : length code ≤ code_limit → (p : ProgramTree) → CText code p → (after : After) →
      start_run p ≡ done after →
      (types : List FixType) → HasStepTypes p types →
      IfFile h trace
      (λ lines. Tells (status_over p types lines) (run_text p types lines) s b b')

-- ---- `profile`

-- a model that the rules accept is reported on, unless memory runs out: the report says all
-- systems of its diagram
pub record ProfilesAccepted (r : ResolvedTable) (s : ℕ) (b b' : SinkTold) : Type 0 where
  pub status : IsDone s
  pub done : s ≡ 0 →
      (text : List ℕ) × IsReportText (diagram_of_table r) text
      × (b'.bytes ≡ append_known b.bytes text)

-- what a call does with the bytes of its model; it writes nothing
pub record Profiles (model : List ℕ) (s : ℕ) (h h' : HostTold) (b b' : SinkTold) : Type 0 where
  pub unwritten : h'.written ≡ h.written
  pub accepted : (r : ResolvedTable) → HasVerdict model (Accepted r) → ProfilesAccepted r s b b'
  pub refused : (refusal : PlainRefusal) → HasVerdict model (Refused refusal) →
      TellsRefusal refusal s h h' b b'

-- ---- `drive`

-- the last line of a script's run: what the calls up to its end took, or what stops it
abbrev pub last_script_line : Totals → ScriptEnd → List ℕ
last_script_line taken Whole = totals_line taken.ticks taken.steps taken.calls
last_script_line taken (AtLine bad) = bad_call_line bad
last_script_line taken (AtCall refused) = refused_call_line refused

-- Right code for the model is written as the one new file. The calls up to the script's end are
-- answered by its one reading as the system's run has it over every trace that fits them. Their
-- lines are printed, and then the last line.
pub record DrivesRightCode (r : ResolvedTable) (system : Option ℕ) (model script code : List ℕ)
    (h h' : HostTold) (b b' : SinkTold) : Type 0 where
  pub compilation : Compilation
  pub right : IsCompilationOf r compilation
  pub noted : HasNotesOf model compilation.code
  pub written : h'.written ≡ add_file h.written code compilation.code
  pub driven : Driven
  pub of_model : IsSystemOfModel r system driven
  pub program : driven.program ≡ right.code.program
  pub answers : List Answered
  pub calls : calls_in answers ≡ lawful_calls (shape_of driven) script
  pub answered : AreAnswered driven answers
  pub lines : b'.bytes
      ≡ append_known b.bytes (answers_text answers
      ++ last_script_line (totals_of_calls answers) (script_end (shape_of driven) script))

-- a system of a model that the rules accept is driven by the script, unless memory runs out
pub record DrivesSystem (r : ResolvedTable) (system : Option ℕ) (model script : List ℕ) (s : ℕ)
    (code : List ℕ) (h h' : HostTold) (b b' : SinkTold) : Type 0 where
  pub status : (shape : Shape) → IsShapeOf r system shape →
      (s ≡ status_at (script_end shape script)) ⊎ (s ≡ 10)
  pub done : s ≢ 10 → DrivesRightCode r system model script code h h' b b'

-- what a call does by the system that its word names; where there is none, nothing is written
abbrev pub DrivesNamed : ResolvedTable → Option (Option ℕ) →
    (model script : List ℕ) (s : ℕ) (code : List ℕ) (h h' : HostTold) (b b' : SinkTold) → Type 0
DrivesNamed r None model script s code h h' b b' =
    Tells 4 no_subsystem_line s b b' × (s ≡ 4 → h'.written ≡ h.written)
DrivesNamed r (Some system) model script s code h h' b b' =
    IfFile h script (λ lines. DrivesSystem r system model lines s code h h' b b')

-- what a call does with the bytes of its model
pub record Drives (model word script : List ℕ) (s : ℕ) (code : List ℕ) (h h' : HostTold)
    (b b' : SinkTold) : Type 0 where
  pub accepted : (r : ResolvedTable) → HasVerdict model (Accepted r) →
      DrivesNamed r (system_named r.table.rows word) model script s code h h' b b'
  pub refused : (refusal : PlainRefusal) → HasVerdict model (Refused refusal) →
      TellsRefusal refusal s h h' b b'

-- ---- `gen`

-- The text of the model is written, and right code for it after that. What is printed is the compiled
-- line, and then what the code's one reading gives over the trace that is made with the model;
-- those are the outputs of the diagram's one run.
pub record MakesRightCode (r : ResolvedTable) (start size : ℕ) (model code : List ℕ)
    (h h' : HostTold) (b b' : SinkTold) : Type 0 where
  pub compilation : Compilation
  pub right : IsCompilationOf r compilation
  pub noted : HasNotesOf (model_text start size) compilation.code
  pub written : h'.written
      ≡ add_file (add_file h.written model (model_text start size)) code compilation.code
  pub outputs : GivesOutputs right.code.program (diagram_of_table r)
      (rows_in (root_types (diagram_of_table r)) (trace_text start size))
  pub lines : b'.bytes
      ≡ append_known b.bytes
      (compiled_line compilation.rows compilation.systems compilation.functions
      ++ run_text right.code.program (root_types (diagram_of_table r)) (trace_text start size))

-- a model that the rules accept is made, compiled and run, unless memory runs out
pub record MakesAccepted (r : ResolvedTable) (start size : ℕ) (s : ℕ) (model code : List ℕ)
    (h h' : HostTold) (b b' : SinkTold) : Type 0 where
  pub status : IsDone s
  pub done : s ≡ 0 → MakesRightCode r start size model code h h' b b'

-- what a call does with the model of these two numbers
pub record Makes (start size : ℕ) (s : ℕ) (model code : List ℕ) (h h' : HostTold)
    (b b' : SinkTold) : Type 0 where
  pub accepted : (r : ResolvedTable) → HasVerdict (model_text start size) (Accepted r) →
      MakesAccepted r start size s model code h h' b b'
  pub refused : (refusal : PlainRefusal) → HasVerdict (model_text start size) (Refused refusal) →
      TellsRefusal refusal s h h' b b'

-- ---- `lustre`

-- A right file of Lustre for the model is written as the one new file: its bytes have one reading,
-- and that is right for the diagram, in all parts. Over each trace it gives the outputs of any right
-- code for the model. The line with the number of its nodes is printed.
pub record WritesRightLustre (r : ResolvedTable) (file : List ℕ) (h h' : HostTold)
    (b b' : SinkTold) : Type 0 where
  pub bytes : List ℕ
  pub right : IsRightText bytes (diagram_of_table r)
  pub agrees : BackEndsAgree right.file r
  pub written : h'.written ≡ add_file h.written file bytes
  pub line : b'.bytes ≡ append_known b.bytes (nodes_line (length right.file.nodes))

-- such a file is written, unless memory runs out
pub record WritesShort (r : ResolvedTable) (s : ℕ) (file : List ℕ) (h h' : HostTold)
    (b b' : SinkTold) : Type 0 where
  pub status : IsDone s
  pub done : s ≡ 0 → WritesRightLustre r file h h' b b'

-- this delay is the first that is too long, and nothing is written, unless memory runs out
pub record TellsLongDelay (place : Place) (s : ℕ) (h h' : HostTold) (b b' : SinkTold) : Type 0 where
  pub tells : Tells 11 (long_delay_line place) s b b'
  pub unwritten : s ≡ 11 → h'.written ≡ h.written

-- a model that the rules accept is written as Lustre, if none of its delays is too long
abbrev pub WritesAccepted : Option Place → ResolvedTable → ℕ → (file : List ℕ) → (h h' : HostTold)
    (b b' : SinkTold) → Type 0
WritesAccepted None r s file h h' b b' = WritesShort r s file h h' b b'
WritesAccepted (Some place) r s file h h' b b' = TellsLongDelay place s h h' b b'

-- what a call does with the bytes of its model
pub record Translates (model : List ℕ) (s : ℕ) (file : List ℕ) (h h' : HostTold)
    (b b' : SinkTold) : Type 0 where
  pub accepted : (r : ResolvedTable) → HasVerdict model (Accepted r) →
      WritesAccepted (long_delay (diagram_of_table r)) r s file h h' b b'
  pub refused : (refusal : PlainRefusal) → HasVerdict model (Refused refusal) →
      TellsRefusal refusal s h h' b b'

-- ---- `flow`

-- the last line of flows: where they are stuck, or the first bad line, or the number of ticks
abbrev pub last_flow_line : ℕ → Option LusStuck → Option BadLine → List ℕ
last_flow_line ticks (Some at) bad = flow_stuck_line at
last_flow_line ticks None (Some line) = bad_line_line line
last_flow_line ticks None None = ticks_line ticks

-- what the flows of a file over a trace print: a line of outputs for each tick, and the last line
abbrev pub flow_text : FileTree → List ℕ → List ℕ
flow_text f trace =
    let rows = flow_rows f trace in
    flow_lines f rows
    ++ last_flow_line (length rows) (flows f rows).stuck_place (flow_bad_line f trace)

-- what a call does with the bytes of its file; it writes nothing
pub record Flows (bytes trace : List ℕ) (s : ℕ) (h h' : HostTold) (b b' : SinkTold) : Type 0 where
  pub unwritten : h'.written ≡ h.written
  pub long : code_limit < length bytes → Tells 11 long_lustre_line s b b'
  pub unread : length bytes ≤ code_limit → (fault : CFault) → LustreFaultOf bytes fault →
      Tells 11 (lustre_refused_line fault) s b b'
  pub runs : length bytes ≤ code_limit → (f : FileTree) → LustreText bytes f →
      IfFile h trace (λ lines. Tells (flow_status_over f lines) (flow_text f lines) s b b')

-- ---- All commands

-- what is done with what is asked for, where the host reports the files that it names
abbrev pub Does : ℕ → Option Asked → (h h' : HostTold) (b b' : SinkTold) → Type 0
Does s None h h' b b' = ⊤
Does s (Some (Compile model code)) h h' b b' =
    IfFile h model (λ bytes. Compiles bytes s code h h' b b')
Does s (Some (Run model code trace)) h h' b b' =
    IfFile h model (λ bytes. Runs bytes trace s code h h' b b')
Does s (Some (Exec code trace)) h h' b b' =
    IfFile h code (λ bytes. Executes bytes trace s h h' b b')
Does s (Some (Profile model)) h h' b b' = IfFile h model (λ bytes. Profiles bytes s h h' b b')
Does s (Some (Drive model code word script)) h h' b b' =
    IfFile h model (λ bytes. Drives bytes word script s code h h' b b')
Does s (Some (Gen start size model code)) h h' b b' = Makes start size s model code h h' b b'
Does s (Some (Lustre model file)) h h' b b' =
    IfFile h model (λ bytes. Translates bytes s file h h' b b')
Does s (Some (Flow file trace)) h h' b b' = IfFile h file (λ bytes. Flows bytes trace s h h' b b')

-- the command writes no file, whatever comes of it
abbrev pub IsReadOnly : Option Asked → Type 0
IsReadOnly None = ⊤
IsReadOnly (Some (Exec code trace)) = ⊤
IsReadOnly (Some (Profile model)) = ⊤
IsReadOnly (Some (Flow file trace)) = ⊤
IsReadOnly _ = ⊥

-- with this status no file was written: by such a command, or since the model is refused, or has a
-- delay that is too long for a file of Lustre
abbrev pub WritesNothing : ℕ → Option Asked → Type 0
WritesNothing s a = IsReadOnly a ⊎ (s ≡ 3) ⊎ (s ≡ 11)

-- Where no count of errors rises or is at its greatest value: right code is written for a model
-- that the rules accept, and run by `run` and `gen` and driven by `drive`; nothing is written for
-- one that they refuse; `exec` runs the code that it is given, and `profile` prints the report on a
-- model that they accept; `lustre` writes a right file of Lustre for one without long delays, and
-- `flow` runs the flows of the file that it is given.
abbrev pub DoesRight : ℕ → Option Asked → (h h' : HostTold) (b b' : SinkTold) → Type 0
DoesRight s a h h' b b' = Calm h h' b b' → Does s a h h' b b'
