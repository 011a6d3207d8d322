-- What the parts of a command come to.
use Rattle.std.specs.Prelude.{◌≡◌, ℕ, List, [], ◌⊎◌, length, Some, ⊤}
use Rattle.base_refusals.specs.Refusals.{plain_refusal}
use Rattle.base_fixed_point.specs.declared.types.FixType.{FixType}
use Rattle.base_host.specs.Faults.{Rose}
use Rattle.base_host.specs.Files.{add_file, WritesFront}
use Rattle.base_host.specs.Reading.{RoseBy}
use Rattle.diagram_meaning.specs.ResolvedTable.{ResolvedTable}
use Rattle.diagram_verdict.specs.Verdict.{HasVerdict, Accepted}
use Rattle.tool_driver.specs.Driven.{Driven}
use Rattle.c_syntax.specs.Tree.{ProgramTree}
use Rattle.c_semantics.specs.Cells.{Cells}
use Rattle.c_semantics.specs.Machine.{After, done, stuck}
use Rattle.c_semantics.specs.Rows.{start_run}
use Rattle.c_rules.specs.Reading.{CText, CFaultOf}
use Rattle.c_interpreter.specs.States.{MachineState, tree_of, fields_of}
use Rattle.emit_notes.specs.declared.labels.Labels.{Labels}
use Rattle.emit_notes.specs.Labels.{AreLabelsOf, labels_seen}
use Rattle.emit_notes.specs.ModelNotes.{IsNotedBy}
use Rattle.tool_compiled.specs.Compilation.{Compilation, IsCompilationOf, IsCompiledFrom}
use Rattle.tool_endings.specs.declared.ending.Ending.{Ending}
use Rattle.tool_endings.specs.declared.ending.Ending.TheVariants.{Compiled, Ran, Refused, BadTrace, BadScript, CodeRefused, Stuck as IsStuck, ReadFault, WriteFault, PutFault, NoMemory}
use Rattle.tool_words.specs.Words.{Gen}
use Rattle.tool_generator.specs.Models.{model_text}
use Rattle.tool_endings.specs.Told.{HostTold, SinkTold, ReadsAlone, ReadsNone, NoFault}
use Rattle.tool_endings.specs.Runs.{HasStepTypes, RunsTo}
use Rattle.tool_endings.specs.Scripts.{DrivesTo}
use Rattle.tool_endings.specs.EndingsOfModels.{OnNamed, OnBytes, OpensNothing, PutsNothing, EndsCompile, EndsRefused, EndsReadFault, LeavesHost}
use Rattle.tool_endings.specs.EndingsOfRuns.{ReadsToEnd, TakesFile}
use Rattle.tool_endings.specs.EndingsOfDriving.{TakesScript}
use Rattle.tool_endings.specs.EndingsOfGenerating.{line_of}
use Rattle.tool_endings.specs.Endings.{PutsPart, Ends}

-- ---- Compiling a model into a file

-- the model of this name was compiled, and its code written whole; of what the host reports to read,
-- nothing is left
pub record WritesCompiled (c : Compilation) (model_name code_name : List ℕ)
    (h h' : HostTold) : Type 0 where
  pub model : OnBytes h model_name (λ bytes. IsCompiledFrom bytes c)
  pub written : h'.written ≡ add_file h.written code_name c.code
  pub files : h'.files ≡ h.files
  pub told : OnNamed h model_name (λ _. h'.rest ≡ Some [])
  pub read : ReadsAlone model_name h h'
  pub given : RoseBy (length model.bytes) h.given h'.given
  pub no_fault : NoFault h h'

-- it wasn't, and the call ends
abbrev pub NotCompiled : Ending → (model_name code_name : List ℕ) → HostTold → HostTold → Type 0
NotCompiled (Compiled rows systems functions) model code h h' = ⊥
NotCompiled e model code h h' = EndsCompile e model code h h'

-- ---- Accepting a model, and writing its code

-- a text is that of a model that the rules accept, with these labels
pub record IsAcceptedText (r : ResolvedTable) (labels : Labels) (text : List ℕ) : Type 0 where
  pub verdict : HasVerdict text (Accepted r)
  pub labelled : AreLabelsOf text labels

-- the model of this name is accepted; of what the host reports to read, nothing is left
pub record AcceptsFile (r : ResolvedTable) (labels : Labels) (name : List ℕ)
    (h h' : HostTold) : Type 0 where
  pub model : OnBytes h name (IsAcceptedText r labels)
  pub files : h'.files ≡ h.files
  pub told : OnNamed h name (λ _. h'.rest ≡ Some [])
  pub read : ReadsAlone name h h'
  pub given : RoseBy (length model.bytes) h.given h'.given
  pub left : LeavesHost h h'

-- it isn't, and the call ends
abbrev pub NotAccepted : Ending → (name : List ℕ) → HostTold → HostTold → Type 0
NotAccepted (Refused refusal) name h h' = EndsRefused (plain_refusal refusal) name h h'
NotAccepted ReadFault name h h' = EndsReadFault name h h'
NotAccepted NoMemory name h h' = LeavesHost h h'
NotAccepted _ name h h' = ⊥

-- right code for the table, with notes by these labels, was written whole, and nothing read
pub record WritesCodeOf (r : ResolvedTable) (labels : Labels) (c : Compilation) (code : List ℕ)
    (h h' : HostTold) : Type 0 where
  pub right : IsCompilationOf r c
  pub noted : IsNotedBy (labels_seen labels) c.code
  pub written : h'.written ≡ add_file h.written code c.code
  pub files : h'.files ≡ h.files
  pub unread : ReadsNone h h'
  pub no_fault : NoFault h h'

-- a front of it was written
pub record CutsCodeOf (r : ResolvedTable) (labels : Labels) (code : List ℕ)
    (h h' : HostTold) : Type 0 where
  pub rose : Rose h.write_faults h'.write_faults
  pub unread : ReadsNone h h'
  pub compilation : Compilation
  pub right : IsCompilationOf r compilation
  pub noted : IsNotedBy (labels_seen labels) compilation.code
  pub front : WritesFront h.written h'.written code compilation.code

-- it wasn't, and the call ends
abbrev pub NotWritten : Ending → ResolvedTable → Labels → (code : List ℕ) → HostTold → HostTold →
    Type 0
NotWritten WriteFault r labels code h h' = CutsCodeOf r labels code h h'
NotWritten NoMemory r labels code h h' = LeavesHost h h'
NotWritten _ r labels code h h' = ⊥

-- ---- Reading C and starting it

-- a machine after its `root_start`
abbrev pub IsBehindStart : MachineState → Type 0
IsBehindStart m =
    (after : After) × (start_run (tree_of m) ≡ done after) × (fields_of m ≡ after.cells)

-- a machine of the program that bytes of C are
pub record StartsFrom (bytes : List ℕ) (m : MachineState) : Type 0 where
  pub reading : CText bytes (tree_of m)
  pub started : IsBehindStart m
  pub inputs : HasStepTypes (tree_of m) m.program.inputs

-- why there is no machine of bytes of C
abbrev pub NotStarted : List ℕ → Ending → Type 0
NotStarted bytes (CodeRefused fault) = CFaultOf bytes fault
NotStarted bytes (IsStuck at) =
    (p : ProgramTree) × CText bytes p × ((cells : Cells) × (start_run p ≡ stuck at cells))
NotStarted bytes NoMemory = ⊤
NotStarted bytes _ = ⊥

-- ---- Making a model

-- the model was compiled, its text written whole, and then its code
pub record WritesMade (c : Compilation) (start size : ℕ) (model code : List ℕ)
    (h h' : HostTold) : Type 0 where
  pub from : IsCompiledFrom (model_text start size) c
  pub written : h'.written ≡ add_file (add_file h.written model (model_text start size)) code c.code
  pub no_fault : NoFault h h'

-- it wasn't, and the call ends with nothing printed
abbrev pub NotMade : Ending → (start size : ℕ) → (model code : List ℕ) → HostTold → HostTold →
    Type 0
NotMade e start size model code h h' =
    (b : SinkTold) → Ends e (Some (Gen start size model code)) h h' b b

-- why the line of a compilation wasn't printed whole
abbrev pub NotPut : Ending → Compilation → SinkTold → SinkTold → Type 0
NotPut PutFault c b b' = PutsPart (line_of c) b b'
NotPut NoMemory c b b' = PutsNothing b b'
NotPut _ c b b' = ⊥

-- ---- Running a trace

-- how a run of a program over these bytes ends; memory runs out before anything is printed
abbrev pub RowsEnd : Ending → ProgramTree → List FixType → List ℕ → SinkTold → SinkTold → Type 0
RowsEnd NoMemory p types bytes b b' = PutsNothing b b'
RowsEnd e p types bytes b b' = RunsTo e p types bytes b b'

-- the trace of this name was run, up to an ending
pub record RunsFile (e : Ending) (p : ProgramTree) (types : List FixType) (trace : List ℕ)
    (h h' : HostTold) (b b' : SinkTold) : Type 0 where
  pub lines : OnBytes h trace (λ bytes. RunsTo e p types bytes b b')
  pub end : ReadsToEnd e h'
  pub left : LeavesHost h h'

-- an error of reading the trace: it isn't opened, and nothing was printed, or the lines of all whole
-- lines among what was taken were
pub record MissesFile (p : ProgramTree) (types : List FixType) (trace : List ℕ) (h h' : HostTold)
    (b b' : SinkTold) : Type 0 where
  pub rose : Rose h.read_faults h'.read_faults
  pub written : h'.written ≡ h.written
  pub lines : OpensNothing 0 h h' b b' ⊎ TakesFile 0 p types trace h h' b b'

-- memory ran out, before anything was read or printed
pub record ForgetsFile (h h' : HostTold) (b b' : SinkTold) : Type 0 where
  pub left : LeavesHost h h'
  pub silent : PutsNothing b b'

-- how a run of a program over the trace of this name ends
abbrev pub RunEnds : Ending → ProgramTree → List FixType → List ℕ → HostTold → HostTold → SinkTold →
    SinkTold → Type 0
RunEnds (Ran totals) p types trace h h' b b' = RunsFile (Ran totals) p types trace h h' b b'
RunEnds (BadTrace line) p types trace h h' b b' = RunsFile (BadTrace line) p types trace h h' b b'
RunEnds (IsStuck at) p types trace h h' b b' = RunsFile (IsStuck at) p types trace h h' b b'
RunEnds PutFault p types trace h h' b b' = RunsFile PutFault p types trace h h' b b'
RunEnds ReadFault p types trace h h' b b' = MissesFile p types trace h h' b b'
RunEnds NoMemory p types trace h h' b b' = ForgetsFile h h' b b'
RunEnds _ p types trace h h' b b' = ⊥

-- ---- Running a script

-- the script of this name was run on a system, up to an ending
pub record DrivesFile (e : Ending) (w : Driven) (script : List ℕ) (h h' : HostTold)
    (b b' : SinkTold) : Type 0 where
  pub lines : OnBytes h script (λ bytes. DrivesTo e w bytes b b')
  pub end : ReadsToEnd e h'
  pub left : LeavesHost h h'

-- an error of reading the script: it isn't opened, and nothing was printed, or the lines of all whole
-- lines among what was taken were
pub record MissesScript (w : Driven) (script : List ℕ) (h h' : HostTold)
    (b b' : SinkTold) : Type 0 where
  pub rose : Rose h.read_faults h'.read_faults
  pub written : h'.written ≡ h.written
  pub lines : OpensNothing 0 h h' b b' ⊎ TakesScript 0 w script h h' b b'

-- how a run of the script of this name on a system ends
abbrev pub DriveEnds : Ending → Driven → (script : List ℕ) → HostTold → HostTold → SinkTold →
    SinkTold → Type 0
DriveEnds (Ran totals) w script h h' b b' = DrivesFile (Ran totals) w script h h' b b'
DriveEnds (BadScript stop) w script h h' b b' = DrivesFile (BadScript stop) w script h h' b b'
DriveEnds PutFault w script h h' b b' = DrivesFile PutFault w script h h' b b'
DriveEnds ReadFault w script h h' b b' = MissesScript w script h h' b b'
DriveEnds NoMemory w script h h' b b' = ForgetsFile h h' b b'
DriveEnds _ w script h h' b b' = ⊥
