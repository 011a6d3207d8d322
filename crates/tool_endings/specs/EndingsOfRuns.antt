-- How a call may end that runs code over a trace: what was found, what was written and what was
-- printed.
use Rattle.std.specs.Prelude.{◌≡◌, ℕ, ◌+◌, ◌<◌, ◌≤◌, ◌⊎◌, List, length, Some, ⊤}
use Rattle.std.specs.Io.KnownBytes.{prepend_known, IsAtEnd}
use Rattle.base_refusals.specs.Refusals.{plain_refusal}
use Rattle.base_fixed_point.specs.declared.types.FixType.{FixType}
use Rattle.base_host.specs.Faults.{Rose}
use Rattle.base_host.specs.Files.{add_file}
use Rattle.base_host.specs.Reading.{RoseBy}
use Rattle.diagram_meaning.specs.ResolvedTable.{ResolvedTable, diagram_of_table}
use Rattle.c_syntax.specs.declared.fault.CFault.{CFault}
use Rattle.c_syntax.specs.declared.fault.Stuck.{Stuck}
use Rattle.c_syntax.specs.Tree.{ProgramTree}
use Rattle.c_semantics.specs.Cells.{Cells}
use Rattle.c_semantics.specs.Machine.{After, done, stuck}
use Rattle.c_semantics.specs.Rows.{start_run}
use Rattle.c_rules.specs.Reading.{CText, CFaultOf}
use Rattle.diagram_verdict.specs.Verdict.{HasVerdict, Accepted}
use Rattle.emit_notes.specs.ModelNotes.{HasNotesOf}
use Rattle.tool_compiled.specs.Compilation.{Compilation, root_types, IsCompilationOf}
use Rattle.tool_endings.specs.declared.ending.Ending.{Ending}
use Rattle.tool_endings.specs.declared.ending.Ending.TheVariants.{Ran, Flowed, Refused, BadTrace, CodeRefused, CodeTooLong, Stuck as IsStuck, ReadFault, WriteFault, PutFault, NoMemory}
use Rattle.tool_endings.specs.Told.{HostTold, SinkTold, ReadsAlone, NoFault}
use Rattle.tool_endings.specs.Runs.{HasStepTypes, RunsTaken, RunsTo}
use Rattle.tool_endings.specs.EndingsOfModels.{OnNamed, OnBytes, OpensNothing, PutsNothing, LeavesHost, EndsRefused, EndsReadFault, EndsWriteFault, EndsNoMemory}

-- ---- Running over a trace

-- where a whole trace or script was run, nothing of it is left to read
abbrev pub ReadsToEnd : Ending → HostTold → Type 0
ReadsToEnd (Ran totals) h' = IsAtEnd h'.rest
ReadsToEnd (Flowed ticks) h' = IsAtEnd h'.rest
ReadsToEnd _ h' = ⊤

-- so many bytes of files before it were read, and these of the trace of this name, and nothing else;
-- the lines of all whole lines among them were printed
pub record TakesFile (before : ℕ) (p : ProgramTree) (types : List FixType) (trace : List ℕ)
    (h h' : HostTold) (b b' : SinkTold) : Type 0 where
  pub taken : List ℕ
  pub file : OnNamed h trace (λ told. Some told ≡ prepend_known taken h'.rest)
  pub given : RoseBy (before + length taken) h.given h'.given
  pub lines : RunsTaken p types taken b b'

-- ---- Running the code of a model

-- a model was compiled, and its code written whole, with notes of its blocks
pub record WritesWhole (code model : List ℕ) (h h' : HostTold) : Type 0 where
  pub resolved : ResolvedTable
  pub verdict : HasVerdict model (Accepted resolved)
  pub compilation : Compilation
  pub right : IsCompilationOf resolved compilation
  pub noted : HasNotesOf model compilation.code
  pub written : h'.written ≡ add_file h.written code compilation.code

-- the model was compiled, its code written whole, and the program that it is run over the trace
pub record RunsModel (e : Ending) (trace code model : List ℕ) (h h' : HostTold)
    (b b' : SinkTold) : Type 0 where
  pub whole : WritesWhole code model h h'
  pub runs : OnBytes h trace
      (λ bytes. RunsTo e whole.right.code.program (root_types (diagram_of_table whole.resolved))
      bytes b b')
  pub end : ReadsToEnd e h'

-- the same, where no error of reading or writing was counted
pub record EndsRun (e : Ending) (model_name code_name trace_name : List ℕ) (h h' : HostTold)
    (b b' : SinkTold) : Type 0 where
  pub model : OnBytes h model_name (λ bytes. RunsModel e trace_name code_name bytes h h' b b')
  pub no_fault : NoFault h h'

-- the model was compiled, its code written whole, and the trace couldn't be opened, or not read to
-- its end
pub record LosesTrace (trace code model : List ℕ) (h h' : HostTold) (b b' : SinkTold) : Type 0 where
  pub whole : WritesWhole code model h h'
  pub lines : OpensNothing (length model) h h' b b'
      ⊎ TakesFile (length model) whole.right.code.program
      (root_types (diagram_of_table whole.resolved)) trace h h' b b'

-- an error of reading the model, or the trace after the code
abbrev pub EndsRunUnread : (model code trace : List ℕ) → HostTold → HostTold → SinkTold → SinkTold →
    Type 0
EndsRunUnread model code trace h h' b b' =
    (EndsReadFault model h h' × PutsNothing b b')
    ⊎ (Rose h.read_faults h'.read_faults
    × OnBytes h model (λ bytes. LosesTrace trace code bytes h h' b b'))

abbrev pub EndsRunning : Ending → (model code trace : List ℕ) → HostTold → HostTold → SinkTold →
    SinkTold → Type 0
EndsRunning (Ran totals) model code trace h h' b b' =
    EndsRun (Ran totals) model code trace h h' b b'
EndsRunning (BadTrace line) model code trace h h' b b' =
    EndsRun (BadTrace line) model code trace h h' b b'
EndsRunning PutFault model code trace h h' b b' = EndsRun PutFault model code trace h h' b b'
EndsRunning (Refused refusal) model code trace h h' b b' =
    EndsRefused (plain_refusal refusal) model h h' × PutsNothing b b'
EndsRunning ReadFault model code trace h h' b b' = EndsRunUnread model code trace h h' b b'
EndsRunning WriteFault model code trace h h' b b' =
    EndsWriteFault model code h h' × PutsNothing b b'
EndsRunning NoMemory model code trace h h' b b' = EndsNoMemory model code h h' × PutsNothing b b'
EndsRunning _ model code trace h h' b b' = ⊥

-- ---- Executing code

-- the most bytes of a C file that is read
abbrev pub code_limit : ℕ
code_limit = 536_870_912

-- the bytes are not too many, and the text of a program, which isn't stuck in its start
pub record StartsCode (code : List ℕ) : Type 0 where
  pub fits : length code ≤ code_limit
  pub program : ProgramTree
  pub reading : CText code program
  pub after : After
  pub start : start_run program ≡ done after
  pub types : List FixType
  pub inputs : HasStepTypes program types

-- and is run over the trace
pub record ExecutesCode (e : Ending) (trace code : List ℕ) (h h' : HostTold)
    (b b' : SinkTold) : Type 0 where
  pub starts : StartsCode code
  pub runs : OnBytes h trace (λ bytes. RunsTo e starts.program starts.types bytes b b')
  pub end : ReadsToEnd e h'

-- and whose trace couldn't be opened, or not read to its end
pub record LosesTraceOf (trace code : List ℕ) (h h' : HostTold) (b b' : SinkTold) : Type 0 where
  pub starts : StartsCode code
  pub lines : OpensNothing (length code) h h' b b'
      ⊎ TakesFile (length code) starts.program starts.types trace h h' b b'

-- the bytes are not too many, and no text of a program
abbrev pub IsUnread : CFault → List ℕ → Type 0
IsUnread fault code = (length code ≤ code_limit) × CFaultOf code fault

-- the bytes are not too many, and the text of a program, which is stuck in its start
pub record IsStuckAtStart (at : Stuck) (code : List ℕ) : Type 0 where
  pub fits : length code ≤ code_limit
  pub program : ProgramTree
  pub reading : CText code program
  pub cells : Cells
  pub start : start_run program ≡ stuck at cells

pub record EndsExec (e : Ending) (code_name trace_name : List ℕ) (h h' : HostTold)
    (b b' : SinkTold) : Type 0 where
  pub code : OnBytes h code_name (λ bytes. ExecutesCode e trace_name bytes h h' b b')
  pub left : LeavesHost h h'

-- the code is such, no other file was opened, and nothing was printed
pub record EndsAtCode (name : List ℕ) (P : List ℕ → Type 0) (h h' : HostTold)
    (b b' : SinkTold) : Type 0 where
  pub code : OnBytes h name P
  pub read : ReadsAlone name h h'
  pub left : LeavesHost h h'
  pub silent : PutsNothing b b'

abbrev pub EndsExecStuck : Stuck → (code trace : List ℕ) → HostTold → HostTold → SinkTold →
    SinkTold → Type 0
EndsExecStuck at code trace h h' b b' =
    EndsAtCode code (IsStuckAtStart at) h h' b b' ⊎ EndsExec (IsStuck at) code trace h h' b b'

-- An error of reading the code, or of the trace after it: the trace isn't looked for before the
-- code was read and started.
abbrev pub EndsExecUnread : (code trace : List ℕ) → HostTold → HostTold → SinkTold → SinkTold →
    Type 0
EndsExecUnread code trace h h' b b' =
    (EndsReadFault code h h' × PutsNothing b b')
    ⊎ (Rose h.read_faults h'.read_faults × (h'.written ≡ h.written)
    × OnBytes h code (λ bytes. LosesTraceOf trace bytes h h' b b'))

abbrev pub EndsExecuting : Ending → (code trace : List ℕ) → HostTold → HostTold → SinkTold →
    SinkTold → Type 0
EndsExecuting (Ran totals) code trace h h' b b' = EndsExec (Ran totals) code trace h h' b b'
EndsExecuting (BadTrace line) code trace h h' b b' = EndsExec (BadTrace line) code trace h h' b b'
EndsExecuting PutFault code trace h h' b b' = EndsExec PutFault code trace h h' b b'
EndsExecuting (CodeRefused fault) code trace h h' b b' = EndsAtCode code (IsUnread fault) h h' b b'
EndsExecuting CodeTooLong code trace h h' b b' =
    EndsAtCode code (λ bytes. code_limit < length bytes) h h' b b'
EndsExecuting (IsStuck at) code trace h h' b b' = EndsExecStuck at code trace h h' b b'
EndsExecuting ReadFault code trace h h' b b' = EndsExecUnread code trace h h' b b'
EndsExecuting NoMemory code trace h h' b b' = LeavesHost h h' × PutsNothing b b'
EndsExecuting _ code trace h h' b b' = ⊥
