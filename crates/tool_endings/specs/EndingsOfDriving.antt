-- How a call may end that drives a system of a model: what was found, what was written and what was
-- printed.
use Rattle.std.specs.Prelude.{◌≡◌, ℕ, ◌+◌, ◌⊎◌, List, length, Some, None}
use Rattle.std.specs.Io.KnownBytes.{prepend_known}
use Rattle.base_refusals.specs.Refusals.{plain_refusal}
use Rattle.base_host.specs.Faults.{Rose}
use Rattle.base_host.specs.Reading.{RoseBy}
use Rattle.diagram_meaning.specs.ResolvedTable.{ResolvedTable}
use Rattle.diagram_verdict.specs.Verdict.{HasVerdict, Accepted}
use Rattle.tool_driver.specs.Driven.{Driven}
use Rattle.tool_system_driver.specs.SystemShapes.{IsSystemOfModel}
use Rattle.tool_system_driver.specs.Words.{system_named}
use Rattle.tool_script_runner.specs.Drives.{AnswersTaken}
use Rattle.tool_endings.specs.declared.ending.Ending.{Ending}
use Rattle.tool_endings.specs.declared.ending.Ending.TheVariants.{Ran, Refused, BadScript, ReadFault, WriteFault, PutFault, NoMemory}
use Rattle.tool_endings.specs.declared.ending.ScriptStop.TheVariants.{NoSubsystem, Line, Call}
use Rattle.tool_endings.specs.Told.{HostTold, SinkTold, ReadsAlone, NoFault}
use Rattle.tool_endings.specs.Scripts.{DrivesTo}
use Rattle.tool_endings.specs.EndingsOfModels.{OnNamed, OnBytes, OpensNothing, PutsNothing, LeavesHost, EndsRefused, EndsReadFault, EndsWriteFault, EndsNoMemory}
use Rattle.tool_endings.specs.EndingsOfRuns.{ReadsToEnd, WritesWhole}

-- ---- The system that is driven

-- the model is accepted, and the word names no system of it
pub record NamesNone (word model : List ℕ) : Type 0 where
  pub resolved : ResolvedTable
  pub verdict : HasVerdict model (Accepted resolved)
  pub none : system_named resolved.table.rows word ≡ None

-- the model was compiled, and its code written whole; the word names a system of it, which is
-- driven in that code
pub record WritesDriven (word code model : List ℕ) (h h' : HostTold) : Type 0 where
  pub whole : WritesWhole code model h h'
  pub driven : Driven
  pub named : system_named whole.resolved.table.rows word ≡ Some driven.system
  pub of_model : IsSystemOfModel whole.resolved driven.system driven
  pub program : driven.program ≡ whole.right.code.program

-- so many bytes of files before it were read, and these of the script of this name, and nothing
-- else; the lines of all calls in the whole lines among them were printed
pub record TakesScript (before : ℕ) (w : Driven) (script : List ℕ) (h h' : HostTold)
    (b b' : SinkTold) : Type 0 where
  pub taken : List ℕ
  pub file : OnNamed h script (λ told. Some told ≡ prepend_known taken h'.rest)
  pub given : RoseBy (before + length taken) h.given h'.given
  pub lines : AnswersTaken w taken b.bytes b'.bytes

-- ---- Endings

-- the system was driven by the script
pub record DrivesModel (e : Ending) (word script code model : List ℕ) (h h' : HostTold)
    (b b' : SinkTold) : Type 0 where
  pub written : WritesDriven word code model h h'
  pub drives : OnBytes h script (λ bytes. DrivesTo e written.driven bytes b b')
  pub end : ReadsToEnd e h'

-- the same where no error of reading or writing was counted
pub record EndsDrive (e : Ending) (model_name code_name word script_name : List ℕ) (h h' : HostTold)
    (b b' : SinkTold) : Type 0 where
  pub model : OnBytes h model_name
      (λ bytes. DrivesModel e word script_name code_name bytes h h' b b')
  pub no_fault : NoFault h h'

-- no such system is there, no file but the model was opened, and nothing was written or printed
pub record EndsUnnamed (model_name word : List ℕ) (h h' : HostTold) (b b' : SinkTold) : Type 0 where
  pub model : OnBytes h model_name (NamesNone word)
  pub read : ReadsAlone model_name h h'
  pub left : LeavesHost h h'
  pub silent : PutsNothing b b'

-- the code was written whole, and the script couldn't be opened, or not read to its end
pub record LosesScript (word script code model : List ℕ) (h h' : HostTold)
    (b b' : SinkTold) : Type 0 where
  pub written : WritesDriven word code model h h'
  pub lines : OpensNothing (length model) h h' b b'
      ⊎ TakesScript (length model) written.driven script h h' b b'

-- an error of reading the model, or the script after the code
abbrev pub EndsDriveUnread : (model code word script : List ℕ) → HostTold → HostTold → SinkTold →
    SinkTold → Type 0
EndsDriveUnread model code word script h h' b b' =
    (EndsReadFault model h h' × PutsNothing b b')
    ⊎ (Rose h.read_faults h'.read_faults
    × OnBytes h model (λ bytes. LosesScript word script code bytes h h' b b'))

abbrev pub EndsDriving : Ending → (model code word script : List ℕ) → HostTold → HostTold →
    SinkTold → SinkTold → Type 0
EndsDriving (Ran totals) model code word script h h' b b' =
    EndsDrive (Ran totals) model code word script h h' b b'
EndsDriving (BadScript NoSubsystem) model code word script h h' b b' =
    EndsUnnamed model word h h' b b'
EndsDriving (BadScript (Line bad)) model code word script h h' b b' =
    EndsDrive (BadScript (Line bad)) model code word script h h' b b'
EndsDriving (BadScript (Call refused)) model code word script h h' b b' =
    EndsDrive (BadScript (Call refused)) model code word script h h' b b'
EndsDriving PutFault model code word script h h' b b' =
    EndsDrive PutFault model code word script h h' b b'
EndsDriving (Refused refusal) model code word script h h' b b' =
    EndsRefused (plain_refusal refusal) model h h' × PutsNothing b b'
EndsDriving ReadFault model code word script h h' b b' =
    EndsDriveUnread model code word script h h' b b'
EndsDriving WriteFault model code word script h h' b b' =
    EndsWriteFault model code h h' × PutsNothing b b'
EndsDriving NoMemory model code word script h h' b b' =
    EndsNoMemory model code h h' × PutsNothing b b'
EndsDriving _ model code word script h h' b b' = ⊥
