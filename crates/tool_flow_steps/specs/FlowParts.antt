-- What the parts of the command `flow` come to.
use Rattle.std.specs.Prelude.{◌≡◌, ℕ, ◌<◌, ◌≤◌, ◌⊎◌, List, [], length, Some}
use Rattle.base_host.specs.Faults.{Rose}
use Rattle.base_host.specs.Reading.{RoseBy}
use Rattle.lustre_syntax.specs.Tree.{FileTree}
use Rattle.lustre_rules.specs.Reading.{LustreText}
use Rattle.tool_endings.specs.declared.ending.Ending.{Ending}
use Rattle.tool_endings.specs.declared.ending.Ending.TheVariants.{Flowed, BadTrace, LustreRefused, LustreTooLong, FlowStuck, ReadFault, PutFault, NoMemory}
use Rattle.tool_endings.specs.Told.{HostTold, SinkTold, ReadsAlone}
use Rattle.tool_endings.specs.EndingsOfModels.{OnNamed, OnBytes, OpensNothing, EndsReadFault, LeavesHost}
use Rattle.tool_endings.specs.EndingsOfRuns.{ReadsToEnd, code_limit}
use Rattle.tool_endings.specs.EndingsOfFlows.{FlowsTo, TakesFlows, IsNoLustre}
use Rattle.tool_endings.specs.Acting.{ForgetsFile}

-- ---- Reading a file of Lustre

-- the bytes are not too many, and a text of this file of Lustre
pub record IsLustreText (f : FileTree) (bytes : List ℕ) : Type 0 where
  pub fits : length bytes ≤ code_limit
  pub reading : LustreText bytes f

-- the file of this name was read as this file of Lustre; of what the host reports to read, nothing is
-- left
pub record ReadsLustreFile (f : FileTree) (name : List ℕ) (h h' : HostTold) : Type 0 where
  pub file : OnBytes h name (IsLustreText f)
  pub files : h'.files ≡ h.files
  pub told : OnNamed h name (λ _. h'.rest ≡ Some [])
  pub given : RoseBy (length file.bytes) h.given h'.given
  pub left : LeavesHost h h'

-- P holds of the file of this name, and no more was read than of it
pub record RefusesFile (P : List ℕ → Type 0) (name : List ℕ) (h h' : HostTold) : Type 0 where
  pub file : OnBytes h name P
  pub read : ReadsAlone name h h'
  pub left : LeavesHost h h'

-- it wasn't, and the call ends
abbrev pub NotRead : Ending → (name : List ℕ) → HostTold → HostTold → Type 0
NotRead (LustreRefused fault) name h h' = RefusesFile (IsNoLustre fault) name h h'
NotRead LustreTooLong name h h' = RefusesFile (λ bytes. code_limit < length bytes) name h h'
NotRead ReadFault name h h' = EndsReadFault name h h'
NotRead NoMemory name h h' = LeavesHost h h'
NotRead _ name h h' = ⊥

-- ---- Running over a trace

-- the flows of a file of Lustre were run over the trace of this name, up to an ending
pub record FlowsFile (e : Ending) (f : FileTree) (trace : List ℕ) (h h' : HostTold)
    (b b' : SinkTold) : Type 0 where
  pub lines : OnBytes h trace (λ bytes. FlowsTo e f bytes b b')
  pub end : ReadsToEnd e h'
  pub left : LeavesHost h h'

-- an error of reading the trace: it isn't opened, and nothing was printed, or the lines of all whole
-- lines among what was taken were
pub record MissesFlows (f : FileTree) (trace : List ℕ) (h h' : HostTold) (b b' : SinkTold) : Type 0
  where
    pub rose : Rose h.read_faults h'.read_faults
    pub written : h'.written ≡ h.written
    pub lines : OpensNothing 0 h h' b b' ⊎ TakesFlows 0 f trace h h' b b'

-- how the flows of a file of Lustre over the trace of this name end
abbrev pub FlowsEnd : Ending → FileTree → (trace : List ℕ) → HostTold → HostTold → SinkTold →
    SinkTold → Type 0
FlowsEnd (Flowed ticks) f trace h h' b b' = FlowsFile (Flowed ticks) f trace h h' b b'
FlowsEnd (BadTrace line) f trace h h' b b' = FlowsFile (BadTrace line) f trace h h' b b'
FlowsEnd (FlowStuck at) f trace h h' b b' = FlowsFile (FlowStuck at) f trace h h' b b'
FlowsEnd PutFault f trace h h' b b' = FlowsFile PutFault f trace h h' b b'
FlowsEnd ReadFault f trace h h' b b' = MissesFlows f trace h h' b b'
FlowsEnd NoMemory f trace h h' b b' = ForgetsFile h h' b b'
FlowsEnd _ f trace h h' b b' = ⊥
