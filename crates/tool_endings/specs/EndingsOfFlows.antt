-- How a call may end that runs the flows of a file of Lustre over a trace: what was found and what was
-- printed. It writes nothing.
use Rattle.std.specs.Prelude.{◌≡◌, ℕ, ◌+◌, ◌<◌, ◌≤◌, ◌⊎◌, List, length, Some}
use Rattle.std.specs.Io.KnownBytes.{prepend_known}
use Rattle.base_host.specs.Faults.{Rose}
use Rattle.base_host.specs.Reading.{RoseBy}
use Rattle.c_syntax.specs.declared.fault.CFault.{CFault}
use Rattle.lustre_syntax.specs.Tree.{FileTree}
use Rattle.lustre_rules.specs.Reading.{LustreText, LustreFaultOf}
use Rattle.tool_flow_runner.specs.FlowTraces.{flow_trace, whole_flow_trace}
use Rattle.tool_flow_runner.specs.Runs.{RanAll, RanWhole, StoppedAtLine, StoppedStuck, StoppedByPut}
use Rattle.tool_endings.specs.declared.ending.Ending.{Ending}
use Rattle.tool_endings.specs.declared.ending.Ending.TheVariants.{Flowed, BadTrace, LustreRefused, LustreTooLong, FlowStuck, ReadFault, PutFault, NoMemory}
use Rattle.tool_endings.specs.Told.{HostTold, SinkTold}
use Rattle.tool_endings.specs.EndingsOfModels.{OnNamed, OnBytes, OpensNothing, PutsNothing, LeavesHost, EndsReadFault}
use Rattle.tool_endings.specs.EndingsOfRuns.{ReadsToEnd, EndsAtCode, code_limit}

-- ---- Running over a trace

-- how flows over the bytes of a trace may end, and what lines were printed by then
abbrev pub FlowsTo : Ending → FileTree → List ℕ → (b b' : SinkTold) → Type 0
FlowsTo (Flowed ticks) f trace b b' = RanAll ticks f (flow_trace f trace) b.bytes b'.bytes
FlowsTo (BadTrace line) f trace b b' = StoppedAtLine line f (flow_trace f trace) b.bytes b'.bytes
FlowsTo (FlowStuck at) f trace b b' = StoppedStuck at f (flow_trace f trace) b.bytes b'.bytes
FlowsTo PutFault f trace b b' = StoppedByPut f (flow_trace f trace) b.bytes b'.bytes
FlowsTo _ f trace b b' = ⊥

-- so many bytes of files before it were read, and these of the trace of this name, and nothing else;
-- the lines of all whole lines among them were printed
pub record TakesFlows (before : ℕ) (f : FileTree) (trace : List ℕ) (h h' : HostTold)
    (b b' : SinkTold) : Type 0 where
  pub taken : List ℕ
  pub file : OnNamed h trace (λ told. Some told ≡ prepend_known taken h'.rest)
  pub given : RoseBy (before + length taken) h.given h'.given
  pub lines : RanWhole f (whole_flow_trace f taken) b.bytes b'.bytes

-- ---- Files of Lustre

-- the bytes are not too many, and the text of a file of Lustre
pub record ReadsLustre (bytes : List ℕ) : Type 0 where
  pub fits : length bytes ≤ code_limit
  pub tree : FileTree
  pub reading : LustreText bytes tree

-- the bytes are not too many, and no text of a file of Lustre
abbrev pub IsNoLustre : CFault → List ℕ → Type 0
IsNoLustre fault bytes = (length bytes ≤ code_limit) × LustreFaultOf bytes fault

-- ---- Endings

-- the file is read, and its flows run over the trace
pub record RunsFlows (e : Ending) (trace bytes : List ℕ) (h h' : HostTold)
    (b b' : SinkTold) : Type 0 where
  pub file : ReadsLustre bytes
  pub runs : OnBytes h trace (λ lines. FlowsTo e file.tree lines b b')
  pub end : ReadsToEnd e h'

pub record EndsFlow (e : Ending) (file_name trace_name : List ℕ) (h h' : HostTold)
    (b b' : SinkTold) : Type 0 where
  pub file : OnBytes h file_name (λ bytes. RunsFlows e trace_name bytes h h' b b')
  pub left : LeavesHost h h'

-- the file is read, and the trace couldn't be opened, or not read to its end
pub record LosesFlows (trace bytes : List ℕ) (h h' : HostTold) (b b' : SinkTold) : Type 0 where
  pub file : ReadsLustre bytes
  pub lines : OpensNothing (length bytes) h h' b b'
      ⊎ TakesFlows (length bytes) file.tree trace h h' b b'

-- An error of reading the file, or of the trace after it: the trace isn't looked for before the
-- file was read.
abbrev pub EndsFlowUnread : (file trace : List ℕ) → HostTold → HostTold → SinkTold → SinkTold →
    Type 0
EndsFlowUnread file trace h h' b b' =
    (EndsReadFault file h h' × PutsNothing b b')
    ⊎ (Rose h.read_faults h'.read_faults × (h'.written ≡ h.written)
    × OnBytes h file (λ bytes. LosesFlows trace bytes h h' b b'))

abbrev pub EndsFlowing : Ending → (file trace : List ℕ) → HostTold → HostTold → SinkTold →
    SinkTold → Type 0
EndsFlowing (Flowed ticks) file trace h h' b b' = EndsFlow (Flowed ticks) file trace h h' b b'
EndsFlowing (BadTrace line) file trace h h' b b' = EndsFlow (BadTrace line) file trace h h' b b'
EndsFlowing (FlowStuck at) file trace h h' b b' = EndsFlow (FlowStuck at) file trace h h' b b'
EndsFlowing PutFault file trace h h' b b' = EndsFlow PutFault file trace h h' b b'
EndsFlowing (LustreRefused fault) file trace h h' b b' =
    EndsAtCode file (IsNoLustre fault) h h' b b'
EndsFlowing LustreTooLong file trace h h' b b' =
    EndsAtCode file (λ bytes. code_limit < length bytes) h h' b b'
EndsFlowing ReadFault file trace h h' b b' = EndsFlowUnread file trace h h' b b'
EndsFlowing NoMemory file trace h h' b b' = LeavesHost h h' × PutsNothing b b'
EndsFlowing _ file trace h h' b b' = ⊥
