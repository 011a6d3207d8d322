-- What the flows of a file over a trace come to.
use Rattle.std.specs.Prelude.{◌≡◌, ℕ, List, [], ◌++◌, length, Option, None, Some, IfSome, Result, MatchResult}
use Rattle.std.specs.Io.KnownBytes.{append_known}
use Rattle.base_host.specs.Files.{PutsFront}
use Rattle.base_host.specs.Reading.{Source, HasRead}
use Rattle.lustre_syntax.specs.Tree.{FileTree}
use Rattle.lustre_flows.specs.declared.stuck.LusStuck.{LusStuck}
use Rattle.lustre_flows.specs.Flows.{flows}
use Rattle.tool_traces.specs.declared.rows.BadLine.{BadLine}
use Rattle.tool_traces.specs.Rows.{Trace}
use Rattle.tool_runner.specs.Runs.{Front, Parts}
use Rattle.tool_flow_runner.specs.declared.outcome.FlowFault.{FlowFault}
use Rattle.tool_flow_runner.specs.declared.outcome.FlowFault.TheVariants as fault
use Rattle.tool_flow_runner.specs.FlowTraces.{flow_trace, whole_flow_trace, flow_lines}

-- each line of the trace is a row that has ticked, and their lines were printed
pub record RanWhole (f : FileTree) (trace : Trace) (put put' : Option (List ℕ)) : Type 0 where
  pub rows_only : trace.bad ≡ None
  pub free : (flows f trace.rows).stuck_place ≡ None
  pub lines : put' ≡ append_known put (flow_lines f trace.rows)

-- the rows before the first bad line have ticked, and their lines were printed
pub record StoppedAtLine (bad : BadLine) (f : FileTree) (trace : Trace)
    (put put' : Option (List ℕ)) : Type 0 where
  pub first_bad : trace.bad ≡ Some bad
  pub free : (flows f trace.rows).stuck_place ≡ None
  pub lines : put' ≡ append_known put (flow_lines f trace.rows)

-- the rows have ticked up to one whose tick is stuck, and the lines of all before it were printed
pub record StoppedStuck (at : LusStuck) (f : FileTree) (trace : Trace)
    (put put' : Option (List ℕ)) : Type 0 where
  pub stuck : (flows f trace.rows).stuck_place ≡ Some at
  pub lines : put' ≡ append_known put (flow_lines f trace.rows)

-- some first rows have ticked, of which the last may be stuck, and a front of their lines was
-- printed
pub record StoppedByPut (f : FileTree) (trace : Trace) (put put' : Option (List ℕ)) : Type 0 where
  pub front : Front trace
  pub lines : PutsFront put put' (flow_lines f front.rows)

-- so many rows have ticked, all of the trace
pub record RanAll (ticks : ℕ) (f : FileTree) (trace : Trace) (put put' : Option (List ℕ)) :
    Type 0 where
  pub count : ticks ≡ length trace.rows
  pub whole : RanWhole f trace put put'

-- the rows of the whole file, and those of the whole lines among what was taken
abbrev pub file_trace : FileTree → Parts → Trace
file_trace f parts = flow_trace f (parts.taken ++ parts.left)

abbrev pub taken_trace : FileTree → Parts → Trace
taken_trace f parts = whole_flow_trace f parts.taken

-- What flows over a file are stopped by. Where it can't be read on, each whole line among what was
-- taken is a row that has ticked and whose line was printed. Memory is taken before the first byte.
abbrev pub StoppedReading : FlowFault → FileTree → Parts → (put put' : Option (List ℕ)) → Type 0
StoppedReading fault.Read f parts put put' = RanWhole f (taken_trace f parts) put put'
StoppedReading fault.Put f parts put put' = StoppedByPut f (file_trace f parts) put put'
StoppedReading (fault.Bad bad) f parts put put' = StoppedAtLine bad f (file_trace f parts) put put'
StoppedReading (fault.Stuck at) f parts put put' = StoppedStuck at f (file_trace f parts) put put'
StoppedReading fault.Memory f parts put put' = (put' ≡ put) × (parts.taken ≡ [])

-- what was taken of a file in the call, what is left of it where that is reported, and what its
-- flows come to
pub record RunsOver (result : Result ℕ FlowFault) (f : FileTree) (from to : Source)
    (put put' : Option (List ℕ)) : Type 0 where
  pub parts : Parts
  pub took : HasRead parts.taken from to
  pub left : IfSome to.rest (λ told. told ≡ parts.left)
  pub ends : MatchResult result (λ ticks. RanAll ticks f (file_trace f parts) put put')
      (λ fault. StoppedReading fault f parts put put')
