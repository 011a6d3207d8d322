-- What a run over the rows of a trace comes to.
use Rattle.std.specs.Prelude.{◌≡◌, ℕ, ◌+◌, ℤ, List, [], ◌++◌, length, None, Some, IfSome, Result, MatchResult}
use Rattle.std.specs.List.{sum_by}
use Rattle.std.specs.Io.KnownBytes.{append_known}
use Rattle.base_host.specs.Files.{PutsFront}
use Rattle.base_host.specs.Reading.{Source, HasRead}
use Rattle.base_fixed_point.specs.declared.types.FixType.{FixType}
use Rattle.c_syntax.specs.declared.fault.Stuck.{Stuck}
use Rattle.c_semantics.specs.Rows.{TickRow, Rows, rows_from, interface_calls}
use Rattle.c_interpreter.specs.States.{tree_of, fields_of}
use Rattle.tool_traces.specs.declared.rows.BadLine.{BadLine}
use Rattle.tool_traces.specs.Rows.{Trace, rows_of, whole_rows_of}
use Rattle.tool_runner.specs.declared.outcome.Totals.{Totals}
use Rattle.tool_runner.specs.declared.outcome.RunFault.{RunFault}
use Rattle.tool_runner.specs.declared.outcome.RunFault.TheVariants as fault
use Rattle.tool_runner.specs.Texts.{ticks_text}
use Rattle.tool_runner.specs.Ticks.{Standing}

-- the totals before the first tick
abbrev pub no_totals : Totals
no_totals = record { ticks = 0; steps = 0; calls = 0 }

-- what these ticks took together
abbrev pub totals_of : List TickRow → Totals
totals_of ticks =
    record {
      ticks = length ticks;
      steps = sum_by (λ tick. tick.steps) ticks;
      calls = sum_by interface_calls ticks;
    }

-- totals, and what these took after them
abbrev pub added : Totals → Totals → Totals
added t more =
    record {
      ticks = t.ticks + more.ticks;
      steps = t.steps + more.steps;
      calls = t.calls + more.calls;
    }

-- the ticks of these rows, on the machine as it is
abbrev pub ticks_over : Standing → List (List ℤ) → Rows
ticks_over s rows = rows_from (tree_of s.machine) rows (fields_of s.machine)

-- these ticks were executed and counted, up to one that is stuck, if there is one
pub record HasTicked (rows : Rows) (s s' : Standing) : Type 0 where
  pub program : s'.machine.program ≡ s.machine.program
  pub fields : fields_of s'.machine ≡ rows.cells
  pub totals : s'.totals ≡ added s.totals (totals_of rows.ticks)

-- and their lines were printed
pub record HasRun (rows : Rows) (s s' : Standing) : Type 0 where
  pub ticked : HasTicked rows s s'
  pub put : s'.put ≡ append_known s.put (ticks_text rows.ticks)

-- each line of the trace is a row that has ticked
pub record RanWhole (trace : Trace) (s s' : Standing) : Type 0 where
  pub rows_only : trace.bad ≡ None
  pub unstuck : (ticks_over s trace.rows).stuck_place ≡ None
  pub run : HasRun (ticks_over s trace.rows) s s'

-- the rows before the first bad line have ticked
pub record StoppedAtLine (bad : BadLine) (trace : Trace) (s s' : Standing) : Type 0 where
  pub first_bad : trace.bad ≡ Some bad
  pub unstuck : (ticks_over s trace.rows).stuck_place ≡ None
  pub run : HasRun (ticks_over s trace.rows) s s'

-- the rows have ticked up to one whose tick is stuck; that one is not counted, and the fields are
-- as it left them
pub record StoppedStuck (at : Stuck) (trace : Trace) (s s' : Standing) : Type 0 where
  pub stuck : (ticks_over s trace.rows).stuck_place ≡ Some at
  pub run : HasRun (ticks_over s trace.rows) s s'

-- some first rows of a trace
pub record Front (trace : Trace) : Type 0 where
  pub rows : List (List ℤ)
  pub behind : List (List ℤ)
  pub parts : trace.rows ≡ rows ++ behind

-- some first rows have ticked, of which the last may be stuck, and a front of their lines was printed
pub record StoppedByOut (trace : Trace) (s s' : Standing) : Type 0 where
  pub front : Front trace
  pub ticked : HasTicked (ticks_over s front.rows) s s'
  pub put : PutsFront s.put s'.put (ticks_text (ticks_over s front.rows).ticks)

-- ---- Over bytes

-- What a run over bytes is stopped by. Memory is taken before the first row, so that nothing has
-- changed without it.
abbrev pub StoppedBy : RunFault → Trace → Standing → Standing → Type 0
StoppedBy fault.Read trace s s' = ⊥
StoppedBy fault.Out trace s s' = StoppedByOut trace s s'
StoppedBy (fault.Trace bad) trace s s' = StoppedAtLine bad trace s s'
StoppedBy (fault.Stuck at) trace s s' = StoppedStuck at trace s s'
StoppedBy fault.Memory trace s s' = s' ≡ s

-- what a run over a trace comes to, by its result
abbrev pub Ends : Result (Unit {0}) RunFault → Trace → Standing → Standing → Type 0
Ends result trace s s' =
    MatchResult result (λ _. RanWhole trace s s') (λ fault. StoppedBy fault trace s s')

-- ---- Over a file

-- a file in two parts: what was taken of it, and what is left
pub record Parts : Type 0 where
  pub taken : List ℕ
  pub left : List ℕ

-- the rows of the whole file, and those of the whole lines among what was taken
abbrev pub file_rows : Parts → List FixType → Trace
file_rows parts types = rows_of (parts.taken ++ parts.left) types

abbrev pub taken_rows : Parts → List FixType → Trace
taken_rows parts types = whole_rows_of parts.taken types

-- What a run over a file is stopped by. Where it can't be read on, each whole line among what was
-- taken is a row that has ticked and whose line was printed. Memory is taken before the first byte.
abbrev pub StoppedReading : RunFault → Parts → List FixType → Standing → Standing → Type 0
StoppedReading fault.Read parts types s s' = RanWhole (taken_rows parts types) s s'
StoppedReading fault.Out parts types s s' = StoppedByOut (file_rows parts types) s s'
StoppedReading (fault.Trace bad) parts types s s' = StoppedAtLine bad (file_rows parts types) s s'
StoppedReading (fault.Stuck at) parts types s s' = StoppedStuck at (file_rows parts types) s s'
StoppedReading fault.Memory parts types s s' = (s' ≡ s) × (parts.taken ≡ [])

-- it was a run over a file that is reported to be such where the host reports it: what was taken of it in
-- the call, and what is left
pub record RunsOver (result : Result (Unit {0}) RunFault) (from to : Source)
    (types : List FixType) (s s' : Standing) : Type 0 where
  pub parts : Parts
  pub took : HasRead parts.taken from to
  pub left : IfSome to.rest (λ told. told ≡ parts.left)
  pub ends : MatchResult result (λ _. RanWhole (file_rows parts types) s s')
      (λ fault. StoppedReading fault parts types s s')
