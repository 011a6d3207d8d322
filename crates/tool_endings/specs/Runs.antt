-- What a program gives over the rows of a trace, and what of it is printed.
use Rattle.std.specs.Prelude.{◌≡◌, ℕ, ℤ, List, ◌++◌, Option, Some, None, slice_get, codes}
use Rattle.std.specs.Io.KnownBytes.{append_known}
use Rattle.base_fixed_point.specs.declared.types.FixType.{FixType}
use Rattle.base_host.specs.Files.{PutsFront}
use Rattle.tool_traces.specs.declared.rows.BadLine.{BadLine}
use Rattle.tool_traces.specs.Rows as trace
use Rattle.c_syntax.specs.declared.fault.Stuck.{Stuck}
use Rattle.c_syntax.specs.Tree.{ProcedureTree, ProgramTree}
use Rattle.c_semantics.specs.Rows.{TickRow, Rows, c_rows}
use Rattle.c_checked.specs.Checked.{AreInputsOf}
use Rattle.tool_runner.specs.declared.outcome.Totals.{Totals}
use Rattle.tool_runner.specs.Texts.{ticks_text}
use Rattle.tool_runner.specs.Runs.{totals_of}
use Rattle.tool_endings.specs.declared.ending.Ending.{Ending}
use Rattle.tool_endings.specs.declared.ending.Ending.TheVariants.{Ran, BadTrace, Stuck as IsStuck, PutFault}
use Rattle.tool_endings.specs.Told.{SinkTold}

-- the types are those of the numbers that `root_step` takes
pub record HasStepTypes (p : ProgramTree) (types : List FixType) : Type 0 where
  pub place : ℕ
  pub step : ProcedureTree
  pub there : slice_get p.procedures place ≡ Some step
  pub named : step.name ≡ codes "root_step"
  pub inputs : AreInputsOf step types

-- the rows of a trace with numbers of these types, up to the first line that is none, and that line
abbrev pub rows_in : List FixType → List ℕ → List (List ℤ)
rows_in types bytes = (trace.rows_of bytes types).rows

abbrev pub bad_line : List FixType → List ℕ → Option BadLine
bad_line types bytes = (trace.rows_of bytes types).bad

-- what a program gives over those rows
abbrev pub rows_over : ProgramTree → List FixType → List ℕ → Rows
rows_over p types bytes = c_rows p (rows_in types bytes)

-- the lines of the ticks were printed whole
abbrev pub PutsTicks : List TickRow → (b b' : SinkTold) → Type 0
PutsTicks ticks b b' = b'.bytes ≡ append_known b.bytes (ticks_text ticks)

-- all rows were run, and took this
pub record RunsWhole (taken : Totals) (p : ProgramTree) (types : List FixType) (bytes : List ℕ)
    (b b' : SinkTold) : Type 0 where
  pub good : bad_line types bytes ≡ None
  pub free : (rows_over p types bytes).stuck_place ≡ None
  pub totals : taken ≡ totals_of (rows_over p types bytes).ticks
  pub lines : PutsTicks (rows_over p types bytes).ticks b b'

-- all rows before the first bad line were run
pub record RunsToBadLine (line : BadLine) (p : ProgramTree) (types : List FixType) (bytes : List ℕ)
    (b b' : SinkTold) : Type 0 where
  pub bad : bad_line types bytes ≡ Some line
  pub free : (rows_over p types bytes).stuck_place ≡ None
  pub lines : PutsTicks (rows_over p types bytes).ticks b b'

-- the rows were run up to one whose tick is stuck
pub record RunsToStuck (at : Stuck) (p : ProgramTree) (types : List FixType) (bytes : List ℕ)
    (b b' : SinkTold) : Type 0 where
  pub stuck : (rows_over p types bytes).stuck_place ≡ Some at
  pub lines : PutsTicks (rows_over p types bytes).ticks b b'

-- some first rows of a trace
pub record FirstRows (types : List FixType) (bytes : List ℕ) : Type 0 where
  pub rows : List (List ℤ)
  pub behind : List (List ℤ)
  pub parts : rows_in types bytes ≡ rows ++ behind

-- some first rows were run, and a front of their lines printed
pub record RunsToPutFault (p : ProgramTree) (types : List FixType) (bytes : List ℕ)
    (b b' : SinkTold) : Type 0 where
  pub first : FirstRows types bytes
  pub front : PutsFront b.bytes b'.bytes (ticks_text (c_rows p first.rows).ticks)

-- each whole line among the bytes that were taken is a row that was run
pub record RunsTaken (p : ProgramTree) (types : List FixType) (taken : List ℕ)
    (b b' : SinkTold) : Type 0 where
  pub good : (trace.whole_rows_of taken types).bad ≡ None
  pub free : (c_rows p (trace.whole_rows_of taken types).rows).stuck_place ≡ None
  pub lines : PutsTicks (c_rows p (trace.whole_rows_of taken types).rows).ticks b b'

-- how a run over a trace may end, and what lines were printed by then
abbrev pub RunsTo : Ending → ProgramTree → List FixType → List ℕ → (b b' : SinkTold) → Type 0
RunsTo (Ran totals) p types bytes b b' = RunsWhole totals p types bytes b b'
RunsTo (BadTrace line) p types bytes b b' = RunsToBadLine line p types bytes b b'
RunsTo (IsStuck at) p types bytes b b' = RunsToStuck at p types bytes b b'
RunsTo PutFault p types bytes b b' = RunsToPutFault p types bytes b b'
RunsTo _ p types bytes b b' = ⊥
