-- What a line of a trace does to a run.
use Rattle.std.specs.Prelude.{◌≡◌, ℕ, ℤ, List, length}
use Rattle.std.specs.List.{AllZip}
use Rattle.c_syntax.specs.declared.fault.Stuck.{Stuck}
use Rattle.c_interpreter.specs.States.{MachineState}
use Rattle.tool_traces.specs.declared.rows.BadLine.{BadLine}
use Rattle.tool_runner.specs.declared.outcome.RunStop.{RunStop}
use Rattle.tool_runner.specs.declared.outcome.RunStop.TheVariants as stop
use Rattle.tool_runner.specs.declared.run.Run.{Run}
use Rattle.tool_runner.specs.Rows.{IsRow, IsNoRow}
use Rattle.tool_runner.specs.Ticks.{IsNarrower, StaysWithin, Ticked, StuckOn}

-- there is room for the numbers of a row and of its outputs, each number of a row is within the type
-- of its input, and the totals are no more than those of a trace
pub record HasRoom (run : Run) (m : MachineState) : Type 0 where
  pub row : length run.row.items ≡ length run.types.now
  pub outputs : length run.outputs.items ≡ m.program.outputs
  pub types : AllZip IsNarrower run.types.now m.program.inputs
  pub totals : StaysWithin run.totals

-- the line is a row, and a tick of it was executed and counted
pub record Ticks (line : List ℕ) (run run' : Run) (m m' : MachineState) : Type 0 where
  pub row : List ℤ
  pub is_row : IsRow row line run.types.now run.totals.ticks
  pub ticked : Ticked row run'.outputs.items m m' run.totals run'.totals
  pub types : run'.types.now ≡ run.types.now

-- the line is a row whose tick is stuck
pub record Sticks (at : Stuck) (line : List ℕ) (run run' : Run) (m m' : MachineState) : Type 0 where
  pub row : List ℤ
  pub is_row : IsRow row line run.types.now run.totals.ticks
  pub stuck : StuckOn at row m m' run.totals run'.totals

-- the line is no row, and nothing was executed
pub record IsBad (bad : BadLine) (line : List ℕ) (run run' : Run) (m m' : MachineState) : Type 0
  where
    pub no_row : IsNoRow bad line run.types.now run.totals.ticks
    pub machine : m' ≡ m
    pub totals : run'.totals ≡ run.totals

-- why a line ends a run
abbrev pub Stops : RunStop → (line : List ℕ) → (run run' : Run) (m m' : MachineState) → Type 0
Stops (stop.Trace bad) line run run' m m' = IsBad bad line run run' m m'
Stops (stop.Stuck at) line run run' m m' = Sticks at line run run' m m'
