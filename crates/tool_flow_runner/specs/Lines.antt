-- What a line of a trace does to flows.
use Rattle.std.specs.Prelude.{◌≡◌, ℕ, ◌+◌, ℤ, List, length}
use Rattle.lustre_flows.specs.declared.stuck.LusStuck.{LusStuck}
use Rattle.lustre_interpreter.specs.States.{FlowState, root_of, IsTicked, IsStuckTick}
use Rattle.tool_plain_rows.specs.Lines.{IsRow, IsNoRow}
use Rattle.tool_flow_runner.specs.declared.outcome.FlowStop.{FlowStop}
use Rattle.tool_flow_runner.specs.declared.outcome.FlowStop.TheVariants as stop
use Rattle.tool_flow_runner.specs.declared.walk.Walk.{Walk}

-- there is room for the numbers of a row and of its outputs
pub record HasRoom (walk : Walk) (s : FlowState) : Type 0 where
  pub row : length walk.row.items ≡ (root_of s).inputs
  pub outputs : length walk.outputs.items ≡ (root_of s).outputs

-- the line is a row, and a tick of it was done and counted
pub record Ticks (line : List ℕ) (walk walk' : Walk) (s s' : FlowState) : Type 0 where
  pub row : List ℤ
  pub is_row : IsRow row line walk.ticks (root_of s).inputs
  pub tick : IsTicked s s' row walk'.outputs.items
  pub file : s'.file ≡ s.file
  pub count : walk'.ticks ≡ walk.ticks + 1

-- the line is a row whose tick is stuck
pub record Sticks (at : LusStuck) (line : List ℕ) (walk : Walk) (s s' : FlowState) : Type 0 where
  pub row : List ℤ
  pub is_row : IsRow row line walk.ticks (root_of s).inputs
  pub stuck : IsStuckTick s s' row at

-- why a line ends a walk
abbrev pub Stops : FlowStop → (line : List ℕ) → Walk → FlowState → FlowState → Type 0
Stops (stop.Bad bad) line walk s s' = IsNoRow bad line walk.ticks (root_of s).inputs
Stops (stop.Stuck at) line walk s s' = Sticks at line walk s s'
