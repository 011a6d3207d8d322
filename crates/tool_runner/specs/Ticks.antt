-- Where a run is, and what one tick adds to it.
use Rattle.std.specs.Prelude.{◌≡◌, ℕ, ◌+◌, ◌*◌, ◌^◌, ◌≤◌, ℤ, List, Option}
use Rattle.c_syntax.specs.declared.fault.Cost.{Cost}
use Rattle.c_syntax.specs.declared.fault.Stuck.{Stuck}
use Rattle.c_interpreter.specs.States.{MachineState}
use Rattle.c_interpreter.specs.Machines.{IsTick, IsStuckTick}
use Rattle.base_fixed_point.specs.declared.types.FixType.{FixType}
use Rattle.base_fixed_point.specs.Conversion.{InType}
use Rattle.tool_runner.specs.declared.outcome.Totals.{Totals}

-- a machine, what its ticks took so far, and what was printed, where the sink reports it
pub record Standing : Type 0 where
  pub machine : MachineState
  pub totals : Totals
  pub put : Option (List ℕ)

abbrev pub standing : MachineState → Totals → Option (List ℕ) → Standing
standing machine totals put = record { machine = machine; totals = totals; put = put }

-- each number of the first type is one of the second
abbrev pub IsNarrower : FixType → FixType → Type 0
IsNarrower t wide = (v : ℤ) → InType t v → InType wide v

-- the totals with one more tick, which took this
abbrev pub counted : Totals → Cost → Totals
counted t cost =
    record { ticks = t.ticks + 1; steps = t.steps + cost.steps; calls = t.calls + cost.calls }

-- no more ticks than a trace has lines, and none took more than 2 ^ 32 steps, nor more than one
-- call besides a call for each step
pub record StaysWithin (t : Totals) : Type 0 where
  pub ticks : t.ticks ≤ 4294967295
  pub steps : t.steps ≤ t.ticks * 2 ^ 32
  pub calls : t.calls ≤ t.ticks * (2 ^ 32 + 1)

-- a tick with these outputs was executed and counted
pub record Ticked (row outputs : List ℤ) (m m' : MachineState) (t t' : Totals) : Type 0 where
  pub cost : Cost
  pub tick : IsTick m m' row outputs cost
  pub program : m'.program ≡ m.program
  pub totals : t' ≡ counted t cost

-- a tick of this row is stuck, and was not counted
pub record StuckOn (at : Stuck) (row : List ℤ) (m m' : MachineState) (t t' : Totals) : Type 0 where
  pub stuck : IsStuckTick m m' row at
  pub program : m'.program ≡ m.program
  pub totals : t' ≡ t
