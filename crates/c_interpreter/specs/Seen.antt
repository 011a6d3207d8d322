-- How the code's runs end.
use Rattle.std.specs.Prelude.{ℕ, ◌+◌, ◌≤◌, ◌^◌, ℤ, List, length, Result, Ok, Err}
use Rattle.c_syntax.specs.declared.fault.Cost.{Cost}
use Rattle.c_syntax.specs.declared.fault.Stuck.{Stuck}
use Rattle.c_semantics.specs.Cells.{Cells}
use Rattle.c_semantics.specs.Machine.{Outcome, done, stuck}
use Rattle.c_interpreter.specs.States.{filled}

-- a run ended with these fields and counts so far, or was stuck with these fields
pub data Seen : Type 0 where
  ran : (cells : Cells) (steps calls : ℕ) → Seen
  halted : (at : Stuck) (cells : Cells) → Seen

-- an outcome, after so many calls
abbrev pub seen : ℕ → Outcome → Seen
seen calls (done a) = ran a.cells a.steps (calls + length a.log)
seen calls (stuck at cells) = halted at cells

-- what the code's run left of an instance with these zeros
abbrev pub ended : {A : Type 0} → Cells → Result A Stuck → List ℤ → Cost → Seen
ended zeros (Ok value) numbers cost = ran (filled zeros numbers) cost.steps cost.calls
ended zeros (Err at) numbers cost = halted at (filled zeros numbers)

-- no more calls than steps and the call from outside, and not too many steps
pub record IsCounted (c : Cost) : Type 0 where
  pub count : c.calls ≤ c.steps + 1
  pub limit : c.steps ≤ 2 ^ 32

-- the same within a step
pub record IsStepped (c : Cost) : Type 0 where
  pub count : c.calls ≤ c.steps
  pub limit : c.steps ≤ 2 ^ 32
