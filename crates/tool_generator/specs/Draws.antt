-- The numbers that are drawn, and what they give.
use Rattle.std.specs.Prelude.{ℕ, zero, suc, ◌+◌, ◌*◌, ◌%◌, ◌==◌, if◌then◌else◌, List, codes, ℤ, pos, ◌-ℤ◌}

-- a draw, which is also the next state
abbrev pub draw : ℕ → ℕ
draw state = state * 48271 % 2147483647

-- the state after so many draws, which is also the last of them
abbrev pub state_after : ℕ → ℕ → ℕ
state_after start zero = start
state_after start (suc n) = draw (state_after start n)

-- the gain of a subsystem, the signs of its sum and the initial condition of its delay, each by a
-- draw
abbrev pub gain_of : ℕ → ℕ
gain_of drawn = 1 + drawn % 7

abbrev pub signs_of : ℕ → List ℕ
signs_of drawn = if drawn % 2 == 0 then codes "++" else codes "+-"

abbrev pub initial_of : ℕ → ℕ
initial_of drawn = drawn % 100

-- the input of a tick by a draw
abbrev pub input_of : ℕ → ℤ
input_of drawn = pos (drawn % 1000) -ℤ pos 500
