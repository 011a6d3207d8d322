-- What the code's evaluations give.
use Rattle.std.specs.Prelude.{ℕ, ◌≤◌, ◌^◌, max, Bool, true, false, Result, Ok, Err}
use Rattle.c_syntax.specs.declared.fault.Stuck.{Stuck}
use Rattle.c_semantics.specs.Values.{Answer, gives, sticks}
use Rattle.c_interpreter.specs.declared.halts.Verdict.{Verdict}
use Rattle.c_interpreter.specs.declared.halts.Verdict.TheVariants.{Holds, Fails, Halts}

-- a result, with the count of the steps so far
abbrev pub answered : {A : Type 0} → Result A Stuck → ℕ → Answer A
answered (Ok value) steps = gives value steps
answered (Err at) steps = sticks at

-- what a condition came to, with the count of the steps so far
abbrev pub judged : Verdict → ℕ → Answer Bool
judged Holds steps = gives true steps
judged Fails steps = gives false steps
judged (Halts at) steps = sticks at

-- a result that was written into a slice
abbrev pub put_answer : {A B : Type 0} → Result A Stuck → B → ℕ → Answer B
put_answer (Ok done) value steps = gives value steps
put_answer (Err at) value steps = sticks at

-- a count of steps that went on, and not past the limit
pub record IsLater (before after : ℕ) : Type 0 where
  pub least : before ≤ after
  pub most : after ≤ max before (2 ^ 32)
