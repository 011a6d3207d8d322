-- What a script's run comes to where the driver is one of right code.
use Rattle.std.specs.Prelude.{◌≡◌, ◌≢◌, ⊤, ℕ, List, [], ◌∷◌, ◌++◌, Result, Err, ℤ}
use Rattle.c_syntax.specs.declared.fault.Stuck.{Stuck}
use Rattle.diagram_meaning.specs.Laws.{Run}
use Rattle.right_claim.specs.Scripts.{Call, out_with, update_with, number_after}
use Rattle.tool_driver.specs.declared.fault.DriveFault.TheVariants as drive
use Rattle.tool_driver.specs.States.{DriverState}
use Rattle.tool_driver.specs.Driven.{Driven, functions_of, StandsFor, RunsOver, HasRun, TakesBehind, outputs_in}
use Rattle.tool_script_runner.specs.declared.outcome.ScriptFault.{ScriptFault}
use Rattle.tool_script_runner.specs.declared.outcome.ScriptFault.TheVariants as fault
use Rattle.tool_script_runner.specs.Answers.{Answered, calls_in, Answers}

-- what a call in tick t reported is what a run gives; an update reports nothing
abbrev pub IsGivenBy : Driven → Run → ℕ → Call → List ℤ → Type 0
IsGivenBy w run t (out_with j values) outputs = outputs ≡ outputs_in w run t j
IsGivenBy w run t (update_with values) outputs = outputs ≡ []

-- what each of these calls from tick t on reported is what a run gives
abbrev pub AreGivenBy : Driven → Run → ℕ → List Answered → Type 0
AreGivenBy w run t [] = ⊤
AreGivenBy w run t (a ∷ answers) =
    IsGivenBy w run t a.call a.outputs
    × AreGivenBy w run (number_after w.diagram w.system (functions_of w) t a.call) answers

-- each of these calls after a script took what it takes in the program
abbrev pub AreTaken : Driven → List Call → List Answered → Type 0
AreTaken w script [] = ⊤
AreTaken w script (a ∷ answers) =
    TakesBehind w script a.call a.cost × AreTaken w (script ++ a.call ∷ []) answers

-- The driver stands for the script of these calls, each reported what the system gives over every trace
-- that fits that script, and there is such a trace; and each took what it takes in the program.
pub record AreRight (w : Driven) (answers : List Answered) (d : DriverState) : Type 0 where
  pub stands : StandsFor w d (calls_in answers)
  pub given : (xs : List (List ℤ)) (run : Run) → RunsOver w (calls_in answers) xs run →
      AreGivenBy w run 0 answers
  pub some : HasRun w (calls_in answers)
  pub taken : AreTaken w [] answers

-- whatever calls a driver answers from the start on, they are right
abbrev pub AnswersAreRight : Type 0
AnswersAreRight =
    (w : Driven) (answers : List Answered) (d d' : DriverState) → StandsFor w d [] →
    Answers answers d d' → AreRight w answers d'

-- The run of a script by a driver of right code: no call is stuck, and those that were answered are
-- right.
pub record IsRightRun (w : Driven) (result : Result (Unit {0}) ScriptFault)
    (d d' : DriverState) : Type 0 where
  pub never_stuck : (line : ℕ) (at : Stuck) →
      result ≢ Err (fault.Call (record { line = line; why = drive.Stuck at }))
  pub right : (answers : List Answered) → Answers answers d d' → AreRight w answers d'
