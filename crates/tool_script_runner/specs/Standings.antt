-- Where the run of a script is, and what the calls that were answered add to it.
use Rattle.std.specs.Prelude.{◌≡◌, ℕ, List, [], ◌++◌, length, Option}
use Rattle.std.specs.List.{sum_by}
use Rattle.std.specs.Io.KnownBytes.{append_known}
use Rattle.base_host.specs.Buffers.{PutsAllBut}
use Rattle.tool_runner.specs.declared.outcome.Totals.{Totals}
use Rattle.tool_runner.specs.Runs.{added}
use Rattle.tool_driver.specs.Counts.{input_counts}
use Rattle.tool_driver.specs.Shapes.{inputs_of}
use Rattle.tool_driver.specs.States.{DriverState}
use Rattle.tool_driver.specs.Driven.{updates}
use Rattle.tool_scripts.specs.Scripts.{Script, calls_of, whole_calls_of}
use Rattle.tool_script_runner.specs.Answers.{Answered, calls_in, Answers}
use Rattle.tool_script_runner.specs.Texts.{answers_text}

-- a driver, what its calls took so far, what was printed, where the sink reports it, and the lines that
-- wait to be printed
pub record Standing : Type 0 where
  pub driver : DriverState
  pub totals : Totals
  pub put : Option (List ℕ)
  pub waiting : List ℕ

-- where a run is with nothing that waits
abbrev pub standing : DriverState → Totals → Option (List ℕ) → Standing
standing driver totals put = record { driver = driver; totals = totals; put = put; waiting = [] }

-- what these calls took together: the updates among them are the ticks
abbrev pub totals_of : List Answered → Totals
totals_of answers = record {
  ticks = updates (calls_in answers);
  steps = sum_by (λ a. a.cost.steps) answers;
  calls = sum_by (λ a. a.cost.calls) answers;
}

-- a driver answered these calls, and they were counted
pub record AreCounted (answers : List Answered) (d d' : DriverState) (t t' : Totals) : Type 0 where
  pub answered : Answers answers d d'
  pub totals : t' ≡ added t (totals_of answers)

abbrev pub HasAnswered : List Answered → Standing → Standing → Type 0
HasAnswered answers s s' = AreCounted answers s.driver s'.driver s.totals s'.totals

-- and their lines were printed
pub record HasRun (answers : List Answered) (s s' : Standing) : Type 0 where
  pub answered : HasAnswered answers s s'
  pub put : s'.put ≡ append_known s.put (answers_text answers)

-- this text is printed or waits after what waited
abbrev pub Takes : List ℕ → Standing → Standing → Type 0
Takes text s s' = PutsAllBut s'.waiting (s.waiting ++ text) s.put s'.put

-- ---- The scripts of a driver

-- the calls of a script's bytes for a driver, and those of the whole lines among them
abbrev pub script_for : DriverState → List ℕ → Script
script_for d bytes = calls_of (input_counts d.shape) (length (inputs_of d.shape)) bytes

abbrev pub whole_script_for : DriverState → List ℕ → Script
whole_script_for d bytes = whole_calls_of (input_counts d.shape) (length (inputs_of d.shape)) bytes
