-- What the steps of a script's run come to, while lines may wait to be printed.
use Rattle.std.specs.Prelude.{◌≡◌, ℕ, ◌+◌, ◌*◌, ◌^◌, ◌<◌, ◌≤◌, ℤ, pos, List, [], ◌∷◌, ◌++◌, length, take, drop, Option, None, Some}
use Rattle.base_host.specs.Files.{PutsFront}
use Rattle.c_syntax.specs.declared.fault.Cost.{Cost}
use Rattle.right_claim.specs.Scripts.{Call, out_with, update_with}
use Rattle.tool_runner.specs.declared.outcome.Totals.{Totals}
use Rattle.tool_traces.specs.Pieces.{BeginsLine}
use Rattle.tool_driver.specs.Counts.{input_counts}
use Rattle.tool_driver.specs.Shapes.{Shape, inputs_of}
use Rattle.tool_driver.specs.States.{DriverState}
use Rattle.tool_scripts.specs.declared.walk.BadCall.{BadCall}
use Rattle.tool_scripts.specs.Scripts.{Script}
use Rattle.tool_scripts.specs.Calls.{HasItsValues}
use Rattle.tool_scripts.specs.Pieces.{WritesCalls}
use Rattle.tool_script_runner.specs.declared.outcome.RefusedCall.{RefusedCall}
use Rattle.tool_script_runner.specs.declared.outcome.ScriptFault.{ScriptFault}
use Rattle.tool_script_runner.specs.declared.outcome.ScriptFault.TheVariants as fault
use Rattle.tool_script_runner.specs.declared.run.Run.{Run}
use Rattle.tool_script_runner.specs.Answers.{Answered, calls_in, IsAnswer, IsRefused, RefusesFirst}
use Rattle.tool_script_runner.specs.Texts.{call_text, answers_text}
use Rattle.tool_script_runner.specs.Standings.{Standing, AreCounted, HasAnswered, Takes}
use Rattle.tool_script_runner.specs.Runs.{Front, RefusesOrNot}

-- where a run is, with the lines that wait in it
abbrev pub inside : DriverState → Run → Option (List ℕ) → Standing
inside driver run put = record {
  driver = driver;
  totals = run.totals;
  put = put;
  waiting = run.lines;
}

-- no call took more than 2 ^ 32 steps, nor more than one call besides a call for each step
pub record StaysWithin (count : ℕ) (t : Totals) : Type 0 where
  pub ticks : t.ticks ≤ count
  pub steps : t.steps ≤ count * 2 ^ 32
  pub calls : t.calls ≤ count * (2 ^ 32 + 1)

-- for each function of a shape how many inputs it takes
pub record AreCounts (counts : List ℕ) (shape : Shape) : Type 0 where
  pub are : counts ≡ input_counts shape
  pub few : length counts < 2 ^ 32

-- there is room for the values of a call and for what it reports, and the totals are no more than
-- those of a script
pub record HasRoom (run : Run) (shape : Shape) : Type 0 where
  pub values : length run.values.items ≡ length (inputs_of shape)
  pub numbers : length run.numbers.items ≡ length shape.outputs + 1
  pub few : run.done ≤ 4294967295
  pub totals : StaysWithin run.done run.totals

-- the values of a call were changed, and nothing else
pub record IsFilled (run run' : Run) : Type 0 where
  pub values : length run'.values.items ≡ length run.values.items
  pub numbers : run'.numbers.items ≡ run.numbers.items
  pub lines : run'.lines ≡ run.lines
  pub done : run'.done ≡ run.done
  pub totals : run'.totals ≡ run.totals

-- ---- One call

-- a call of a function of a shape, or of its update, with as many values as it takes
abbrev pub IsCallFor : Shape → Call → Type 0
IsCallFor shape call = HasItsValues (input_counts shape) (length (inputs_of shape)) call

-- a call of function j was answered, and these numbers are its own and those that it reported
pub record IsTold (j : ℕ) (values numbers : List ℤ) (cost : Cost)
    (d d' : DriverState) : Type 0 where
  pub outputs : List ℤ
  pub told : numbers ≡ pos j ∷ outputs
  pub answer : IsAnswer (record { call = out_with j values; outputs = outputs; cost = cost }) d d'

-- a call of function j was answered and counted, and these numbers are its own and those that it
-- reported
pub record HasTold (j : ℕ) (values numbers : List ℤ) (d d' : DriverState)
    (t t' : Totals) : Type 0 where
  pub answer : Answered
  pub of_call : answer.call ≡ out_with j values
  pub told : numbers ≡ pos j ∷ answer.outputs
  pub counted : AreCounted (answer ∷ []) d d' t t'

-- an update was answered
abbrev pub IsUpdated : List ℤ → Cost → DriverState → DriverState → Type 0
IsUpdated values cost d d' =
    IsAnswer (record { call = update_with values; outputs = []; cost = cost }) d d'

-- an update was answered and counted
pub record HasUpdated (values : List ℤ) (d d' : DriverState) (t t' : Totals) : Type 0 where
  pub cost : Cost
  pub counted : AreCounted
      (record { call = update_with values; outputs = []; cost = cost } ∷ []) d d' t t'

-- the driver refused a call after so many lines
pub record IsRefusedOn (count : ℕ) (refused : RefusedCall) (call : Call)
    (d d' : DriverState) : Type 0 where
  pub line : refused.line ≡ count + 1
  pub refuses : IsRefused refused.why call d d'

-- a call was answered and counted, and its line is printed or waits
pub record GoesOn (call : Call) (s s' : Standing) : Type 0 where
  pub answer : Answered
  pub of_call : answer.call ≡ call
  pub answered : HasAnswered (answer ∷ []) s s'
  pub line : Takes (call_text call answer.outputs) s s'

-- the driver refused a call, and nothing was counted or printed
pub record RefusedOn (count : ℕ) (refused : RefusedCall) (call : Call)
    (s s' : Standing) : Type 0 where
  pub refuses : IsRefusedOn count refused call s.driver s'.driver
  pub totals : s'.totals ≡ s.totals
  pub put : s'.put ≡ s.put
  pub waiting : s'.waiting ≡ s.waiting

-- a call was answered and counted, and a front printed of what waited and its line
pub record CutOn (call : Call) (s s' : Standing) : Type 0 where
  pub answer : Answered
  pub of_call : answer.call ≡ call
  pub answered : HasAnswered (answer ∷ []) s s'
  pub put : PutsFront s.put s'.put (s.waiting ++ call_text call answer.outputs)

-- why a call after so many lines ends a run
abbrev pub StopsOn : ScriptFault → ℕ → Call → Standing → Standing → Type 0
StopsOn fault.Read count call s s' = ⊥
StopsOn fault.Out count call s s' = CutOn call s s'
StopsOn (fault.Line bad) count call s s' = ⊥
StopsOn (fault.Call refused) count call s s' = RefusedOn count refused call s s'
StopsOn fault.Memory count call s s' = ⊥

-- ---- Calls one after another

-- these calls were answered and counted, and their lines are printed or wait
pub record Runs (answers : List Answered) (s s' : Standing) : Type 0 where
  pub answered : HasAnswered answers s s'
  pub lines : Takes (answers_text answers) s s'

-- the text is whole lines after so many others, whose calls were answered
pub record RunsThrough (text counts : List ℕ) (all count count' : ℕ)
    (s s' : Standing) : Type 0 where
  pub answers : List Answered
  pub writes : WritesCalls text counts all count (calls_in answers)
  pub size : count' ≡ count + length answers
  pub runs : Runs answers s s'

-- so many bytes of a text are its whole lines, whose calls were answered
pub record RunsLines (done : ℕ) (text counts : List ℕ) (all count count' : ℕ)
    (s s' : Standing) : Type 0 where
  pub within : done ≤ length text
  pub through : RunsThrough (take done text) counts all count count' s s'
  pub none : count' ≡ count → done ≡ 0
  pub rest : BeginsLine (drop done text)

-- each line of the script is a call that was answered
pub record RunsToEnd (script : Script) (s s' : Standing) : Type 0 where
  pub calls_only : script.bad ≡ None
  pub answers : List Answered
  pub calls : script.calls ≡ calls_in answers
  pub runs : Runs answers s s'

-- the calls before the first bad line were answered
pub record RunsToLine (bad : BadCall) (script : Script) (s s' : Standing) : Type 0 where
  pub first_bad : script.bad ≡ Some bad
  pub answers : List Answered
  pub calls : script.calls ≡ calls_in answers
  pub runs : Runs answers s s'

-- the calls were answered up to one that the driver refused
pub record RunsToCall (count : ℕ) (refused : RefusedCall) (script : Script)
    (s s' : Standing) : Type 0 where
  pub front : Front script
  pub line : refused.line ≡ count + length front.answers + 1
  pub before : DriverState
  pub runs : Runs front.answers s (record s' { driver = before })
  pub refuses : RefusesFirst refused.why front.behind before s'.driver

-- some first calls were answered, the one after them may have been refused, and a front was printed of
-- what waited and of their lines
pub record RunsToOut (script : Script) (s s' : Standing) : Type 0 where
  pub front : Front script
  pub before : DriverState
  pub answered : HasAnswered front.answers s (record s' { driver = before })
  pub last : RefusesOrNot front.behind before s'.driver
  pub put : PutsFront s.put s'.put (s.waiting ++ answers_text front.answers)

-- what a step over a script after so many lines is stopped by
abbrev pub RunsTo : ScriptFault → ℕ → Script → Standing → Standing → Type 0
RunsTo fault.Read count script s s' = ⊥
RunsTo fault.Out count script s s' = RunsToOut script s s'
RunsTo (fault.Line bad) count script s s' = RunsToLine bad script s s'
RunsTo (fault.Call refused) count script s s' = RunsToCall count refused script s s'
RunsTo fault.Memory count script s s' = ⊥
