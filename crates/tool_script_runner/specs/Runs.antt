-- What the run of a script comes to.
use Rattle.std.specs.Prelude.{◌≡◌, ◌⊎◌, ℕ, ◌+◌, List, [], ◌++◌, length, Option, None, Some, IfSome, Result, MatchResult}
use Rattle.base_host.specs.Files.{PutsFront}
use Rattle.base_host.specs.Reading.{Source, HasRead}
use Rattle.right_claim.specs.Scripts.{Call}
use Rattle.tool_runner.specs.Runs.{Parts}
use Rattle.tool_driver.specs.declared.fault.DriveFault.{DriveFault}
use Rattle.tool_driver.specs.States.{DriverState}
use Rattle.tool_scripts.specs.declared.walk.BadCall.{BadCall}
use Rattle.tool_scripts.specs.Scripts.{Script}
use Rattle.tool_script_runner.specs.declared.outcome.RefusedCall.{RefusedCall}
use Rattle.tool_script_runner.specs.declared.outcome.ScriptFault.{ScriptFault}
use Rattle.tool_script_runner.specs.declared.outcome.ScriptFault.TheVariants as fault
use Rattle.tool_script_runner.specs.Answers.{Answered, calls_in, RefusesFirst}
use Rattle.tool_script_runner.specs.Standings.{Standing, HasAnswered, HasRun, script_for, whole_script_for}
use Rattle.tool_script_runner.specs.Texts.{answers_text}

-- each line of the script is a call that was answered
pub record RanWhole (script : Script) (s s' : Standing) : Type 0 where
  pub calls_only : script.bad ≡ None
  pub answers : List Answered
  pub calls : script.calls ≡ calls_in answers
  pub run : HasRun answers s s'

-- the calls before the first bad line were answered
pub record StoppedAtLine (bad : BadCall) (script : Script) (s s' : Standing) : Type 0 where
  pub first_bad : script.bad ≡ Some bad
  pub answers : List Answered
  pub calls : script.calls ≡ calls_in answers
  pub run : HasRun answers s s'

-- some first calls of a script, which were answered
pub record Front (script : Script) : Type 0 where
  pub answers : List Answered
  pub behind : List Call
  pub parts : script.calls ≡ calls_in answers ++ behind

-- the calls of the lines before were answered, and the driver refused that of this line
pub record StoppedByCall (refused : RefusedCall) (script : Script) (s s' : Standing) : Type 0 where
  pub front : Front script
  pub line : refused.line ≡ length front.answers + 1
  pub before : DriverState
  pub run : HasRun front.answers s (record s' { driver = before })
  pub refuses : RefusesFirst refused.why front.behind before s'.driver

-- the driver is where these calls found it, or as it refused the first of them
abbrev pub RefusesOrNot : List Call → DriverState → DriverState → Type 0
RefusesOrNot calls d d' = (d' ≡ d) ⊎ ((why : DriveFault) × RefusesFirst why calls d d')

-- some first calls were answered, the one after them may have been refused, and a front of their
-- lines was printed
pub record StoppedByOut (script : Script) (s s' : Standing) : Type 0 where
  pub front : Front script
  pub before : DriverState
  pub answered : HasAnswered front.answers s (record s' { driver = before })
  pub last : RefusesOrNot front.behind before s'.driver
  pub put : PutsFront s.put s'.put (answers_text front.answers)

-- ---- Over a file

-- the calls of the whole file, and those of the whole lines among what was taken
abbrev pub file_script : Parts → DriverState → Script
file_script parts d = script_for d (parts.taken ++ parts.left)

abbrev pub taken_script : Parts → DriverState → Script
taken_script parts d = whole_script_for d parts.taken

-- What a run is stopped by. Where the file can't be read on, each whole line among what was taken
-- is a call that was answered and whose line was printed. Memory is taken before the first byte.
abbrev pub StoppedReading : ScriptFault → Parts → Standing → Standing → Type 0
StoppedReading fault.Read parts s s' = RanWhole (taken_script parts s.driver) s s'
StoppedReading fault.Out parts s s' = StoppedByOut (file_script parts s.driver) s s'
StoppedReading (fault.Line bad) parts s s' = StoppedAtLine bad (file_script parts s.driver) s s'
StoppedReading (fault.Call refused) parts s s' =
    StoppedByCall refused (file_script parts s.driver) s s'
StoppedReading fault.Memory parts s s' = (s' ≡ s) × (parts.taken ≡ [])

-- it was a run over a file that is reported to be such where the host reports it: what was taken of it in
-- the call, and what is left
pub record RunsOver (result : Result (Unit {0}) ScriptFault) (from to : Source)
    (s s' : Standing) : Type 0 where
  pub parts : Parts
  pub took : HasRead parts.taken from to
  pub left : IfSome to.rest (λ told. told ≡ parts.left)
  pub ends : MatchResult result (λ _. RanWhole (file_script parts s.driver) s s')
      (λ fault. StoppedReading fault parts s s')
