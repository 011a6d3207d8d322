-- What a script comes to where the driver is one of right code: the calls up to the script's end
-- are answered by the system.
use Rattle.std.specs.Prelude.{◌≡◌, ℕ, List, [], ◌++◌, Option, IfSome, Result, Ok, Err, ℤ}
use Rattle.std.specs.Io.KnownBytes.{append_known}
use Rattle.base_host.specs.Files.{PutsFront}
use Rattle.base_host.specs.Reading.{Source, HasRead}
use Rattle.diagram_meaning.specs.Laws.{Run}
use Rattle.right_claim.specs.Scripts.{Call, IsLawfulScript}
use Rattle.tool_runner.specs.declared.outcome.Totals.{Totals}
use Rattle.tool_runner.specs.Runs.{Parts, no_totals}
use Rattle.tool_driver.specs.Driven.{Driven, functions_of, shape_of, StandsFor, RunsOver, HasRun}
use Rattle.tool_script_runner.specs.declared.outcome.ScriptFault.{ScriptFault}
use Rattle.tool_script_runner.specs.declared.outcome.ScriptFault.TheVariants as fault
use Rattle.tool_script_runner.specs.Answers.{Answered, calls_in}
use Rattle.tool_script_runner.specs.Right.{AreGivenBy, AreTaken}
use Rattle.tool_script_runner.specs.Runs.{RunsOver as RunsOverFile}
use Rattle.tool_script_runner.specs.ScriptEnds.{Whole, AtLine, AtCall, script_end, lawful_calls, whole_script_of, end_of}
use Rattle.tool_script_runner.specs.Standings.{Standing, totals_of}
use Rattle.tool_script_runner.specs.Texts.{answers_text}

-- The calls are a lawful script of the system. Each reported what the system gives over every trace
-- that fits the script, of which there is one, and took what it takes in the program.
pub record AreAnswered (w : Driven) (answers : List Answered) : Type 0 where
  pub lawful : IsLawfulScript w.diagram w.system (functions_of w) (calls_in answers)
  pub given : (xs : List (List ℤ)) (run : Run) → RunsOver w (calls_in answers) xs run →
      AreGivenBy w run 0 answers
  pub some : HasRun w (calls_in answers)
  pub taken : AreTaken w [] answers

-- all calls up to the script's end were answered, and took this together; their lines were printed
pub record AnswersAll (w : Driven) (script : List ℕ) (taken : Totals)
    (put put' : Option (List ℕ)) : Type 0 where
  pub answers : List Answered
  pub calls : calls_in answers ≡ lawful_calls (shape_of w) script
  pub right : AreAnswered w answers
  pub totals : taken ≡ totals_of answers
  pub lines : put' ≡ append_known put (answers_text answers)

-- some first calls were answered, and a front of their lines printed
pub record AnswersSome (w : Driven) (script : List ℕ) (put put' : Option (List ℕ)) : Type 0 where
  pub answers : List Answered
  pub behind : List Call
  pub parts : lawful_calls (shape_of w) script ≡ calls_in answers ++ behind
  pub right : AreAnswered w answers
  pub front : PutsFront put put' (answers_text answers)

-- each whole line among the bytes that were taken is a call that was answered, and whose line was
-- printed
pub record AnswersTaken (w : Driven) (taken : List ℕ) (put put' : Option (List ℕ)) : Type 0 where
  pub end : end_of (shape_of w) (whole_script_of (shape_of w) taken) ≡ Whole
  pub answers : List Answered
  pub calls : calls_in answers ≡ (whole_script_of (shape_of w) taken).calls
  pub right : AreAnswered w answers
  pub lines : put' ≡ append_known put (answers_text answers)

-- how the run of a script ends, where so much of its bytes was taken in the call
abbrev pub DrivesTo : Result (Unit {0}) ScriptFault → Driven → Parts → Totals →
    (put put' : Option (List ℕ)) → Type 0
DrivesTo (Ok done) w parts taken put put' =
    (script_end (shape_of w) (parts.taken ++ parts.left) ≡ Whole)
    × AnswersAll w (parts.taken ++ parts.left) taken put put'
DrivesTo (Err (fault.Line bad)) w parts taken put put' =
    (script_end (shape_of w) (parts.taken ++ parts.left) ≡ AtLine bad)
    × AnswersAll w (parts.taken ++ parts.left) taken put put'
DrivesTo (Err (fault.Call refused)) w parts taken put put' =
    (script_end (shape_of w) (parts.taken ++ parts.left) ≡ AtCall refused)
    × AnswersAll w (parts.taken ++ parts.left) taken put put'
DrivesTo (Err fault.Out) w parts taken put put' = AnswersSome w (parts.taken ++ parts.left) put put'
DrivesTo (Err fault.Read) w parts taken put put' = AnswersTaken w parts.taken put put'
DrivesTo (Err fault.Memory) w parts taken put put' = put' ≡ put

-- the run of a script over a file that is reported to be such where the host reports it
pub record DrivesOver (w : Driven) (result : Result (Unit {0}) ScriptFault)
    (from to : Source) (taken : Totals) (put put' : Option (List ℕ)) : Type 0 where
  pub parts : Parts
  pub took : HasRead parts.taken from to
  pub left : IfSome to.rest (λ told. told ≡ parts.left)
  pub drives : DrivesTo result w parts taken put put'

-- a driver that stands for the empty script runs each script so
abbrev pub ScriptsAreDriven : Type 0
ScriptsAreDriven =
    (w : Driven) (result : Result (Unit {0}) ScriptFault)
    (from to : Source) (s s' : Standing) →
    StandsFor w s.driver [] → s.totals ≡ no_totals → RunsOverFile result from to s s' →
    DrivesOver w result from to s'.totals s.put s'.put
