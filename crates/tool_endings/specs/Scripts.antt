-- How a script is run on a system of a model's code, and what of it is printed.
use Rattle.std.specs.Prelude.{◌≡◌, ℕ, List}
use Rattle.tool_runner.specs.declared.outcome.Totals.{Totals}
use Rattle.tool_driver.specs.Driven.{Driven, shape_of}
use Rattle.tool_script_runner.specs.ScriptEnds.{ScriptEnd, Whole, AtLine, AtCall, script_end}
use Rattle.tool_script_runner.specs.Drives.{AnswersAll, AnswersSome}
use Rattle.tool_endings.specs.declared.ending.Ending.{Ending}
use Rattle.tool_endings.specs.declared.ending.Ending.TheVariants.{Ran, BadScript, PutFault}
use Rattle.tool_endings.specs.declared.ending.ScriptStop.{ScriptStop}
use Rattle.tool_endings.specs.declared.ending.ScriptStop.TheVariants.{NoSubsystem, Line, Call}
use Rattle.tool_endings.specs.Told.{SinkTold}

-- all calls of the script were answered, and took this; their lines were printed
pub record DrivesWhole (taken : Totals) (w : Driven) (script : List ℕ)
    (b b' : SinkTold) : Type 0 where
  pub end : script_end (shape_of w) script ≡ Whole
  pub answers : AnswersAll w script taken b.bytes b'.bytes

-- the calls before this end of the script were answered, and their lines printed
pub record DrivesUpTo (end : ScriptEnd) (w : Driven) (script : List ℕ)
    (b b' : SinkTold) : Type 0 where
  pub stops : script_end (shape_of w) script ≡ end
  pub taken : Totals
  pub answers : AnswersAll w script taken b.bytes b'.bytes

abbrev pub StopsAt : ScriptStop → Driven → List ℕ → (b b' : SinkTold) → Type 0
StopsAt NoSubsystem w script b b' = ⊥
StopsAt (Line bad) w script b b' = DrivesUpTo (AtLine bad) w script b b'
StopsAt (Call refused) w script b b' = DrivesUpTo (AtCall refused) w script b b'

-- how the run of a script may end, and what lines were printed by then
abbrev pub DrivesTo : Ending → Driven → List ℕ → (b b' : SinkTold) → Type 0
DrivesTo (Ran totals) w script b b' = DrivesWhole totals w script b b'
DrivesTo (BadScript stop) w script b b' = StopsAt stop w script b b'
DrivesTo PutFault w script b b' = AnswersSome w script b.bytes b'.bytes
DrivesTo _ w script b b' = ⊥
