-- Where a script ends, by what the system takes alone: at its first line that is no call, or whose
-- call is refused.
use Rattle.std.specs.Prelude.{ℕ, ◌+◌, ◌-◌, Bool, true, false, List, [], ◌∷◌, length, zip, take, replicate, slice_set, Option, Some, None, ℤ}
use Rattle.std.specs.Option.{option_or}
use Rattle.right_claim.specs.Scripts.{Call, out_with, update_with}
use Rattle.tool_driver.specs.declared.fault.DriveFault.{DriveFault}
use Rattle.tool_driver.specs.Counts.{input_counts}
use Rattle.tool_driver.specs.Shapes.{Shape, inputs_of, function_inputs}
use Rattle.tool_driver.specs.Judging.{twice_fault, early_fault, values_fault}
use Rattle.tool_driver.specs.Calling.{given_with}
use Rattle.tool_scripts.specs.declared.walk.BadCall.{BadCall}
use Rattle.tool_scripts.specs.Scripts.{Script, calls_of, whole_calls_of}
use Rattle.tool_script_runner.specs.declared.outcome.RefusedCall.{RefusedCall}

-- what was done in the present tick: of each function whether it was called, and for each input the
-- value that it was given
pub record Turn : Type 0 where
  pub called : List Bool
  pub given : List (Option ℤ)

-- an error of the call in this line, or else what comes of the lines after it
abbrev pub told_on : ℕ → Option DriveFault → Option RefusedCall → Option RefusedCall
told_on line (Some why) behind = Some (record { line = line; why = why })
told_on line None behind = behind

-- the calls on a system of this shape
module _ (s : Shape) where
  abbrev pub fresh_turn : Turn
  fresh_turn = record {
    called = replicate (length s.functions) false;
    given = replicate (length (inputs_of s)) None;
  }

  -- why a call is refused, if it is
  abbrev pub fault_in : Turn → Call → Option DriveFault
  fault_in turn (out_with j values) =
      option_or (twice_fault turn.called j) (values_fault turn.given (function_inputs s j) values)
  fault_in turn (update_with values) =
      option_or (early_fault turn.called) (values_fault turn.given (inputs_of s) values)

  -- the tick after a call that isn't refused
  abbrev pub turn_after : Turn → Call → Turn
  turn_after turn (out_with j values) = record {
    called = slice_set turn.called (j - 1) true;
    given = given_with turn.given (zip (function_inputs s j) values);
  }
  turn_after turn (update_with values) = fresh_turn

  -- the first of the calls in the lines after so many that is refused
  abbrev pub first_refused : Turn → ℕ → List Call → Option RefusedCall
  first_refused turn count [] = None
  first_refused turn count (c ∷ cs) =
      told_on (count + 1) (fault_in turn c) (first_refused (turn_after turn c) (count + 1) cs)

-- ---- Scripts

-- with its last line, or at its first bad one, unless a call before it is refused
pub data ScriptEnd : Type 0 where
  Whole : ScriptEnd
  AtLine : BadCall → ScriptEnd
  AtCall : RefusedCall → ScriptEnd

abbrev pub end_by : (refused : Option RefusedCall) (bad : Option BadCall) → ScriptEnd
end_by (Some refused) bad = AtCall refused
end_by None (Some bad) = AtLine bad
end_by None None = Whole

-- the end of a script whose lines were read as calls, and its calls up to there
abbrev pub end_of : Shape → Script → ScriptEnd
end_of s script = end_by (first_refused s (fresh_turn s) 0 script.calls) script.bad

abbrev pub calls_before : ScriptEnd → List Call → List Call
calls_before Whole calls = calls
calls_before (AtLine bad) calls = calls
calls_before (AtCall refused) calls = take (refused.line - 1) calls

-- the script of these bytes, and that of the whole lines among them
abbrev pub script_of : Shape → List ℕ → Script
script_of s bytes = calls_of (input_counts s) (length (inputs_of s)) bytes

abbrev pub whole_script_of : Shape → List ℕ → Script
whole_script_of s bytes = whole_calls_of (input_counts s) (length (inputs_of s)) bytes

-- where the script of these bytes ends, and its calls up to there
abbrev pub script_end : Shape → List ℕ → ScriptEnd
script_end s bytes = end_of s (script_of s bytes)

abbrev pub lawful_calls : Shape → List ℕ → List Call
lawful_calls s bytes = calls_before (script_end s bytes) (script_of s bytes).calls
