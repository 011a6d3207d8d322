-- The calls of a script, up to the first line that is none by itself.
use Rattle.std.specs.Prelude.{ℕ, ◌+◌, ◌==◌, if◌then◌else◌, List, [], ◌∷◌, Option, None, Some, Result, Ok, Err}
use Rattle.std.specs.Str.Lines.{lines}
use Rattle.tool_traces.specs.Lines.{whole_lines}
use Rattle.tool_traces.specs.Rows.{most_lines}
use Rattle.right_claim.specs.Scripts.{Call}
use Rattle.tool_scripts.specs.declared.calls.ScriptWhy.{ScriptWhy}
use Rattle.tool_scripts.specs.declared.calls.ScriptWhy.TheVariants.{Many}
use Rattle.tool_scripts.specs.declared.walk.BadCall.{BadCall}
use Rattle.tool_scripts.specs.Calls.{call_of_line}

-- The calls before the first bad line, and that line, if there is one.
pub record Script : Type 0 where
  pub calls : List Call
  pub bad : Option BadCall

-- a line's call in front of the calls of the lines after it
abbrev pub with_call : ℕ → Result Call ScriptWhy → Script → Script
with_call line (Ok call) script = record { calls = call ∷ script.calls; bad = script.bad }
with_call line (Err why) script =
    record { calls = []; bad = Some (record { line = line; why = why }) }

-- the calls of the lines after so many others
abbrev pub calls_behind : ℕ → (counts : List ℕ) (all : ℕ) → List (List ℕ) → Script
calls_behind line counts all [] = record { calls = []; bad = None }
calls_behind line counts all (text ∷ texts) =
    if line == most_lines
    then record { calls = []; bad = Some (record { line = most_lines; why = Many }) }
    else with_call (line + 1) (call_of_line counts all text)
    (calls_behind (line + 1) counts all texts)

-- the calls of a script's bytes
abbrev pub calls_of : (counts : List ℕ) (all : ℕ) → List ℕ → Script
calls_of counts all bytes = calls_behind 0 counts all (lines bytes)

-- the calls of the whole lines among them
abbrev pub whole_calls_of : (counts : List ℕ) (all : ℕ) → List ℕ → Script
whole_calls_of counts all bytes = calls_behind 0 counts all (whole_lines bytes)
