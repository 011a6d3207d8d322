-- A script that comes in pieces: what a text means after some lines, and before whatever follows.
use Rattle.std.specs.Prelude.{◌≡◌, ℕ, ◌+◌, ◌-◌, ◌<◌, ◌≤◌, List, [], ◌∷◌, ◌++◌, length, take, drop, None, Some}
use Rattle.std.specs.Str.Lines.{lines}
use Rattle.tool_traces.specs.Lines.{whole_lines}
use Rattle.tool_traces.specs.Rows.{most_lines}
use Rattle.right_claim.specs.Scripts.{Call}
use Rattle.tool_scripts.specs.declared.walk.BadCall.{BadCall}
use Rattle.tool_scripts.specs.Calls.{HasItsValues}
use Rattle.tool_scripts.specs.Scripts.{Script, calls_behind}

-- the calls of a text after so many lines: those of its lines, and those of its whole lines
abbrev pub calls_after : ℕ → (counts : List ℕ) (all : ℕ) → List ℕ → Script
calls_after count counts all text = calls_behind count counts all (lines text)

abbrev pub whole_calls_after : ℕ → (counts : List ℕ) (all : ℕ) → List ℕ → Script
whole_calls_after count counts all text = calls_behind count counts all (whole_lines text)

-- calls in front of those of a script
abbrev pub with_calls : List Call → Script → Script
with_calls calls script = record { calls = calls ++ script.calls; bad = script.bad }

-- the text is whole lines that write these calls, so that whatever follows is read as though it
-- began there
pub record WritesCalls (text : List ℕ) (counts : List ℕ) (all : ℕ) (count : ℕ)
    (calls : List Call) : Type 0 where
  pub every : (behind : List ℕ) →
      calls_after count counts all (text ++ behind)
      ≡ with_calls calls (calls_after (count + length calls) counts all behind)
  pub whole : (behind : List ℕ) →
      whole_calls_after count counts all (text ++ behind)
      ≡ with_calls calls (whole_calls_after (count + length calls) counts all behind)

-- the text begins with a line that is no call, whatever follows
abbrev pub BeginsBadly : BadCall → (text : List ℕ) (counts : List ℕ) (all : ℕ) (count : ℕ) → Type 0
BeginsBadly bad text counts all count = (behind : List ℕ) →
    calls_after count counts all (text ++ behind) ≡ record { calls = []; bad = Some bad }

-- a line with its end lies from a place on, and is this call
pub record IsNextCall (text : List ℕ) (counts : List ℕ) (all : ℕ) (count from after : ℕ)
    (call : Call) : Type 0 where
  pub goes_on : from < after
  pub within : after ≤ length text
  pub fewer : count < most_lines
  pub values : HasItsValues counts all call
  pub writes : WritesCalls (take (after - from) (drop from text)) counts all count (call ∷ [])

-- the text is one line, which is this call
pub record IsLastCall (text : List ℕ) (counts : List ℕ) (all : ℕ) (count : ℕ)
    (call : Call) : Type 0 where
  pub fewer : count < most_lines
  pub values : HasItsValues counts all call
  pub calls : calls_after count counts all text ≡ record { calls = call ∷ []; bad = None }
