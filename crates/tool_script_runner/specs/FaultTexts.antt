-- The lines that say what a script is stopped by.
use Rattle.std.specs.Prelude.{ℕ, ◌-◌, List, [], ◌∷◌, map, filter, codes, decimal}
use Rattle.std.specs.List.{range_with_len}
use Rattle.std.specs.Fmt.{signed_decimal}
use Rattle.base_core.specs.Bytes.{line_of_words}
use Rattle.base_core.specs.Words.{at_line, port_word}
use Rattle.base_core.specs.Ports.{has_bit}
use Rattle.tool_driver.specs.declared.fault.DriveFault.{DriveFault}
use Rattle.tool_driver.specs.declared.fault.DriveFault.TheVariants as drive
use Rattle.tool_scripts.specs.declared.calls.ScriptWhy.{ScriptWhy}
use Rattle.tool_scripts.specs.declared.calls.ScriptWhy.TheVariants as why
use Rattle.tool_scripts.specs.declared.walk.BadCall.{BadCall}
use Rattle.tool_script_runner.specs.declared.outcome.RefusedCall.{RefusedCall}

-- a line of a script, and what is reported of it
abbrev pub script_line : ℕ → List (List ℕ) → List ℕ
script_line line words = line_of_words (codes "script" ∷ at_line line words)

-- why a line is no call, with the number of no function or how many values there are
abbrev pub bad_words : ScriptWhy → List (List ℕ)
bad_words why.Long = codes "Long" ∷ []
bad_words why.Many = codes "Many" ∷ []
bad_words why.Form = codes "Form" ∷ []
bad_words (why.NoFunction number) = codes "NoFunction" ∷ signed_decimal number ∷ []
bad_words (why.Count found) = codes "Count" ∷ decimal found ∷ []

-- the numbers of the functions in a mask up to a last one: j for bit j - 1
unfoldable pub functions_up_to : ℕ → ℕ → List ℕ
functions_up_to last mask = filter (λ j. has_bit mask (j - 1)) (range_with_len 1 last)

-- the numbers of all functions in a mask
abbrev pub functions_in : ℕ → List ℕ
functions_in mask = functions_up_to 64 mask

-- why a driver made no call; right code is never stuck
abbrev pub fault_words : DriveFault → List (List ℕ)
fault_words (drive.Twice function) = codes "Twice" ∷ decimal function ∷ []
fault_words (drive.Early missing) = codes "Early" ∷ map decimal (functions_in missing)
fault_words (drive.Value input) = codes "Value" ∷ port_word input ∷ []
fault_words (drive.Unlike input first second) =
    codes "Unlike" ∷ port_word input ∷ signed_decimal first ∷ signed_decimal second ∷ []
fault_words (drive.Stuck at) = codes "Stuck" ∷ []

-- a line that is no call, and a line whose call is refused
abbrev pub bad_call_line : BadCall → List ℕ
bad_call_line bad = script_line bad.line (bad_words bad.why)

abbrev pub refused_call_line : RefusedCall → List ℕ
refused_call_line refused = script_line refused.line (fault_words refused.why)
