use Rattle.std.proofs.Common.{◌≡◌, ◌-◌, ◌++◌}
use Rattle.std.specs.String.{string_bytes}
use Rattle.tool_script_runner.specs.FaultTexts.{functions_up_to}
use Rattle.tool_script_runner.proofs.FaultWords.{spaced_numbers}
use Rattle.tool_script_runner.proofs.texts.push_functions.Given as goal

abbrev pub invariant-loop-j : goal.invariant-loop-j
invariant-loop-j l = string_bytes l.out ≡ string_bytes l.fn.out ++ spaced_numbers (functions_up_to (l.j-counter - 1) l.mask)
