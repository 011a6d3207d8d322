use Rattle.std.proofs.Common.{◌≡◌, ◌<◌, All, map}
use Rattle.std.specs.List.{range_with_len}
use Rattle.emit_system_spec.specs.Schedules.{giving_function as function_giving}
use Rattle.emit_schedules.proofs.functions.giving_functions.Given as goal

abbrev pub invariant-loop-output : goal.invariant-loop-output
invariant-loop-output l = (l.given.items ≡ map (function_giving l.profile) (range_with_len 0 l.output)) × All (λ j. j < 32) l.given.items
