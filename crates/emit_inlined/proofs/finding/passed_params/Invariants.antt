use Rattle.std.proofs.Common.{◌≡◌, take, Some}
use Rattle.emit_inlined.proofs.FoundHelpers.{params_in}
use Rattle.emit_inlined.proofs.finding.passed_params.Given as goal

abbrev pub invariant-loop-value : goal.invariant-loop-value
invariant-loop-value l = params_in (take l.value-index l.values) ≡ Some l.params.items
