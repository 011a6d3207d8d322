use Rattle.std.proofs.Common.{◌≡◌, map, take}
use Rattle.emit_system_spec.specs.Places.{param_leaf}
use Rattle.emit_layout.specs.Parameters.{param_name}
use Rattle.emit_layout.proofs.params.Params.leaves_of.Given as goal

abbrev pub invariant-loop-parameter : goal.invariant-loop-parameter
invariant-loop-parameter l = l.leaves.items ≡ map (λ q. param_leaf l.self (param_name q.0)) (take l.parameter-index l.parameter-items)
