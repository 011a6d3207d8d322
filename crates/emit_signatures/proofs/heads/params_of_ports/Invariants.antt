use Rattle.std.proofs.Common.{◌≡◌, ◌∷◌, take}
use Rattle.emit_shape.specs.Heads.{now_param}
use Rattle.emit_system_spec.specs.Heads.{params_where, takes}
use Rattle.emit_signatures.proofs.heads.params_of_ports.Given as goal

abbrev pub invariant-loop-port : goal.invariant-loop-port
invariant-loop-port l = l.params ≡ now_param ∷ params_where l.control (takes l.inports) (take l.port-index l.ports)
