use Rattle.std.proofs.Common.{◌≡◌, ◌∷◌, map, take}
use Rattle.emit_shape.specs.Heads.{now_param}
use Rattle.emit_system_spec.specs.Heads.{port_param}
use Rattle.emit_signatures.proofs.heads.all_params.Given as goal

abbrev pub invariant-loop-port : goal.invariant-loop-port
invariant-loop-port l = l.params ≡ now_param ∷ map (port_param l.control) (take l.port-index l.ports)
