use Rattle.std.proofs.Common.{◌≡◌, ◌∷◌, take}
use Rattle.base_core.specs.Ports.{bit_of, has_bit}
use Rattle.emit_shape.specs.Heads.{now_param}
use Rattle.emit_system_spec.specs.Heads.{params_where}
use Rattle.emit_signatures.proofs.heads.params_of_function.Given as goal

abbrev pub invariant-loop-port : goal.invariant-loop-port
invariant-loop-port l =
    l.params ≡ now_param ∷ params_where l.control (λ port. has_bit l.function.inputs (bit_of port))
    (take l.port-index l.ports)
