use Rattle.std.proofs.Common.{◌∷◌, []}
use Rattle.emit_shape.specs.Heads.{now_param}
use Rattle.emit_system_spec.specs.Heads.{port_param}
use Rattle.emit_row_facts.proofs.lemmas.Steps.{mapped-next}
use Rattle.emit_signatures.proofs.heads.all_params.Goals as goal

pub loop-port-preserved : goal.loop-port-preserved
loop-port-preserved c =
    mapped-next (port_param c.args.control) c.args.ports.now c.loop-port.port-index c.loop-port-item.result (now_param ∷ [])
    c.loop-port.params _ c.loop-port-test.true c.loop-port-item.is c.loop-port.invariant c.in_ok-push_port.ensures
