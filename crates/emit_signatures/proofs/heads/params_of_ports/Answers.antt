use Rattle.std.proofs.Common.{◌∷◌, [], Bool, sym, ◌∙◌}
use Rattle.base_core.specs.declared.base.Port.{Port}
use Rattle.base_fixed_point.specs.declared.types.FixType.{FixType}
use Rattle.emit_shape.specs.Heads.{now_param}
use Rattle.emit_system_spec.specs.Heads.{port_param, takes}
use Rattle.emit_row_facts.proofs.lemmas.Steps.{passed-then, passed-else}
use Rattle.emit_signatures.proofs.heads.params_of_ports.Goals as goal
use Rattle.emit_signatures.proofs.heads.params_of_ports.Goals.{then-takes+in_ok-push_port, else-takes}

pub loop-port-preserved : goal.loop-port-preserved
loop-port-preserved c =
    let ports = c.args.ports.now in
    let k = c.loop-port.port-index in
    let x = c.loop-port-item.result in
    let passes : Port × FixType → Bool = λ e. takes c.args.inports.now e.0 in
    let param = port_param c.args.control in
    elim c.if-takes.branch [
      | then-takes+in_ok-push_port w ↦ w.params-is
          ∙ passed-then passes param ports k x (now_param ∷ []) c.loop-port.params _ c.loop-port-test.true
          c.loop-port-item.is (sym c.takes.ensures ∙ w.if-takes.true) c.loop-port.invariant w.in_ok-push_port.ensures
      | else-takes w ↦ w.params-is
          ∙ passed-else passes param ports k x (now_param ∷ []) c.loop-port.params c.loop-port-test.true
          c.loop-port-item.is (sym c.takes.ensures ∙ w.if-takes.false) c.loop-port.invariant
    ]
