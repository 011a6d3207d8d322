use Rattle.std.proofs.Common.{true, false, List, ◌++◌, ◌∷◌, [], append-nil, sym, ap, ◌∙◌}
use Rattle.base_core.specs.declared.base.Port.{Port}
use Rattle.base_core.specs.Ports.{bit_of, has_bit}
use Rattle.c_syntax.specs.Tree.{ParamTree}
use Rattle.emit_shape.specs.Heads.{now_param}
use Rattle.emit_system_spec.specs.Heads.{port_param}
use Rattle.emit_signatures.proofs.TakenPorts.{where-more}
use Rattle.emit_signatures.proofs.heads.params_of_function.Goals as goal
use Rattle.emit_signatures.proofs.heads.params_of_function.Goals.{then-has_port+in_ok-push_port, else-has_port}

pub loop-port-preserved : goal.loop-port-preserved
loop-port-preserved c =
    let control = c.args.control in
    let x = c.loop-port-item.result in
    let test = λ (p : Port). has_bit c.args.function.now.inputs (bit_of p) in
    elim c.if-has_port.branch [
      | then-has_port+in_ok-push_port w ↦ w.params-is ∙ w.in_ok-push_port.ensures
          ∙ ap (λ (ps : List ParamTree). ps ++ port_param control x ∷ []) c.loop-port.invariant
          ∙ ap (λ (ps : List ParamTree). now_param ∷ ps)
          (sym (where-more control test c.args.ports.now c.loop-port.port-index x true c.loop-port-test.true
          c.loop-port-item.is (sym c.has_port.ensures ∙ w.if-has_port.true)))
      | else-has_port w ↦ w.params-is ∙ sym (append-nil c.loop-port.params) ∙ ap (λ (ps : List ParamTree). ps ++ []) c.loop-port.invariant
          ∙ ap (λ (ps : List ParamTree). now_param ∷ ps)
          (sym (where-more control test c.args.ports.now c.loop-port.port-index x false c.loop-port-test.true
          c.loop-port-item.is (sym c.has_port.ensures ∙ w.if-has_port.false)))
    ]
