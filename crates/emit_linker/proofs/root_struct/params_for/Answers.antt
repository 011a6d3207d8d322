use Rattle.std.proofs.Common.{ℕ, List, []}
use Rattle.c_syntax.specs.declared.code.CType.{CType}
use Rattle.c_syntax.specs.Tree.{ParamTree}
use Rattle.c_syntax.specs.Plain.{param_trees}
use Rattle.emit_row_facts.proofs.lemmas.Steps.{mapped-next}
use Rattle.emit_linker.specs.Ports.{param_of}
use Rattle.emit_linker.proofs.Steps.{seen-push}
use Rattle.emit_linker.proofs.root_struct.params_for.Goals as goal

pub loop-inport-preserved : goal.loop-inport-preserved
loop-inport-preserved c =
    let x = c.inport-item.result in
    let tree : List ℕ × CType → ParamTree = λ q. record { name = q.0; type = q.1 } in
    let params = c.loop-inport.params.items in
    mapped-next param_of c.args.inports.now c.loop-inport.inport-index x [] (param_trees params) (param_trees c.push.new.self.items)
    c.loop-inport-test.true c.inport-item.is c.loop-inport.invariant
    (seen-push tree params c.push.new.self.items _ (param_of x) c.in_ok-push.ensures.items
    (λ j. record { name = c.in_ok-input_name.ensures j; type = c.container.ensures j }))
