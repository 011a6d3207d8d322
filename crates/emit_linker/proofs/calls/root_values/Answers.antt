use Rattle.std.proofs.Common.{ℕ, List, [], map}
use Rattle.c_syntax.specs.declared.code.CType.{CType}
use Rattle.c_syntax.specs.Tree.{ParamTree}
use Rattle.c_syntax.specs.Plain.{expr_tree, param_trees}
use Rattle.emit_shape.specs.Assembled.{root_value}
use Rattle.emit_linker.proofs.Steps.{seen-push, seen-next}
use Rattle.emit_linker.proofs.calls.root_values.Goals as goal

pub loop-param-preserved : goal.loop-param-preserved
loop-param-preserved c =
    let x = c.param-item.result in
    let tree : List ℕ × CType → ParamTree = λ q. record { name = q.0; type = q.1 } in
    let value = root_value [] (param_trees c.args.params.now) in
    let values = c.loop-param.values.items in
    seen-next value tree c.args.wanted.now c.loop-param.param-index x [] (map expr_tree values) (map expr_tree c.push.new.self.items)
    c.loop-param-test.true c.param-item.is c.loop-param.invariant
    (seen-push expr_tree values c.push.new.self.items c.in_ok-root_value.field-0 (value (tree x)) c.in_ok-push.ensures.items
    c.in_ok-root_value.ensures)
