use Rattle.std.proofs.Common.{◌≡◌, [], map, take}
use Rattle.c_syntax.specs.Plain.{expr_tree, param_trees}
use Rattle.emit_shape.specs.Assembled.{root_value}
use Rattle.emit_linker.proofs.calls.root_values.Given as goal

abbrev pub invariant-loop-param : goal.invariant-loop-param
invariant-loop-param l = map expr_tree l.values.items
    ≡ map (root_value [] (param_trees l.params)) (param_trees (take l.param-index l.wanted))
