use Rattle.std.proofs.Common.{◌≡◌, map, take}
use Rattle.c_syntax.specs.Plain.{stmt_tree, param_trees}
use Rattle.emit_shape.specs.Assembled.{call_top}
use Rattle.emit_linker.specs.Places.{trees}
use Rattle.emit_linker.proofs.calls.calls_of_top.Given as goal

abbrev pub invariant-loop-name : goal.invariant-loop-name
invariant-loop-name l = map stmt_tree l.calls.items
    ≡ map (call_top (trees l.codes.list.now) (param_trees l.params) l.outputs) (take l.name-index l.names)
