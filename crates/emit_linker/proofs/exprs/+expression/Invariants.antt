use Rattle.std.proofs.Common.{◌≡◌, map, take}
use Rattle.c_syntax.specs.Plain.{expr_tree}
use Rattle.emit_shape.specs.Relocation.{moved_expr}
use Rattle.emit_linker.specs.Linked.{relocation}
use Rattle.emit_linker.proofs.exprs.+expression.Given as goal

abbrev pub invariant-moved_exprs-loop-e : goal.invariant-moved_exprs-loop-e
invariant-moved_exprs-loop-e l = map expr_tree l.list.items ≡ map (λ e. moved_expr (relocation l.links) (expr_tree e)) (take l.e-index l.es)
