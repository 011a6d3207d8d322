use Rattle.std.proofs.Common.{◌≡◌, map, take}
use Rattle.c_syntax.specs.Plain.{expr_tree}
use Rattle.emit_fused.specs.Simplified.{simplified_expr}
use Rattle.emit_fused.proofs.simplifying.+expression.Given as goal

abbrev pub invariant-simplified_exprs-loop-e : goal.invariant-simplified_exprs-loop-e
invariant-simplified_exprs-loop-e l =
    map expr_tree l.list.items ≡ map (λ e. simplified_expr (expr_tree e)) (take l.e-index l.es)
