use Rattle.std.proofs.Common.{◌≡◌, take}
use Rattle.std.specs.List.{flat_map}
use Rattle.c_syntax.specs.Plain.{expr_tree}
use Rattle.emit_pruned.specs.Calls.{expr_functions}
use Rattle.emit_pruned.specs.Marks.{marked}
use Rattle.emit_pruned.proofs.marks.+expression.Given as goal

abbrev pub invariant-mark_exprs-loop-e : goal.invariant-mark_exprs-loop-e
invariant-mark_exprs-loop-e l =
    l.needed ≡ marked l.initial.needed (flat_map (λ e. expr_functions (expr_tree e)) (take l.e-index l.es))
