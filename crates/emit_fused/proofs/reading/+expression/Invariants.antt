use Rattle.std.proofs.Common.{◌≡◌, ◌++◌, take}
use Rattle.std.specs.List.{flat_map}
use Rattle.c_syntax.specs.Plain.{expr_tree}
use Rattle.emit_fused.specs.Kept.{expr_fields}
use Rattle.emit_fused.proofs.reading.+expression.Given as goal

abbrev pub invariant-push_exprs_fields-loop-e : goal.invariant-push_exprs_fields-loop-e
invariant-push_exprs_fields-loop-e l =
    l.fields.items ≡ l.initial.fields.items ++ flat_map (λ e. expr_fields (expr_tree e)) (take l.e-index l.es)
