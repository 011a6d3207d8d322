use Rattle.std.proofs.Common.{◌≡◌, ◌++◌, OnOk, sym, ap, subst, ◌∙◌, arith}
use Rattle.c_syntax.proofs.lemmas.PlainLaws.{expr_tree-Pure}
use Rattle.c_syntax.specs.Plain.{expr_tree}
use Rattle.emit_fused.specs.Kept.{expr_fields, exprs_fields}
use Rattle.emit_fused.proofs.Rows.{row, fields-more, fields-done}
use Rattle.emit_fused.proofs.reading.+expression.Goals as goal

pub push_expr_fields-returns-in-Pure : goal.push_expr_fields-returns-in-Pure
push_expr_fields-returns-in-Pure t c =
    let i = c.in-Pure in
    subst (λ ks. OnOk c.push_exprs_fields.result (c.push_exprs_fields.new.fields.items ≡ c.args.fields.now.items ++ ks))
    (ap (λ es. exprs_fields (row es)) c.as_slice.ensures.value
    ∙ ap expr_fields (sym (ap expr_tree i.is ∙ expr_tree-Pure i.field-0 i.values)))
    c.push_exprs_fields.ensures

pub push_exprs_fields-loop-e-preserved : goal.push_exprs_fields-loop-e-preserved
push_exprs_fields-loop-e-preserved t c =
    fields-more c.args.es.now c.loop-e.e-index c.e-item.result c.args.fields.now.items c.loop-e.fields.items
    c.push_expr_fields.new.fields.items (omega (arith, c.loop-e-test.true)) c.e-item.is c.loop-e.invariant c.in_ok-push_expr_fields.ensures

pub push_exprs_fields-returns : goal.push_exprs_fields-returns
push_exprs_fields-returns t c =
    fields-done c.args.es.now c.loop-e.e-index c.args.fields.now.items c.loop-e.fields.items (omega (arith, c.loop-e-test.false))
    c.loop-e.invariant
