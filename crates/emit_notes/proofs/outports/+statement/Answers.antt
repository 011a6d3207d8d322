use Rattle.std.proofs.Common.{sym, ◌∙◌, ap, ◌++◌, map, arith}
use Rattle.std.proofs.lemmas.Grind.{common_steps}
use Rattle.std.proofs.lemmas.Result.{IfOk-equal}
use Rattle.c_syntax.specs.Plain.{cond_tree, stmt_tree}
use Rattle.c_syntax.specs.PlainField.{field_trees}
use Rattle.c_syntax.proofs.lemmas.PlainLaws.{stmt_tree-If}
use Rattle.emit_notes.specs.Outports.{stmt_outports}
use Rattle.emit_notes.proofs.StoredLemmas.{stmts_outports-flat, branch-stored}
use Rattle.emit_notes.proofs.outports.+statement.Goals as goal

pub push_stmt-returns-in_ok-push_stmts-in-If : goal.push_stmt-returns-in_ok-push_stmts-in-If
push_stmt-returns-in_ok-push_stmts-in-If t c =
    let labels = c.args.labels.now in
    let fields = field_trees c.args.fields.now in
    let earlier = map (λ x. x.items) c.args.earlier.now in
    let i = c.in-If in
    IfOk-equal c.push_stmts-in-If.result _ _ _ c.push_stmts-in-If.ensures
    (branch-stored labels fields earlier i.line (cond_tree i.test) c.args.rows.now.items c.push_stmts.new.rows.items
    i.yes.items c.deref.result.now i.no.items c.deref-in-If.result.now
    c.in_ok-push_stmts-in-If.ensures c.deref.ensures.value c.deref-in-If.ensures.value
    ∙ ap (λ tree. c.args.rows.now.items ++ stmt_outports labels fields earlier tree)
    (sym (ap stmt_tree i.is ∙ stmt_tree-If i.line i.test i.yes i.no)))

pub push_stmts-returns : goal.push_stmts-returns
push_stmts-returns t c = grind (arith, common_steps, stmts_outports-flat)
