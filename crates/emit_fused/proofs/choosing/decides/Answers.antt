use Rattle.std.proofs.Common.{◌∙◌, ◌==◌, ap, sym, length, List}
use Rattle.c_syntax.specs.declared.code.Stmt.{Stmt}
use Rattle.std.proofs.lemmas.Bool.{eqb-true, eqb-false}
use Rattle.c_syntax.specs.Tree.{more_stmts, no_stmts}
use Rattle.c_syntax.specs.Plain.{cond_tree, stmt_tree}
use Rattle.c_syntax.proofs.lemmas.PlainLaws.{stmt_tree-If}
use Rattle.emit_fused.specs.Turned.{standing, is_decided}
use Rattle.emit_fused.proofs.TurnedLists.{decided-alone, decided-else}
use Rattle.emit_fused.proofs.choosing.decides.Goals as goal

pub returns-then-is_empty : goal.returns-then-is_empty
returns-then-is_empty c =
    let i = c.in-If in
    let t = cond_tree c.args.test.now in
    c.opposite.ensures
    ∙ sym (decided-alone t i.line (cond_tree i.other) (standing i.yes.items) i.no.items
    (eqb-true (length i.no.items) 0 (ap (λ (xs : List Stmt). length xs == 0) (sym c.as_slice.ensures.value) ∙ sym c.is_empty.ensures ∙ c.if-is_empty.true)))
    ∙ ap (λ x. is_decided t (more_stmts x no_stmts)) (sym (ap stmt_tree i.is ∙ stmt_tree-If i.line i.other i.yes i.no))

pub returns-else-is_empty : goal.returns-else-is_empty
returns-else-is_empty c =
    let i = c.in-If in
    let t = cond_tree c.args.test.now in
    c.if-is_empty.false
    ∙ sym (decided-else t i.line (cond_tree i.other) (standing i.yes.items) i.no.items
    (eqb-false (length i.no.items) 0 (ap (λ (xs : List Stmt). length xs == 0) (sym c.as_slice.ensures.value) ∙ sym c.is_empty.ensures ∙ c.if-is_empty.false)))
    ∙ ap (λ x. is_decided t (more_stmts x no_stmts)) (sym (ap stmt_tree i.is ∙ stmt_tree-If i.line i.other i.yes i.no))
