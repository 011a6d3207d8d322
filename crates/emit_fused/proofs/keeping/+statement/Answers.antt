use Rattle.std.proofs.Common.{sym, ap, ◌∙◌, ◌&&◌, arith}
use Rattle.c_syntax.specs.Plain.{stmt_tree}
use Rattle.c_syntax.proofs.lemmas.PlainLaws.{stmt_tree-If}
use Rattle.emit_fused.specs.Kept.{stmt_keeps}
use Rattle.emit_fused.proofs.Rows.{keeps_all, keep-stops, keep-next, keep-done}
use Rattle.emit_fused.proofs.keeping.+statement.Goals as goal

pub stmt_keeps-returns-then-stmts_keep : goal.stmt_keeps-returns-then-stmts_keep
stmt_keeps-returns-then-stmts_keep t c =
    let i = c.in-If in
    let fields = c.args.fields.now in
    let first = sym (c.stmts_keep.ensures ∙ ap (keeps_all fields) c.deref.ensures.value) ∙ c.if-stmts_keep.true in
    c.stmts_keep-then-stmts_keep.ensures ∙ ap (keeps_all fields) c.deref-then-stmts_keep.ensures.value
    ∙ sym (ap (λ b. b && keeps_all fields i.no.items) first)
    ∙ ap (stmt_keeps fields) (sym (ap stmt_tree i.is ∙ stmt_tree-If i.line i.test i.yes i.no))

pub stmt_keeps-returns-else-stmts_keep : goal.stmt_keeps-returns-else-stmts_keep
stmt_keeps-returns-else-stmts_keep t c =
    let i = c.in-If in
    let fields = c.args.fields.now in
    let first = sym (c.stmts_keep.ensures ∙ ap (keeps_all fields) c.deref.ensures.value) ∙ c.if-stmts_keep.false in
    c.if-stmts_keep.false ∙ sym (ap (λ b. b && keeps_all fields i.no.items) first)
    ∙ ap (stmt_keeps fields) (sym (ap stmt_tree i.is ∙ stmt_tree-If i.line i.test i.yes i.no))

pub stmts_keep-returns-then-not-stmt_keeps : goal.stmts_keep-returns-then-not-stmt_keeps
stmts_keep-returns-then-not-stmt_keeps t c =
    sym (keep-stops c.args.fields.now c.args.ss.now c.loop-s.s-index c.s-item.result (omega (arith, c.loop-s-test.true)) c.s-item.is
    (sym c.stmt_keeps.ensures ∙ c.if-not-stmt_keeps.true))

pub stmts_keep-loop-s-preserved : goal.stmts_keep-loop-s-preserved
stmts_keep-loop-s-preserved t c =
    keep-next c.args.fields.now c.args.ss.now c.loop-s.s-index c.s-item.result (omega (arith, c.loop-s-test.true)) c.s-item.is
    (sym c.stmt_keeps.ensures ∙ c.if-not-stmt_keeps.false) c.loop-s.invariant

pub stmts_keep-returns : goal.stmts_keep-returns
stmts_keep-returns t c =
    sym (keep-done c.args.fields.now c.args.ss.now c.loop-s.s-index (omega (arith, c.loop-s-test.false)) c.loop-s.invariant)
