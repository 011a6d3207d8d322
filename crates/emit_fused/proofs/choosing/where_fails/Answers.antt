use Rattle.std.proofs.Common.{◌≡◌, ◌∙◌, ap, sym, List, ◌∷◌, [], ◌++◌}
use Rattle.c_syntax.specs.declared.code.Stmt.{Stmt}
use Rattle.c_syntax.specs.Tree.{no_stmts}
use Rattle.c_syntax.specs.Plain.{cond_tree}
use Rattle.emit_fused.specs.Fused.{where_fails}
use Rattle.emit_fused.specs.Turned.{turned_onto, standing, turned, is_decided}
use Rattle.emit_fused.proofs.TurnedLists.{undecided, last-decided}
use Rattle.emit_fused.proofs.choosing.where_fails.Goals as goal

pub returns-then-not-is_decided : goal.returns-then-not-is_decided
returns-then-not-is_decided c =
    let t = cond_tree c.args.test.now in
    sym (undecided t c.args.ss.items
    (ap (λ (xs : List Stmt). is_decided t (standing xs)) (sym c.as_slice.ensures.value) ∙ sym c.is_decided.ensures
    ∙ c.if-not-is_decided.true))

pub returns-in-Some : goal.returns-in-Some
returns-in-Some c =
    let t = cond_tree c.args.test.now in
    let only = c.in-Some.only in
    let rest = c.pop.new.self.items in
    let all : c.args.ss.items ≡ rest ++ only ∷ [] = c.in-Some.ensures.items in
    ap (λ xs. turned_onto xs no_stmts) c.on_true_of.ensures
    ∙ sym (last-decided t rest only
    (ap (λ (xs : List Stmt). is_decided t (standing xs)) (sym all ∙ sym c.as_slice.ensures.value) ∙ sym c.is_decided.ensures
    ∙ c.if-not-is_decided.false))
    ∙ ap (λ (xs : List Stmt). where_fails t (turned xs)) (sym all)
