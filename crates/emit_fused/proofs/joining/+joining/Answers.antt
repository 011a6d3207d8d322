use Rattle.std.proofs.Common.{◌≡◌, ◌∙◌, OnOk, ap, sym, subst, arith, List}
use Rattle.c_syntax.specs.declared.code.Stmt.{Stmt}
use Rattle.c_syntax.specs.Limits.{stmts_depth}
use Rattle.c_syntax.specs.Tree.{more_stmts}
use Rattle.emit_fused.specs.declared.fusion.Fusion.TheVariants.{Straight, Crossed, Turned}
use Rattle.emit_fused.specs.Fused.{put_before}
use Rattle.emit_fused.specs.Turned.{standing, turned, turned_stmt}
use Rattle.emit_fused.specs.Fusion.{turned_choice}
use Rattle.emit_fused.proofs.TurnedLists.{walked, joined-walked, plain-pushed, popped-choice, plain-under, apart-pushed, fused-pushed}
use Rattle.emit_fused.proofs.joining.+joining.Goals as goal

pub push_before-returns-in-Ok : goal.push_before-returns-in-Ok
push_before-returns-in-Ok t c =
    subst (λ x. OnOk c.push_choice.result (turned c.push_choice.new.list.items ≡ put_before x (turned c.args.list.now.items)))
    (sym (ap turned_stmt c.in-Ok.ensures.choice)) c.push_choice.ensures

pub push_before-returns-in_ok-push-in-Err : goal.push_before-returns-in_ok-push-in-Err
push_before-returns-in_ok-push-in-Err t c =
    plain-pushed c.args.list.now.items _ c.args.first c.in-Err.first c.in-Err.ensures.other c.in-Err.ensures.plain
    c.in_ok-push-in-Err.ensures.items

pub push_choice-returns-in-Ok : goal.push_choice-returns-in-Ok
push_choice-returns-in-Ok t c =
    subst (λ x. OnOk c.push_neighbours.result (turned c.push_neighbours.new.list.items ≡ put_before (turned_choice c.args.first) x))
    (sym (popped-choice c.args.list.now.items c.pop.new.self.items c.in-Some.next c.in-Ok.next c.in-Some.ensures.items
    c.in-Ok.ensures.choice))
    c.push_neighbours.ensures

pub push_choice-returns-in_ok-push-in-Err-2 : goal.push_choice-returns-in_ok-push-in-Err-2
push_choice-returns-in_ok-push-in-Err-2 t c =
    plain-under c.args.list.now.items c.pop.new.self.items _ _ c.in-Some.next c.in-Err.next c.statement-in-Err.result c.args.first
    c.in-Some.ensures.items c.in-Err.ensures.other c.in-Err.ensures.plain c.in_ok-push-in-Err.ensures.items c.statement-in-Err.ensures
    c.in_ok-push-in-Err-2.ensures.items

pub push_neighbours-returns-in_ok-push-in-Apart-2 : goal.push_neighbours-returns-in_ok-push-in-Apart-2
push_neighbours-returns-in_ok-push-in-Apart-2 t c =
    apart-pushed c.in_ok-fusion.field-0 c.args.list.now.items _ _ c.args.first c.args.next c.statement.result c.statement-in-Apart.result
    c.in_ok-fusion.ensures c.in-Apart.is c.statement.ensures c.in_ok-push-in-Apart.ensures.items c.statement-in-Apart.ensures
    c.in_ok-push-in-Apart-2.ensures.items

pub push_neighbours-returns-in_ok-push-in-Straight : goal.push_neighbours-returns-in_ok-push-in-Straight
push_neighbours-returns-in_ok-push-in-Straight t c =
    let old = turned c.args.list.now.items in
    fused-pushed c.in_ok-fusion.field-0 Straight c.args.list.now.items _ c.args.first c.args.next
    c.in_ok-joined_choice-in-Straight.field-0 c.in_ok-fusion.ensures c.in-Straight.is
    (ap (λ x. more_stmts x old) c.in_ok-joined_choice-in-Straight.ensures) c.in_ok-push-in-Straight.ensures.items

pub push_neighbours-returns-in_ok-push-in-Crossed : goal.push_neighbours-returns-in_ok-push-in-Crossed
push_neighbours-returns-in_ok-push-in-Crossed t c =
    let old = turned c.args.list.now.items in
    fused-pushed c.in_ok-fusion.field-0 Crossed c.args.list.now.items _ c.args.first c.args.next
    c.in_ok-joined_choice-in-Crossed.field-0 c.in_ok-fusion.ensures c.in-Crossed.is
    (ap (λ x. more_stmts x old) c.in_ok-joined_choice-in-Crossed.ensures) c.in_ok-push-in-Crossed.ensures.items

pub push_neighbours-returns-in_ok-push-in-Turned : goal.push_neighbours-returns-in_ok-push-in-Turned
push_neighbours-returns-in_ok-push-in-Turned t c =
    let old = turned c.args.list.now.items in
    fused-pushed c.in_ok-fusion.field-0 Turned c.args.list.now.items _ c.args.first c.args.next
    c.in_ok-joined_choice-in-Turned.field-0 c.in_ok-fusion.ensures c.in-Turned.is
    (ap (λ x. more_stmts x old) c.in_ok-joined_choice-in-Turned.ensures) c.in_ok-push-in-Turned.ensures.items

pub joined-loop-s-init : goal.joined-loop-s-init
joined-loop-s-init t c =
    let same = ap (λ (xs : List Stmt). stmts_depth (standing xs)) c.into_iter-rest.ensures.rest in
    record {
      made = ap (λ (xs : List Stmt). walked xs (turned c.args.later.items)) c.into_iter-rest.ensures.rest
          ∙ sym (joined-walked c.args.first.items (turned c.args.later.items));
      depth = omega (arith, same);
    }
