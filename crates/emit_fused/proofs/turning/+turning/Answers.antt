use Rattle.std.proofs.Common.{◌∙◌, ap, sym, arith, vec_len, List}
use Rattle.c_syntax.specs.declared.code.Stmt.{Stmt}
use Rattle.c_syntax.specs.Tree.{more_stmts}
use Rattle.emit_fused.specs.Turned.{turned}
use Rattle.emit_fused.proofs.TurnedLists.{both_ways, turned-push, moved-back, none-left, last-within, rest-within, emptied}
use Rattle.emit_fused.proofs.turning.+turning.Goals as goal

pub turned_round-turned_stmt-requires : goal.turned_round-turned_stmt-requires
turned_round-turned_stmt-requires t c =
    let within = last-within c.loop-s.ss.items c.pop.new.self.items c.in-Some.s c.in-Some.ensures.items in
    let depth = c.loop-s.invariant.depth in
    (omega (arith, within, depth), tt)

pub turned_round-loop-s-preserved : goal.turned_round-loop-s-preserved
turned_round-loop-s-preserved t c =
    let list = c.loop-s.list.items in
    let left = c.pop.new.self.items in
    let within = rest-within c.loop-s.ss.items left c.in-Some.s c.in-Some.ensures.items in
    let depth = c.loop-s.invariant.depth in
    record {
      made = ap (λ (l : List Stmt). both_ways l (turned left)) c.in_ok-push.ensures.items
          ∙ moved-back list c.in_ok-turned_stmt.field-0 (turned left)
          ∙ ap (λ y. both_ways list (more_stmts y (turned left))) c.in_ok-turned_stmt.ensures
          ∙ ap (both_ways list) (sym (ap turned c.in-Some.ensures.items ∙ turned-push left c.in-Some.s)) ∙ c.loop-s.invariant.made;
      depth = omega (arith, within, depth);
    }

pub turned_round-returns : goal.turned_round-returns
turned_round-returns t c =
    let list = c.loop-s.list.items in
    let gone = emptied c.loop-s.ss.items c.pop.new.self.items (vec_len c.loop-s.ss) c.in_default.ensures.cases.0
    c.in_default.ensures.rest c.in_default.ensures.items in
    sym (none-left list) ∙ ap (λ (xs : List Stmt). both_ways list (turned xs)) (sym gone) ∙ c.loop-s.invariant.made
