use Rattle.std.proofs.Common.{◌<◌, ◌∷◌, [], length, map, ap, ◌∙◌, arith}
use Rattle.c_syntax.specs.Tree.{more_stmts, no_stmts, stmts_of_list}
use Rattle.c_syntax.specs.Plain.{procedure_tree, stmt_tree}
use Rattle.emit_pruned.specs.Marks.{flag_at}
use Rattle.emit_inlined.specs.Steps.{place_in}
use Rattle.emit_inlined.proofs.InlinedLists.{inlined-more, inlined-all}
use Rattle.emit_inlined.proofs.inlining.inlined_stmts.Goals as goal
use Rattle.emit_inlined.proofs.inlining.inlined_stmts.Goals.{in-Some+in_ok-append-in-Some, in-None+in_ok-placed_stmt-in-None+in_ok-push-in-None}

pub loop-s-preserved : goal.loop-s-preserved
loop-s-preserved c =
    let one-more = inlined-more (map procedure_tree c.args.procedures.now) (flag_at c.args.helpers.now)
    (place_in c.args.places.now) c.args.ss.now c.loop-s.s-index c.s-item.result c.loop-s.list.items in
    let inside : c.loop-s.s-index < length c.args.ss.now = omega (arith, c.loop-s-test.true) in
    elim c.match-branch-3.branch [
      | in-Some+in_ok-append-in-Some w ↦
          ap (λ v. stmts_of_list (map stmt_tree v.items)) w.list-is
          ∙ one-more w.in-Some.body.items w.append.new.self.items inside c.s-item.is c.loop-s.invariant
          (rw w.in-Some.is at c.in_ok-body.ensures) w.in_ok-append-in-Some.ensures.items
      | in-None+in_ok-placed_stmt-in-None+in_ok-push-in-None w ↦
          ap (λ v. stmts_of_list (map stmt_tree v.items)) w.list-is
          ∙ one-more (w.in_ok-placed_stmt-in-None.field-0 ∷ []) w.push.new.self.items inside c.s-item.is c.loop-s.invariant
          (ap (λ x. more_stmts x no_stmts) w.in_ok-placed_stmt-in-None.ensures ∙ rw w.in-None.is at c.in_ok-body.ensures)
          w.in_ok-push-in-None.ensures.items
    ]

pub returns : goal.returns
returns c =
    inlined-all (map procedure_tree c.args.procedures.now) (flag_at c.args.helpers.now) (place_in c.args.places.now) c.args.ss.now
    c.loop-s.s-index c.loop-s.list.items (omega (arith, c.loop-s-test.false)) c.loop-s.invariant
