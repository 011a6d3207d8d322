use Rattle.std.proofs.Common.{map, arith}
use Rattle.c_syntax.specs.declared.code.Stmt.{Stmt}
use Rattle.c_syntax.specs.Tree.{stmts_of_list}
use Rattle.c_syntax.specs.Plain.{stmt_tree}
use Rattle.c_renaming.proofs.lemmas.OneByOne.{done-more, done-all}
use Rattle.emit_pruned.specs.Marks.{flag_at, marked}
use Rattle.emit_pruned.proofs.lemmas.Flags.{marked_append}
use Rattle.emit_inlined.specs.Steps.{helpers_by, stmt_helpers}
use Rattle.emit_inlined.proofs.FoundHelpers.{stmts-helpers}
use Rattle.emit_inlined.proofs.finding.mark_helpers.Goals as goal

pub loop-s-preserved : goal.loop-s-preserved
loop-s-preserved c =
    done-more marked marked_append (λ (s : Stmt). stmt_helpers (flag_at c.args.helpers.now) (stmt_tree s)) c.args.ss.now c.loop-s.s-index
    c.s-item.result c.args.inlined.now c.loop-s.inlined c.mark_helper.new.inlined
    (omega (arith, c.loop-s-test.true)) c.s-item.is c.loop-s.invariant c.in_ok-mark_helper.ensures

pub returns : goal.returns
returns c =
    done-all marked marked_append (λ (s : Stmt). stmt_helpers (flag_at c.args.helpers.now) (stmt_tree s)) c.args.ss.now c.loop-s.s-index
    c.args.inlined.now c.loop-s.inlined (helpers_by (flag_at c.args.helpers.now) (stmts_of_list (map stmt_tree c.args.ss.now)))
    (omega (arith, c.loop-s-test.false)) (stmts-helpers (flag_at c.args.helpers.now) c.args.ss.now) c.loop-s.invariant
