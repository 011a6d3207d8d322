use Rattle.std.proofs.Common.{◌≡◌, refl, sym, ◌∙◌, ap, subst, ◌<◌, Ok, arith}
use Rattle.c_grammar.specs.Parsing.{next, stmt_opener_of, stmts_step, parse_stmt}
use Rattle.c_expressions.specs.Gives.{Gives}
use Rattle.c_expressions.specs.Limited.{limits_of}
use Rattle.c_grammar.specs.WrittenTrees.{stmt_of}
use Rattle.c_statements.proofs.Levels.{stmt-some}
use Rattle.c_statements.proofs.Lists.{more-is, going-begins, going-pushed}
use Rattle.c_statements.proofs.statements.+statements.Goals as goal

pub statements-loop-statements-init : goal.statements-loop-statements-init
statements-loop-statements-init t c =
    going-begins
    (stmts_step c.args.reader.last (limits_of c.args.reader.limits)
    (parse_stmt c.args.reader.last (limits_of c.args.reader.limits) c.args.levels)) stmt_of c.new-statements.result.items 0
    c.args.tokens c.new-statements.ensures.items refl

pub statements-loop-statements-smaller : goal.statements-loop-statements-smaller
statements-loop-statements-smaller t c =
    (c.lists_continue.ensures.statements c.args.reader.last (limits_of c.args.reader.limits) c.args.levels).fewer 0
    c.loop-statements.rest (stmt_of c.in-Some.statement) c.in_ok-statement.later
    (more-is stmt_of c.in_ok-statement.statement c.in-Some.statement c.in_ok-statement.later _ c.in_ok-statement.ensures
    c.in-Some.is)

pub statements-loop-statements-preserved : goal.statements-loop-statements-preserved
statements-loop-statements-preserved t c =
    going-pushed stmt_of c.loop-statements.statements.items c.push.new.self.items c.in-Some.statement 0 0 0
    c.in_ok-statement.later
    (c.lists_continue.ensures.statements c.args.reader.last (limits_of c.args.reader.limits) c.args.levels)
    c.loop-statements.invariant c.in_ok-push.ensures.items refl refl
    (more-is stmt_of c.in_ok-statement.statement c.in-Some.statement c.in_ok-statement.later _ c.in_ok-statement.ensures
    c.in-Some.is)

pub statement-returns : goal.statement-returns
statement-returns t c =
    let some : 0 < c.args.levels = omega arith in
    let first : next c.args.reader.last c.args.tokens.now ≡ Ok (c.in_ok-token.token, c.in_ok-token.rest) = sym c.in_ok-token.ensures in
    let text : c.token.inside.text.now ≡ c.in_ok-token.token.text = cc in
    let opens : c.stmt_opener_of-opener.result ≡ stmt_opener_of c.in_ok-token.token.text =
    c.stmt_opener_of-opener.ensures ∙ ap stmt_opener_of text in
    subst (Gives stmt_of c.statement_from.result)
    (sym (stmt-some c.args.reader.last (limits_of c.args.reader.limits) c.args.levels c.args.tokens.now
    c.in_ok-token.token c.in_ok-token.rest c.stmt_opener_of-opener.result some first opens))
    c.statement_from.ensures
