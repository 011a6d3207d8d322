use Rattle.std.proofs.Common.{◌+◌, ◌*◌, length, map, suc}
use Rattle.c_grammar.specs.Parsing.{many, stmts_step, parse_stmt}
use Rattle.c_expressions.specs.Limited.{limits_of}
use Rattle.c_grammar.specs.WrittenTrees.{stmt_of}
use Rattle.c_statements.proofs.Lists.{Going}
use Rattle.c_statements.proofs.statements.+statements.Given as goal

abbrev pub invariant-statements-loop-statements : goal.invariant-statements-loop-statements
invariant-statements-loop-statements l =
    Going (stmts_step l.reader.last (limits_of l.reader.limits) (parse_stmt l.reader.last (limits_of l.reader.limits) l.levels))
    (many (stmts_step l.reader.last (limits_of l.reader.limits)
    (parse_stmt l.reader.last (limits_of l.reader.limits) l.levels)) (suc (length l.initial.rest)) 0 l.initial.rest)
    (map stmt_of l.statements.items) 0 l.rest

abbrev pub decreases-statements-loop-statements : goal.decreases-statements-loop-statements
decreases-statements-loop-statements l = length l.rest

abbrev pub decreases-statement : goal.decreases-statement
decreases-statement l = 8 * l.levels + 0

abbrev pub decreases-statements_step : goal.decreases-statements_step
decreases-statements_step l = 8 * l.levels + 1

abbrev pub decreases-statements : goal.decreases-statements
decreases-statements l = 8 * l.levels + 2

abbrev pub decreases-block : goal.decreases-block
decreases-block l = 8 * l.levels + 3

abbrev pub decreases-second : goal.decreases-second
decreases-second l = 8 * l.levels + 4

abbrev pub decreases-choice : goal.decreases-choice
decreases-choice l = 8 * l.levels + 5

abbrev pub decreases-statement_from : goal.decreases-statement_from
decreases-statement_from l = 8 * l.levels + 6
