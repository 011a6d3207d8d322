use Rattle.std.proofs.Common.{◌+◌, ◌*◌, length, map, suc}
use Rattle.c_grammar.specs.Parsing.{many, values_step, parse_operand}
use Rattle.c_expressions.specs.Gives.{behind}
use Rattle.c_grammar.specs.WrittenTrees.{expr_of}
use Rattle.c_expressions.proofs.Lists.{Going}
use Rattle.c_expressions.proofs.reader.Reader.+expressions.Given as goal

abbrev pub invariant-later_values-loop-values : goal.invariant-later_values-loop-values
invariant-later_values-loop-values l =
    Going (values_step l.self.last (parse_operand l.self.last l.levels))
    (behind (map expr_of l.initial.values.items)
    (many (values_step l.self.last (parse_operand l.self.last l.levels))
    (suc (length l.initial.rest)) 0 l.initial.rest)) (map expr_of l.values.items) 0 l.rest

abbrev pub decreases-later_values-loop-values : goal.decreases-later_values-loop-values
decreases-later_values-loop-values l = length l.rest

abbrev pub decreases-operand : goal.decreases-operand
decreases-operand l = 8 * l.levels + 0

abbrev pub decreases-value : goal.decreases-value
decreases-value l = 8 * l.levels + 1

abbrev pub decreases-test : goal.decreases-test
decreases-test l = 8 * l.levels + 1

abbrev pub decreases-values_step : goal.decreases-values_step
decreases-values_step l = 8 * l.levels + 2

abbrev pub decreases-later_values : goal.decreases-later_values
decreases-later_values l = 8 * l.levels + 3

abbrev pub decreases-pure_call : goal.decreases-pure_call
decreases-pure_call l = 8 * l.levels + 4

abbrev pub decreases-minus : goal.decreases-minus
decreases-minus l = 8 * l.levels + 2

abbrev pub decreases-negation : goal.decreases-negation
decreases-negation l = 8 * l.levels + 2

abbrev pub decreases-pick : goal.decreases-pick
decreases-pick l = 8 * l.levels + 2

abbrev pub decreases-join_value : goal.decreases-join_value
decreases-join_value l = 8 * l.levels + 2

abbrev pub decreases-join_test : goal.decreases-join_test
decreases-join_test l = 8 * l.levels + 3

abbrev pub decreases-join : goal.decreases-join
decreases-join l = 8 * l.levels + 4

abbrev pub decreases-joined : goal.decreases-joined
decreases-joined l = 8 * l.levels + 5

abbrev pub decreases-inside : goal.decreases-inside
decreases-inside l = 8 * l.levels + 6

abbrev pub decreases-opened : goal.decreases-opened
decreases-opened l = 8 * l.levels + 7

abbrev pub decreases-index : goal.decreases-index
decreases-index l = 8 * l.levels + 2

abbrev pub decreases-tail : goal.decreases-tail
decreases-tail l = 8 * l.levels + 3

abbrev pub decreases-leaf : goal.decreases-leaf
decreases-leaf l = 8 * l.levels + 4

abbrev pub decreases-cast_leaf : goal.decreases-cast_leaf
decreases-cast_leaf l = 8 * l.levels + 5
