use Rattle.std.proofs.Common.{length, map, suc, vec_len}
use Rattle.c_grammar.specs.Parsing.{many, pure_params_step}
use Rattle.c_expressions.specs.Gives.{behind}
use Rattle.c_expressions.specs.Limited.{limits_of}
use Rattle.c_grammar.specs.WrittenTrees.{pure_param_of}
use Rattle.c_parser.proofs.Lists.{Going}
use Rattle.c_parser.proofs.params.later_pure_params.Given as goal

abbrev pub invariant-loop-params : goal.invariant-loop-params
invariant-loop-params l =
    Going (pure_params_step l.reader.last (limits_of l.reader.limits))
    (behind (map pure_param_of l.initial.params.items)
    (many (pure_params_step l.reader.last (limits_of l.reader.limits)) (suc (length l.initial.rest))
    (vec_len l.initial.params) l.initial.rest)) (map pure_param_of l.params.items) (vec_len l.params) l.rest

abbrev pub decreases-loop-params : goal.decreases-loop-params
decreases-loop-params l = length l.rest
