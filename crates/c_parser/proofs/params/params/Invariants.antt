use Rattle.std.proofs.Common.{length, map, suc, vec_len}
use Rattle.c_grammar.specs.Parsing.{many, params_step}
use Rattle.c_expressions.specs.Limited.{limits_of}
use Rattle.c_grammar.specs.WrittenTrees.{param_of}
use Rattle.c_parser.proofs.Lists.{Going}
use Rattle.c_parser.proofs.params.params.Given as goal

abbrev pub invariant-loop-params : goal.invariant-loop-params
invariant-loop-params l =
    Going (params_step l.reader.last (limits_of l.reader.limits))
    (many (params_step l.reader.last (limits_of l.reader.limits)) (suc (length l.initial.rest)) 0 l.initial.rest)
    (map param_of l.params.items) (vec_len l.params) l.rest

abbrev pub decreases-loop-params : goal.decreases-loop-params
decreases-loop-params l = length l.rest
