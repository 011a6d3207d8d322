use Rattle.std.proofs.Common.{length, map, suc, vec_len}
use Rattle.c_grammar.specs.Parsing.{many, pures_step}
use Rattle.c_expressions.specs.Limited.{limits_of}
use Rattle.c_grammar.specs.WrittenTrees.{pure_of}
use Rattle.c_parser.proofs.Lists.{Going}
use Rattle.c_parser.proofs.file.pures.Given as goal

abbrev pub invariant-loop-pures : goal.invariant-loop-pures
invariant-loop-pures l =
    Going (pures_step l.reader.last (limits_of l.reader.limits))
    (many (pures_step l.reader.last (limits_of l.reader.limits)) (suc (length l.initial.rest)) 0 l.initial.rest)
    (map pure_of l.pures.items) (vec_len l.pures) l.rest

abbrev pub decreases-loop-pures : goal.decreases-loop-pures
decreases-loop-pures l = length l.rest
