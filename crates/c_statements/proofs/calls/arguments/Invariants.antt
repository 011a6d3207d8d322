use Rattle.std.proofs.Common.{length, map, suc}
use Rattle.c_grammar.specs.Parsing.{many, arguments_step}
use Rattle.c_expressions.specs.Limited.{limits_of}
use Rattle.c_grammar.specs.WrittenTrees.{argument_of}
use Rattle.c_statements.proofs.Lists.{Going}
use Rattle.c_statements.proofs.calls.arguments.Given as goal

abbrev pub invariant-loop-arguments : goal.invariant-loop-arguments
invariant-loop-arguments l =
    Going (arguments_step l.reader.last (limits_of l.reader.limits))
    (many (arguments_step l.reader.last (limits_of l.reader.limits)) (suc (length l.initial.rest)) 0 l.initial.rest)
    (map argument_of l.arguments.items) 0 l.rest

abbrev pub decreases-loop-arguments : goal.decreases-loop-arguments
decreases-loop-arguments l = length l.rest
