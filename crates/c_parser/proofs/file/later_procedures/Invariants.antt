use Rattle.std.proofs.Common.{length, map, suc}
use Rattle.c_grammar.specs.Parsing.{many, procedures_step}
use Rattle.c_expressions.specs.Gives.{behind}
use Rattle.c_expressions.specs.Limited.{limits_of}
use Rattle.c_grammar.specs.WrittenTrees.{procedure_of}
use Rattle.c_parser.proofs.Lists.{Going}
use Rattle.c_parser.proofs.file.later_procedures.Given as goal

abbrev pub invariant-loop-procedures : goal.invariant-loop-procedures
invariant-loop-procedures l =
    Going (procedures_step l.reader.last (limits_of l.reader.limits))
    (behind (map procedure_of l.initial.procedures.items)
    (many (procedures_step l.reader.last (limits_of l.reader.limits)) (suc (length l.initial.rest)) 0 l.initial.rest))
    (map procedure_of l.procedures.items) 0 l.rest

abbrev pub decreases-loop-procedures : goal.decreases-loop-procedures
decreases-loop-procedures l = length l.rest
