use Rattle.std.proofs.Common.{length, map, suc}
use Rattle.c_grammar.specs.Parsing.{many, structs_step}
use Rattle.c_expressions.specs.Limited.{limits_of}
use Rattle.c_grammar.specs.WrittenTrees.{struct_of}
use Rattle.c_parser.proofs.Lists.{Going}
use Rattle.c_parser.proofs.file.structs.Given as goal

abbrev pub invariant-loop-structs : goal.invariant-loop-structs
invariant-loop-structs l =
    Going (structs_step l.reader.last (limits_of l.reader.limits))
    (many (structs_step l.reader.last (limits_of l.reader.limits)) (suc (length l.initial.rest)) 0 l.initial.rest)
    (map struct_of l.structs.items) 0 l.rest

abbrev pub decreases-loop-structs : goal.decreases-loop-structs
decreases-loop-structs l = length l.rest
