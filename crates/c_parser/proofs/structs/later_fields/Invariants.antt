use Rattle.std.proofs.Common.{length, map, suc}
use Rattle.c_grammar.specs.Parsing.{many, fields_step}
use Rattle.c_expressions.specs.Gives.{behind}
use Rattle.c_expressions.specs.Limited.{limits_of}
use Rattle.c_grammar.specs.WrittenTrees.{field_of}
use Rattle.c_parser.proofs.Lists.{Going}
use Rattle.c_parser.proofs.structs.later_fields.Given as goal

abbrev pub invariant-loop-fields : goal.invariant-loop-fields
invariant-loop-fields l =
    Going (fields_step l.reader.last (limits_of l.reader.limits))
    (behind (map field_of l.initial.fields.items)
    (many (fields_step l.reader.last (limits_of l.reader.limits)) (suc (length l.initial.rest)) 0 l.initial.rest))
    (map field_of l.fields.items) 0 l.rest

abbrev pub decreases-loop-fields : goal.decreases-loop-fields
decreases-loop-fields l = length l.rest
