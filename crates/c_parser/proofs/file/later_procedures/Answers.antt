use Rattle.std.proofs.Common.{refl}
use Rattle.c_expressions.specs.Limited.{limits_of}
use Rattle.c_grammar.specs.WrittenTrees.{procedure_of}
use Rattle.c_parser.proofs.Lists.{more-is, going-pushed}
use Rattle.c_parser.proofs.file.later_procedures.Goals as goal

pub loop-procedures-smaller : goal.loop-procedures-smaller
loop-procedures-smaller c =
    (c.lists_continue.ensures.procedures c.args.reader.last (limits_of c.args.reader.limits)).fewer 0
    c.loop-procedures.rest (procedure_of c.in-Some.procedure) c.in_ok-procedure.later
    (more-is procedure_of c.in_ok-procedure.procedure c.in-Some.procedure c.in_ok-procedure.later _
    c.in_ok-procedure.ensures c.in-Some.is)

pub loop-procedures-preserved : goal.loop-procedures-preserved
loop-procedures-preserved c =
    going-pushed procedure_of c.loop-procedures.procedures.items c.push.new.self.items c.in-Some.procedure 0 0 0
    c.in_ok-procedure.later (c.lists_continue.ensures.procedures c.args.reader.last (limits_of c.args.reader.limits))
    c.loop-procedures.invariant c.in_ok-push.ensures.items refl refl
    (more-is procedure_of c.in_ok-procedure.procedure c.in-Some.procedure c.in_ok-procedure.later _
    c.in_ok-procedure.ensures c.in-Some.is)
