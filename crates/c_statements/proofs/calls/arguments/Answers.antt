use Rattle.std.proofs.Common.{refl}
use Rattle.c_grammar.specs.Parsing.{arguments_step}
use Rattle.c_expressions.specs.Limited.{limits_of}
use Rattle.c_grammar.specs.WrittenTrees.{argument_of}
use Rattle.c_statements.proofs.Lists.{more-is, going-begins, going-pushed}
use Rattle.c_statements.proofs.calls.arguments.Goals as goal

pub loop-arguments-init : goal.loop-arguments-init
loop-arguments-init c =
    going-begins (arguments_step c.args.reader.last (limits_of c.args.reader.limits)) argument_of
    c.new-arguments.result.items 0 c.args.tokens c.new-arguments.ensures.items refl

pub loop-arguments-smaller : goal.loop-arguments-smaller
loop-arguments-smaller c =
    (c.lists_continue.ensures.arguments c.args.reader.last (limits_of c.args.reader.limits)).fewer 0 c.loop-arguments.rest
    (argument_of c.in-Some.argument) c.in_ok-argument.later
    (more-is argument_of c.in_ok-argument.argument c.in-Some.argument c.in_ok-argument.later _ c.in_ok-argument.ensures
    c.in-Some.is)

pub loop-arguments-preserved : goal.loop-arguments-preserved
loop-arguments-preserved c =
    going-pushed argument_of c.loop-arguments.arguments.items c.push.new.self.items c.in-Some.argument 0 0 0
    c.in_ok-argument.later (c.lists_continue.ensures.arguments c.args.reader.last (limits_of c.args.reader.limits))
    c.loop-arguments.invariant c.in_ok-push.ensures.items refl refl
    (more-is argument_of c.in_ok-argument.argument c.in-Some.argument c.in_ok-argument.later _ c.in_ok-argument.ensures
    c.in-Some.is)
