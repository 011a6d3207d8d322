use Rattle.c_grammar.specs.Parsing.{params_step}
use Rattle.c_expressions.specs.Limited.{limits_of}
use Rattle.c_grammar.specs.WrittenTrees.{param_of}
use Rattle.c_parser.proofs.Lists.{more-is, going-begins, going-pushed}
use Rattle.c_parser.proofs.params.params.Goals as goal

pub loop-params-init : goal.loop-params-init
loop-params-init c =
    going-begins (params_step c.args.reader.last (limits_of c.args.reader.limits)) param_of c.new-params.result.items
    c.new-params.result.len c.args.tokens c.new-params.ensures.items c.new-params.ensures.len

pub loop-params-smaller : goal.loop-params-smaller
loop-params-smaller c =
    (c.lists_continue.ensures.params c.args.reader.last (limits_of c.args.reader.limits)).fewer c.len.result
    c.loop-params.rest (param_of c.in-Some.param) c.in_ok-param.later
    (more-is param_of c.in_ok-param.param c.in-Some.param c.in_ok-param.later _ c.in_ok-param.ensures c.in-Some.is)

pub loop-params-preserved : goal.loop-params-preserved
loop-params-preserved c =
    going-pushed param_of c.loop-params.params.items c.push.new.self.items c.in-Some.param c.loop-params.params.len
    c.len.result c.push.new.self.len c.in_ok-param.later
    (c.lists_continue.ensures.params c.args.reader.last (limits_of c.args.reader.limits)) c.loop-params.invariant
    c.in_ok-push.ensures.items c.len.ensures c.in_ok-push.ensures.len
    (more-is param_of c.in_ok-param.param c.in-Some.param c.in_ok-param.later _ c.in_ok-param.ensures c.in-Some.is)
