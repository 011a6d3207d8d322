use Rattle.c_expressions.specs.Limited.{limits_of}
use Rattle.c_grammar.specs.WrittenTrees.{pure_param_of}
use Rattle.c_parser.proofs.Lists.{more-is, going-pushed}
use Rattle.c_parser.proofs.params.later_pure_params.Goals as goal

pub loop-params-smaller : goal.loop-params-smaller
loop-params-smaller c =
    (c.lists_continue.ensures.pure_params c.args.reader.last (limits_of c.args.reader.limits)).fewer c.len.result
    c.loop-params.rest (pure_param_of c.in-Some.param) c.in_ok-param.later
    (more-is pure_param_of c.in_ok-param.param c.in-Some.param c.in_ok-param.later _ c.in_ok-param.ensures c.in-Some.is)

pub loop-params-preserved : goal.loop-params-preserved
loop-params-preserved c =
    going-pushed pure_param_of c.loop-params.params.items c.push.new.self.items c.in-Some.param c.loop-params.params.len
    c.len.result c.push.new.self.len c.in_ok-param.later
    (c.lists_continue.ensures.pure_params c.args.reader.last (limits_of c.args.reader.limits)) c.loop-params.invariant
    c.in_ok-push.ensures.items c.len.ensures c.in_ok-push.ensures.len
    (more-is pure_param_of c.in_ok-param.param c.in-Some.param c.in_ok-param.later _ c.in_ok-param.ensures c.in-Some.is)
