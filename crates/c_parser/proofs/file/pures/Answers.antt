use Rattle.c_grammar.specs.Parsing.{pures_step}
use Rattle.c_expressions.specs.Limited.{limits_of}
use Rattle.c_grammar.specs.WrittenTrees.{pure_of}
use Rattle.c_parser.proofs.Lists.{more-is, going-begins, going-pushed}
use Rattle.c_parser.proofs.file.pures.Goals as goal

pub loop-pures-init : goal.loop-pures-init
loop-pures-init c =
    going-begins (pures_step c.args.reader.last (limits_of c.args.reader.limits)) pure_of c.new-pures.result.items
    c.new-pures.result.len c.args.tokens c.new-pures.ensures.items c.new-pures.ensures.len

pub loop-pures-smaller : goal.loop-pures-smaller
loop-pures-smaller c =
    (c.lists_continue.ensures.pures c.args.reader.last (limits_of c.args.reader.limits)).fewer c.len.result
    c.loop-pures.rest (pure_of c.in-Some.pure) c.in_ok-pure.later
    (more-is pure_of c.in_ok-pure.pure c.in-Some.pure c.in_ok-pure.later _ c.in_ok-pure.ensures c.in-Some.is)

pub loop-pures-preserved : goal.loop-pures-preserved
loop-pures-preserved c =
    going-pushed pure_of c.loop-pures.pures.items c.push.new.self.items c.in-Some.pure c.loop-pures.pures.len
    c.len.result c.push.new.self.len c.in_ok-pure.later
    (c.lists_continue.ensures.pures c.args.reader.last (limits_of c.args.reader.limits)) c.loop-pures.invariant
    c.in_ok-push.ensures.items c.len.ensures c.in_ok-push.ensures.len
    (more-is pure_of c.in_ok-pure.pure c.in-Some.pure c.in_ok-pure.later _ c.in_ok-pure.ensures c.in-Some.is)
