use Rattle.std.proofs.Common.{refl}
use Rattle.c_grammar.specs.Parsing.{structs_step}
use Rattle.c_expressions.specs.Limited.{limits_of}
use Rattle.c_grammar.specs.WrittenTrees.{struct_of}
use Rattle.c_parser.proofs.Lists.{more-is, going-begins, going-pushed}
use Rattle.c_parser.proofs.file.structs.Goals as goal

pub loop-structs-init : goal.loop-structs-init
loop-structs-init c =
    going-begins (structs_step c.args.reader.last (limits_of c.args.reader.limits)) struct_of c.new-structs.result.items 0
    c.args.tokens c.new-structs.ensures.items refl

pub loop-structs-smaller : goal.loop-structs-smaller
loop-structs-smaller c =
    (c.lists_continue.ensures.structs c.args.reader.last (limits_of c.args.reader.limits)).fewer 0 c.loop-structs.rest
    (struct_of c.in-Some.structure) c.in_ok-structure.later
    (more-is struct_of c.in_ok-structure.structure c.in-Some.structure c.in_ok-structure.later _
    c.in_ok-structure.ensures c.in-Some.is)

pub loop-structs-preserved : goal.loop-structs-preserved
loop-structs-preserved c =
    going-pushed struct_of c.loop-structs.structs.items c.push.new.self.items c.in-Some.structure 0 0 0
    c.in_ok-structure.later (c.lists_continue.ensures.structs c.args.reader.last (limits_of c.args.reader.limits))
    c.loop-structs.invariant c.in_ok-push.ensures.items refl refl
    (more-is struct_of c.in_ok-structure.structure c.in-Some.structure c.in_ok-structure.later _
    c.in_ok-structure.ensures c.in-Some.is)
