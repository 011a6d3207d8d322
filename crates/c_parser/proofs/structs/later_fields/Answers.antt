use Rattle.std.proofs.Common.{refl}
use Rattle.c_expressions.specs.Limited.{limits_of}
use Rattle.c_grammar.specs.WrittenTrees.{field_of}
use Rattle.c_parser.proofs.Lists.{more-is, going-pushed}
use Rattle.c_parser.proofs.structs.later_fields.Goals as goal

pub loop-fields-smaller : goal.loop-fields-smaller
loop-fields-smaller c =
    (c.lists_continue.ensures.fields c.args.reader.last (limits_of c.args.reader.limits)).fewer 0 c.loop-fields.rest
    (field_of c.in-Some.field) c.in_ok-field.later
    (more-is field_of c.in_ok-field.field c.in-Some.field c.in_ok-field.later _ c.in_ok-field.ensures c.in-Some.is)

pub loop-fields-preserved : goal.loop-fields-preserved
loop-fields-preserved c =
    going-pushed field_of c.loop-fields.fields.items c.push.new.self.items c.in-Some.field 0 0 0 c.in_ok-field.later
    (c.lists_continue.ensures.fields c.args.reader.last (limits_of c.args.reader.limits))
    c.loop-fields.invariant c.in_ok-push.ensures.items refl refl
    (more-is field_of c.in_ok-field.field c.in-Some.field c.in_ok-field.later _ c.in_ok-field.ensures c.in-Some.is)
