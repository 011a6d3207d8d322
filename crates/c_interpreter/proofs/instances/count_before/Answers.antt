use Rattle.std.proofs.Common.{ap, ◌∙◌, refl}
use Rattle.c_syntax.specs.declared.program.Field.{Field}
use Rattle.c_interpreter.proofs.Numbered.{number_uncounted, array_uncounted, struct_counted}
use Rattle.c_interpreter.proofs.instances.count_before.Goals as goal

pub returns-in-Number : goal.returns-in-Number
returns-in-Number c =
    number_uncounted c.args.counts.now c.args.fields.now c.args.position c.index-fields-position.result
    c.in-Number.field-0 c.requires.inside c.index-fields-position.is
    (ap (λ (f : Field). f.kind) c.index-fields-position.is ∙ c.in-Number.is)

pub returns-in-Array : goal.returns-in-Array
returns-in-Array c =
    array_uncounted c.args.counts.now c.args.fields.now c.args.position c.index-fields-position.result
    c.in-Array.field-0 c.in-Array.field-1 c.requires.inside c.index-fields-position.is
    (ap (λ (f : Field). f.kind) c.index-fields-position.is ∙ c.in-Array.is)

pub returns-in-Struct : goal.returns-in-Struct
returns-in-Struct c =
    struct_counted c.args.counts.now c.args.fields.now _ c.args.position c.in-Struct.field-0
    c.index-fields-position.result c.fields_count.result c.requires.inside c.index-fields-position.is
    (ap (λ (f : Field). f.kind) c.index-fields-position.is ∙ c.in-Struct.is) refl c.fields_count.ensures.counted
    c.fields_count.ensures.too_many c.requires.few
