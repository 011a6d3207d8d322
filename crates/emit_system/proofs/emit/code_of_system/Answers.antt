use Rattle.std.proofs.Common.{map}
use Rattle.c_syntax.specs.Plain.{procedure_tree}
use Rattle.emit_system.proofs.WholeCode.{code_is}
use Rattle.emit_system.proofs.emit.code_of_system.Goals as goal

pub returns : goal.returns
returns c =
    let of = c.args.layout.now in
    code_is of.local of.profile of.schedule
    c.in_ok-structure.field-0 c.in_ok-output_fields.field-0.items (map procedure_tree c.in_ok-procedures.field-0.items)
    c.in_ok-structure.ensures c.in_ok-output_fields.ensures c.in_ok-procedures.ensures
