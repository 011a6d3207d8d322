use Rattle.std.proofs.Common.{arith, length, ◌<◌, ap, ◌∙◌, refl, map, List}
use Rattle.c_semantics.specs.Machine.{is_interface}
use Rattle.c_syntax.specs.Outputs.{numbers_from, output_name}
use Rattle.c_syntax.specs.Plain.{program_tree}
use Rattle.c_syntax.specs.RootFields.{field_position}
use Rattle.c_syntax.specs.declared.program.Procedure.{Procedure}
use Rattle.c_interpreter.specs.Layouts.{layouts_of}
use Rattle.c_interpreter.specs.Numbering.{counts_of}
use Rattle.c_interpreter.proofs.Calling.{counts_are}
use Rattle.c_interpreter.proofs.RootLaws.{start_below, tables_are}
use Rattle.c_interpreter.proofs.roots.tables_of.Goals as goal

pub index-requires : goal.index-requires
index-requires c =
    let h : c.procedure_position-start.result < length c.args.program.now.procedures.items =
    start_below (program_tree c.args.program.now) c.args.program.now.procedures.items _ c.requires.lawful refl
    c.procedure_position-start.ensures in
    omega (arith, c.args.program.now.procedures.ok.0)

pub returns-clause-tables : goal.returns-clause-tables
returns-clause-tables c =
    tables_are (program_tree c.args.program.now) c.args.program.now.procedures.items _ _ _ _ _ c.args.count _
    c.index.result.now c.requires.lawful refl (c.in_ok-layouts.ensures ∙ ap (layouts_of _) c.deref.ensures.value)
    (c.in_ok-logged.ensures
    ∙ ap (λ (xs : List Procedure). map (λ q. is_interface q.name) xs) c.deref-2.ensures.value)
    c.procedure_position-start.ensures c.procedure_position-step.ensures c.index.ensures refl
    (c.in_ok-outputs.ensures
    ∙ ap (λ fs. map (field_position fs) (map output_name (numbers_from 1 c.args.count))) c.fields_of.ensures)
    c.requires.count

pub returns-clause-counts : goal.returns-clause-counts
returns-clause-counts c =
    let tables =
    tables_are (program_tree c.args.program.now) c.args.program.now.procedures.items _ _ _ _ _ c.args.count _
    c.index.result.now c.requires.lawful refl (c.in_ok-layouts.ensures ∙ ap (layouts_of _) c.deref.ensures.value)
    (c.in_ok-logged.ensures
    ∙ ap (λ (xs : List Procedure). map (λ q. is_interface q.name) xs) c.deref-2.ensures.value)
    c.procedure_position-start.ensures c.procedure_position-step.ensures c.index.ensures refl
    (c.in_ok-outputs.ensures
    ∙ ap (λ fs. map (field_position fs) (map output_name (numbers_from 1 c.args.count))) c.fields_of.ensures)
    c.requires.count in
    counts_are (program_tree c.args.program.now) _ _ c.requires.lawful (c.in_ok-counts.ensures
    ∙ ap (counts_of _) c.deref-3.ensures.value) tables.root_is
