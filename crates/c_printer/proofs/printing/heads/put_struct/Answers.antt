use Rattle.std.proofs.Common.{◌∙◌, ap, map}
use Rattle.std.proofs.lemmas.Result.{IfOk-equal}
use Rattle.c_syntax.specs.Plain.{program_tree}
use Rattle.c_syntax.specs.Tree.{StructTree}
use Rattle.c_syntax.specs.PlainField.{field_trees}
use Rattle.c_printer.specs.Notes.{notes_seen}
use Rattle.c_printer.proofs.PrintedLists.{struct_bytes-put}
use Rattle.c_printer.proofs.printing.heads.put_struct.Goals as goal

pub returns : goal.returns
returns c =
    IfOk-equal c.put-5.result _ _ _ c.put-5.ensures
    (struct_bytes-put (program_tree c.args.program.now) (notes_seen c.args.notes.now) c.args.k c.args.def.now
    (map (λ note. note.items) c.on_fields.result.now) (field_trees c.deref.result.now) c.above_struct.result.now
    c.bytes.result.now c.args.out.now.items c.put.new.out.items c.put_note.new.out.items c.put-2.new.out.items
    c.put-3.new.out.items c.put-4.new.out.items c.put_fields.new.out.items c.in_ok-put.ensures c.in_ok-put_note.ensures
    c.in_ok-put-2.ensures c.in_ok-put-3.ensures c.in_ok-put-4.ensures c.in_ok-put_fields.ensures c.above_struct.ensures
    (c.bytes.ensures ∙ ap (λ (d : StructTree). d.name) c.def.view_is) c.on_fields.ensures
    (ap field_trees c.deref.ensures.value ∙ ap (λ (d : StructTree). d.fields) c.def.view_is))
