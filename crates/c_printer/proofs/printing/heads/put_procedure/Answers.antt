use Rattle.std.proofs.Common.{sym, ◌∙◌, ap, map}
use Rattle.std.proofs.lemmas.Simd.{map-map}
use Rattle.std.proofs.lemmas.Result.{IfOk-equal}
use Rattle.c_syntax.specs.Tree.{stmts_of_list}
use Rattle.c_syntax.specs.Plain.{stmt_tree, procedure_tree, program_tree}
use Rattle.c_syntax.specs.PlainField.{field_trees}
use Rattle.c_printer.specs.Notes.{notes_seen}
use Rattle.c_printer.proofs.PrintedLists.{procedure_bytes-put}
use Rattle.c_printer.proofs.printing.heads.put_procedure.Goals as goal

pub returns : goal.returns
returns c =
    let q = c.args.procedure.now in
    IfOk-equal c.put.result _ _ _ c.put.ensures
    (procedure_bytes-put (program_tree c.args.program.now) (notes_seen c.args.notes.now) c.args.k (procedure_tree q)
    (field_trees c.struct_fields.result.now) (map (λ x. x.0) c.deref.result.now)
    (map (λ note. note.items) c.on_fields.result.now) c.above_procedure.result.now c.args.out.now.items
    c.put_procedure_head.new.out.items c.put_stmts.new.out.items
    (stmts_of_list (map stmt_tree c.deref-2.result.now)) c.in_ok-put_procedure_head.ensures
    c.in_ok-put_stmts.ensures c.above_procedure.ensures c.on_fields.ensures c.struct_fields.ensures
    (ap (map (λ x. x.0)) c.deref.ensures.value
    ∙ sym (map-map (λ x. x.name) (λ x. record { name = x.0; type = x.1 }) q.params.items))
    (ap (λ ss. stmts_of_list (map stmt_tree ss)) c.deref-2.ensures.value))
