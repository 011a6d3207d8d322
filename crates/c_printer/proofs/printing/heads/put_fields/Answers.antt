use Rattle.std.proofs.Common.{sym, ◌∙◌, ap, subst, ◌++◌, ◌<◌, ◌≤◌, map}
use Rattle.std.proofs.lemmas.List.{length-map}
use Rattle.c_syntax.specs.Plain.{program_tree}
use Rattle.c_syntax.specs.PlainField.{field_tree, field_trees}
use Rattle.c_printer.specs.Lines.{noted_line}
use Rattle.c_printer.specs.Printing.{field_bytes, noted_field_bytes}
use Rattle.c_printer.proofs.lemmas.ItemTexts.{numbered-put, numbered-done}
use Rattle.c_printer.proofs.lemmas.Lookups.{map_at}
use Rattle.c_printer.proofs.printing.heads.put_fields.Goals as goal

pub loop-k-preserved : goal.loop-k-preserved
loop-k-preserved c =
    let p = program_tree c.args.program.now in
    let on = map (λ note. note.items) c.args.notes.now in
    let fields = c.args.fields.now in
    let f = c.index-fields-k.result in
    let k = c.loop-k.k in
    numbered-put (noted_field_bytes p on) (field_trees fields) k (field_tree f) c.args.out.now.items c.loop-k.out.items
    c.put_field.new.out.items (subst (λ n. k < n) (sym (length-map fields field_tree)) c.loop-k-test.true)
    (sym (map_at field_tree fields k f (field_tree f) c.loop-k-test.true c.index-fields-k.is)) c.loop-k.invariant
    (c.in_ok-put_field.ensures
    ∙ ap (λ note. c.loop-k.out.items ++ noted_line 4 note (field_bytes p (field_tree f))) c.note_at.ensures)

pub returns : goal.returns
returns c =
    let p = program_tree c.args.program.now in
    let on = map (λ note. note.items) c.args.notes.now in
    let fields = c.args.fields.now in
    let k = c.loop-k.k in
    numbered-done (noted_field_bytes p on) (field_trees fields) k c.args.out.now.items c.loop-k.out.items
    (subst (λ n. n ≤ k) (sym (length-map fields field_tree)) c.loop-k-test.false) c.loop-k.invariant
