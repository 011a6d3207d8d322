use Rattle.std.proofs.Common.{ap, ◌∙◌, ◌++◌}
use Rattle.std.proofs.lemmas.Result.{IfOk-equal}
use Rattle.c_syntax.specs.Plain.{expr_tree}
use Rattle.c_printer.specs.Lines.{noted_line}
use Rattle.c_printer.specs.Printing.{item_store_bytes}
use Rattle.c_printer.specs.VocabularyOf.{vocabulary_of}
use Rattle.c_printer.proofs.EndedLines.{line-put}
use Rattle.c_printer.proofs.printing.body.put_set_at.Goals as goal

pub returns : goal.returns
returns c =
    let code = item_store_bytes (vocabulary_of c.args.scope.now) c.args.field (expr_tree c.args.index.now) (expr_tree c.args.value.now) in
    IfOk-equal c.end_line.result _ _ _
    (line-put c.end_line.result c.args.margin c.len-code_at.result c.args.out.now.items c.put_margin.new.out.items code
    c.put_item_store.new.out.items c.end_line.new.out.items c.note_at-note.result.now c.in_ok-put_margin.ensures (c.len-code_at.ensures ∙ c.put_margin.new.out.ok.0)
    c.in_ok-put_item_store.ensures c.end_line.ensures)
    (ap (λ note. c.args.out.now.items ++ noted_line c.args.margin note code) c.note_at-note.ensures)
