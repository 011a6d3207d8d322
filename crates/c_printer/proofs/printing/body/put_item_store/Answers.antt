use Rattle.std.proofs.lemmas.Result.{IfOk-equal}
use Rattle.c_syntax.specs.Plain.{expr_tree}
use Rattle.c_printer.specs.VocabularyOf.{vocabulary_of}
use Rattle.c_printer.proofs.PrintedLists.{item_store_bytes-put}
use Rattle.c_printer.proofs.printing.body.put_item_store.Goals as goal

pub returns : goal.returns
returns c =
    let v = vocabulary_of c.args.scope.now in
    IfOk-equal c.put_stored.result _ _ _ c.put_stored.ensures
    (item_store_bytes-put v c.args.field (expr_tree c.args.index.now)
    (expr_tree c.args.value.now) c.args.out.now.items c.put.new.out.items
    c.field_name.result.now c.put-2.new.out.items c.put-3.new.out.items c.put_expr.new.out.items
    c.put-4.new.out.items c.field_name.ensures c.in_ok-put.ensures c.in_ok-put-2.ensures
    c.in_ok-put-3.ensures c.in_ok-put_expr.ensures c.in_ok-put-4.ensures)
