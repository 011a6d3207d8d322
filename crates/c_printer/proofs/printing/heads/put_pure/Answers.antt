use Rattle.std.proofs.lemmas.Result.{IfOk-equal}
use Rattle.c_syntax.specs.Plain.{pure_tree, program_tree}
use Rattle.c_printer.proofs.PrintedLists.{pure_bytes-put}
use Rattle.c_printer.proofs.printing.heads.put_pure.Goals as goal

pub returns : goal.returns
returns c =
    IfOk-equal c.put-2.result _ _ _ c.put-2.ensures
    (pure_bytes-put (program_tree c.args.program.now) (pure_tree c.args.pure.now) c.deref.result.now
    c.args.out.now.items c.put_pure_head.new.out.items c.put.new.out.items c.put_expr.new.out.items
    c.in_ok-put_pure_head.ensures c.in_ok-put.ensures c.in_ok-put_expr.ensures c.deref.ensures.value)
