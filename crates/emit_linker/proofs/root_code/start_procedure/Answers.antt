use Rattle.std.proofs.Common.{◌≡◌, IfOk, [], map, subst, ap}
use Rattle.c_syntax.specs.Plain.{param_trees, procedure_tree, stmt_tree}
use Rattle.c_syntax.specs.Tree.{ProcedureTree}
use Rattle.emit_shape.specs.Names.{root_start_name}
use Rattle.emit_linker.specs.Places.{trees}
use Rattle.emit_linker.proofs.RootCode.{procedure-is}
use Rattle.emit_linker.proofs.root_code.start_procedure.Goals as goal

pub returns : goal.returns
returns c =
    subst (λ (q : ProcedureTree). IfOk c.procedure.result (λ p. procedure_tree p ≡ q))
    (procedure-is (trees c.args.codes.now.list.now) root_start_name c.count.result (param_trees c.new.result.items) []
    (map stmt_tree c.in_ok-body.body.items) _ c.count.ensures (ap param_trees c.new.ensures.items) c.in_ok-body.ensures)
    c.procedure.ensures
