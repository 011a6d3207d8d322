use Rattle.std.proofs.Common.{◌≡◌, IfOk, List, [], map, subst, ap, ◌∙◌}
use Rattle.c_syntax.specs.Plain.{param_trees, procedure_tree, stmt_tree}
use Rattle.c_syntax.specs.Tree.{ParamTree, ProcedureTree, StmtTree}
use Rattle.emit_shape.specs.Assembled.{root_params}
use Rattle.emit_shape.specs.Names.{root_step_name}
use Rattle.emit_linker.specs.Places.{trees}
use Rattle.emit_linker.specs.Roots.{step_statements}
use Rattle.emit_linker.proofs.RootCode.{procedure-is}
use Rattle.emit_linker.proofs.root_code.step_procedure.Goals as goal

pub returns : goal.returns
returns c =
    let all = trees c.args.codes.now.list.now in
    let params = root_params [] c.args.root.now 0 in
    let statements : List ParamTree → List StmtTree = λ ps. step_statements all ps c.args.count c.args.hyper in
    subst (λ (q : ProcedureTree). IfOk c.procedure.result (λ p. procedure_tree p ≡ q))
    (procedure-is all root_step_name c.count.result (param_trees c.in_ok-params.params.items) params
    (map stmt_tree c.in_ok-body.body.items) (statements params) c.count.ensures c.in_ok-params.ensures
    (c.in_ok-body.ensures ∙ ap statements (ap param_trees c.deref.ensures.value ∙ c.in_ok-params.ensures)))
    c.procedure.ensures
