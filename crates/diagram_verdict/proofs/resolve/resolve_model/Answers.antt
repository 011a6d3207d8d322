use Rattle.std.proofs.Common.{◌≡◌, sym, subst}
use Rattle.mdl_tree.specs.Values.{section_tree}
use Rattle.diagram_verdict.specs.Faults.{as_built_fault}
use Rattle.diagram_verdict.specs.TreeVerdict.{IsTreeFaultOf}
use Rattle.diagram_verdict.proofs.lemmas.Errors.{error-is}
use Rattle.diagram_verdict.proofs.FaultLaws.{tree-fault, type-fault, time-fault}
use Rattle.diagram_verdict.proofs.resolve.resolve_model.Goals as goal

pub returns-in_err-tree-clause-fault : goal.returns-in_err-tree-clause-fault
returns-in_err-tree-clause-fault c =
    let items = (section_tree c.args.file.now).items in
    error-is (λ given. given ≡ as_built_fault c.in_err-tree.field-0.0) (IsTreeFaultOf items)
    (λ given e. subst (IsTreeFaultOf items) (sym e)
    (tree-fault items c.in_err-tree.field-0.0 c.in_err-tree.ensures.fault))
    c.from_residual.result c.from_residual.ensures.1

pub returns-in_err-types-clause-fault : goal.returns-in_err-types-clause-fault
returns-in_err-types-clause-fault c =
    let items = (section_tree c.args.file.now).items in
    error-is (λ given. given ≡ as_built_fault c.in_err-types.field-0.0) (IsTreeFaultOf items)
    (λ given e. subst (IsTreeFaultOf items) (sym e)
    (type-fault items c.in_ok-tree.tree.table c.in_err-types.field-0.0
    (record { unrefused = c.in_ok-tree.ensures.accepted; table_of = c.in_ok-tree.ensures.table })
    c.in_err-types.ensures.refused))
    c.from_residual-in_err-types.result c.from_residual-in_err-types.ensures.1

pub returns-in_err-times-clause-fault : goal.returns-in_err-times-clause-fault
returns-in_err-times-clause-fault c =
    let items = (section_tree c.args.file.now).items in
    error-is (λ given. given ≡ as_built_fault c.in_err-times.field-0.0) (IsTreeFaultOf items)
    (λ given e. subst (IsTreeFaultOf items) (sym e)
    (time-fault items c.in_ok-tree.tree.table c.in_err-times.field-0.0
    (record { unrefused = c.in_ok-tree.ensures.accepted; table_of = c.in_ok-tree.ensures.table })
    c.in_ok-types.ensures.types.accepted c.in_err-times.ensures.refused))
    c.from_residual-in_err-times.result c.from_residual-in_err-times.ensures.1
