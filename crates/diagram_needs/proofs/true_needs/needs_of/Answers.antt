use Rattle.std.proofs.Common.{◌∙◌, ◌<◌, ◌≤◌, List, All, length, ap, subst, sym}
use Rattle.std.proofs.lemmas.Result.{IfOk-weaker}
use Rattle.diagram_meaning.specs.declared.table.Row.{Row}
use Rattle.diagram_meaning.specs.Rows.{outports_of, system_control}
use Rattle.diagram_meaning.specs.RowTable.{RowTable}
use Rattle.diagram_meaning.specs.Needs.{AreTrueNeeds}
use Rattle.diagram_meaning.specs.ResolvedTree.{ResolvedTree, IsResolvedTree, diagram_of}
use Rattle.base_core.specs.Ports.{control_mask}
use Rattle.diagram_needs.proofs.OutportSteps.{AreMasksAt, outports-inside, needs-are}
use Rattle.diagram_needs.proofs.true_needs.needs_of.Goals as goal

pub outports-requires : goal.outports-requires
outports-requires c =
    let rows_is = c.as_slice-rows.ensures.value
    ∙ ap (λ (t : RowTable). t.rows) (c.behind-r.view_is ∙ c.table.ensures.table)
    ∙ ap (λ (v : ResolvedTree). v.tree.table.rows) c.r.view_is in
    subst (λ (l : List Row). length l ≤ 20000) (sym rows_is) (subst IsResolvedTree c.r.view_is c.r.invariant).tree.table.nested.at_most

pub masks_at-requires : goal.masks_at-requires
masks_at-requires c =
    let d = diagram_of c.args.r.now in
    let rows_is = c.as_slice-rows.ensures.value
    ∙ ap (λ (t : RowTable). t.rows) (c.behind-r.view_is ∙ c.table.ensures.table)
    ∙ ap (λ (v : ResolvedTree). v.tree.table.rows) c.r.view_is in
    let own = c.deref-2.ensures.value ∙ c.in_ok-own.ensures ∙ ap (λ (l : List Row). outports_of l c.args.system) rows_is in
    let size = ap length c.deref.ensures.value ∙ c.in_ok-reached.ensures.len in
    subst (λ n. All (λ b. b < n) c.deref-2.result.now) (sym size)
    (subst (All (λ b. b < length d.rows)) (sym own) (outports-inside d.rows c.args.system))

pub returns : goal.returns
returns c =
    let d = diagram_of c.args.r.now in
    let rows_is = c.as_slice-rows.ensures.value
    ∙ ap (λ (t : RowTable). t.rows) (c.behind-r.view_is ∙ c.table.ensures.table)
    ∙ ap (λ (v : ResolvedTree). v.tree.table.rows) c.r.view_is in
    let own = c.deref-2.ensures.value ∙ c.in_ok-own.ensures ∙ ap (λ (l : List Row). outports_of l c.args.system) rows_is in
    let control = c.control_at-control.ensures ∙ ap (λ (l : List Row). control_mask (system_control l c.args.system)) rows_is in
    IfOk-weaker c.masks_at.result
    (λ v. AreMasksAt c.deref.result.now c.control_at-control.result c.deref-2.result.now v.items)
    (λ v. AreTrueNeeds d c.args.system v.items)
    (λ v h. needs-are d c.args.system c.in_ok-reached.reached.items v.items c.in_ok-reached.ensures
    (subst (λ l. AreMasksAt l (control_mask (system_control d.rows c.args.system))
    (outports_of d.rows c.args.system) v.items) c.deref.ensures.value
    (subst (λ n. AreMasksAt c.deref.result.now n (outports_of d.rows c.args.system) v.items) control
    (subst (λ l. AreMasksAt c.deref.result.now c.control_at-control.result l v.items) own h))))
    c.masks_at.ensures
