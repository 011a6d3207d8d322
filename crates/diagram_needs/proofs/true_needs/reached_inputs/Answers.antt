use Rattle.std.proofs.Common.{◌∙◌, List, length, ap, subst, sym}
use Rattle.std.proofs.lemmas.Result.{IfOk-weaker}
use Rattle.base_graph.specs.Masks.{AreMasks}
use Rattle.diagram_meaning.specs.declared.table.Row.{Row}
use Rattle.diagram_meaning.specs.RowTable.{RowTable}
use Rattle.diagram_meaning.specs.ResolvedTree.{ResolvedTree, diagram_of}
use Rattle.diagram_needs.specs.TrueNeeds.{AreInputBits, AreReachedInputs}
use Rattle.diagram_needs.proofs.InputSteps.{reached-inputs}
use Rattle.diagram_needs.proofs.true_needs.reached_inputs.Goals as goal

pub masks-requires : goal.masks-requires
masks-requires c =
    let rows_is = c.as_slice-rows.ensures.value
    ∙ ap (λ (t : RowTable). t.rows) (c.behind-r.view_is ∙ c.table.ensures.table)
    ∙ ap (λ (v : ResolvedTree). v.tree.table.rows) c.r.view_is in
    ap length c.deref.ensures.value ∙ c.in_ok-bits.ensures.len ∙ ap length rows_is ∙ sym c.in_ok-g.ensures.inside.size

pub returns : goal.returns
returns c =
    let rows_is = c.as_slice-rows.ensures.value
    ∙ ap (λ (t : RowTable). t.rows) (c.behind-r.view_is ∙ c.table.ensures.table)
    ∙ ap (λ (v : ResolvedTree). v.tree.table.rows) c.r.view_is in
    let own =
    subst (λ (rows : List Row). AreInputBits rows c.args.system (length rows) c.in_ok-bits.bits.items) rows_is
    c.in_ok-bits.ensures in
    IfOk-weaker c.masks.result (λ v. AreMasks c.in_ok-g.g c.deref.result.now v.items)
    (λ v. AreReachedInputs (diagram_of c.args.r.now) c.args.system v.items)
    (λ v are. reached-inputs (diagram_of c.args.r.now) c.args.system c.in_ok-g.g c.in_ok-g.ensures.inside
    c.in_ok-bits.bits.items v.items own
    (subst (λ l. AreMasks c.in_ok-g.g l v.items) c.deref.ensures.value are))
    c.masks.ensures
