use Rattle.std.proofs.Common.{◌<◌, List, All, length, subst, sym, ap, ◌∙◌}
use Rattle.std.proofs.lemmas.Result.{IfOk-weaker}
use Rattle.base_core.specs.declared.Control.{Control}
use Rattle.base_graph.specs.NeedsGraph.{NeedsGraph}
use Rattle.base_graph.specs.Masks.{AreMasks}
use Rattle.modules_profile.specs.declared.local.LocalRow.{LocalRow}
use Rattle.base_core.specs.Ports.{control_ports, ports_mask}
use Rattle.modules_profile.specs.NodeInputs.{AreInputBits, AreNodeInputs}
use Rattle.modules_profile.proofs.lemmas.InputMasks.{AreMasksAt}
use Rattle.modules_profile.proofs.NodeMasks.{outputs-below, inputs-are}
use Rattle.modules_profile.proofs.needs.output_needs.Goals as goal

pub masks-requires : goal.masks-requires
masks-requires c =
    ap length c.deref.ensures.value ∙ c.in_ok-source.ensures.len ∙ c.count.ensures ∙ ap length c.requires.nodes.list
    ∙ sym c.requires.nodes.count ∙ sym (ap (λ (g : NeedsGraph). g.n) c.graph-graph.ensures)

pub masks_at-requires : goal.masks_at-requires
masks_at-requires c =
    let size = ap length c.deref-2.ensures.value ∙ c.in_ok-reached.ensures.len ∙ ap (λ (g : NeedsGraph). g.n) c.graph-graph.ensures in
    subst (λ n. All (λ b. b < n) c.outputs.result.now) (sym size)
    (subst (All (λ b. b < c.args.nodes.now.graph.n)) (sym c.outputs.ensures)
    (outputs-below c.args.local.now c.requires.local c.args.nodes.now c.requires.nodes))

pub returns : goal.returns
returns c =
    let local = c.args.local.now in
    let nodes = c.args.nodes.now in
    let source = c.in_ok-source.source.items in
    let masks = c.in_ok-reached.reached.items in
    let count = c.count.ensures ∙ ap length c.requires.nodes.list ∙ sym c.requires.nodes.count in
    let own =
    subst (λ (rows : List LocalRow). AreInputBits rows nodes.graph.n source) c.rows.ensures
    (subst (λ n. AreInputBits c.rows.result.now n source) count c.in_ok-source.ensures) in
    let reached =
    subst (λ (g : NeedsGraph). AreMasks g source masks) c.graph-graph.ensures
    (subst (λ l. AreMasks c.graph-graph.result.now l masks) c.deref.ensures.value c.in_ok-reached.ensures) in
    let control = c.mask.ensures ∙ ap (λ (k : Control). ports_mask (control_ports k)) c.control.ensures in
    IfOk-weaker c.masks_at.result
    (λ v. AreMasksAt c.deref-2.result.now c.mask.result c.outputs.result.now v.items)
    (λ v. AreNodeInputs local v.items)
    (λ v h. inputs-are local c.requires.local nodes c.requires.nodes source masks own reached v.items
    (subst (λ l. AreMasksAt l (ports_mask (control_ports local.control)) nodes.outputs v.items) c.deref-2.ensures.value
    (subst (λ k. AreMasksAt c.deref-2.result.now k nodes.outputs v.items) control
    (subst (λ l. AreMasksAt c.deref-2.result.now c.mask.result l v.items) c.outputs.ensures h))))
    c.masks_at.ensures
