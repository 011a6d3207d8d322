use Rattle.std.proofs.Common.{◌≡◌, ◌<◌, length, All, map, subst, sym, ap, ◌∙◌, arith}
use Rattle.std.specs.List.{range_with_len}
use Rattle.std.proofs.lemmas.List.FromFn.{length-map-range_with_len}
use Rattle.std.proofs.lemmas.Result.{IfOk-weaker}
use Rattle.base_graph.specs.OneOrder.{IsOrder}
use Rattle.modules_clusters.specs.Grouping.{AreGroups}
use Rattle.modules_profile.specs.SystemNodes.{SystemNodes}
use Rattle.modules_profile.specs.SystemProfile.{SystemProfile}
use Rattle.modules_schedule.specs.Scheduling.{schedule_for}
use Rattle.emit_system_spec.specs.Schedules.{giving_function as function_giving, IsScheduleOf}
use Rattle.emit_schedules.proofs.ScheduleSteps.{outputs-many, outputs-below, order-below, nodes-grouped, groups-few, groups-below, scheduled}
use Rattle.emit_schedules.proofs.schedules.schedule_of_system.Goals as goal

pub clusters-requires-clause-len : goal.clusters-requires-clause-len
clusters-requires-clause-len c =
    ap length (c.deref-2.ensures.value ∙ c.in_ok-giving.ensures.is)
    ∙ length-map-range_with_len (function_giving c.args.profile.now) 0 c.len.result
    ∙ c.len.ensures ∙ c.nodes.inside.outputs.ok.0 ∙ ap length (sym c.deref.ensures.value)

pub clusters-requires-clause-nodes : goal.clusters-requires-clause-nodes
clusters-requires-clause-nodes c =
    subst (All (λ o. o < c.nodes.inside.graph.n)) (sym c.deref.ensures.value)
    (subst (λ (s : SystemNodes). All (λ o. o < s.graph.n) s.outputs) (sym c.nodes.view_is)
    (outputs-below c.args.local.now c.args.nodes.now c.requires.nodes))

pub groups_of-requires : goal.groups_of-requires
groups_of-requires c =
    let many = ap length c.deref-3.ensures.value ∙ c.in_ok-held.ensures.one_each in
    let few = c.nodes_are_numbered.ensures in
    omega (arith, many, few)

pub schedule_of-requires-clause-nodes : goal.schedule_of-requires-clause-nodes
schedule_of-requires-clause-nodes c =
    subst (All (λ k. k < length c.in_ok-groups.groups.of)) (sym c.deref-4.ensures.value)
    (order-below c.nodes.inside.graph c.in_ok-order.order.items (length c.in_ok-groups.groups.of) c.in_ok-order.ensures
    (nodes-grouped c.deref-3.result.now c.in_ok-groups.groups c.in_ok-groups.ensures ∙ ap length c.deref-3.ensures.value
    ∙ c.in_ok-held.ensures.one_each))

pub schedule_of-requires-clause-groups : goal.schedule_of-requires-clause-groups
schedule_of-requires-clause-groups c = groups-below c.deref-3.result.now c.in_ok-groups.groups c.in_ok-groups.ensures

pub schedule_of-requires-clause-numbered : goal.schedule_of-requires-clause-numbered
schedule_of-requires-clause-numbered c =
    let many = ap length c.deref-3.ensures.value ∙ c.in_ok-held.ensures.one_each in
    let few = c.nodes_are_numbered.ensures in
    let short = groups-few c.deref-3.result.now c.in_ok-groups.groups c.in_ok-groups.ensures in
    omega (arith, many, few, short)

pub returns : goal.returns
returns c =
    let outputs : c.deref.result.now ≡ c.args.nodes.now.outputs =
    c.deref.ensures.value ∙ ap (λ (s : SystemNodes). s.outputs) c.nodes.view_is in
    let count : c.len.result ≡ length c.args.nodes.now.outputs =
    c.len.ensures ∙ c.nodes.inside.outputs.ok.0 ∙ ap (λ (s : SystemNodes). length s.outputs) c.nodes.view_is in
    let giving =
    c.deref-2.ensures.value ∙ c.in_ok-giving.ensures.is
    ∙ ap (λ n. map (function_giving c.args.profile.now) (range_with_len 0 n))
    (count ∙ outputs-many c.args.local.now c.args.nodes.now c.requires.nodes) in
    IfOk-weaker c.schedule_of.result (λ s. s ≡ schedule_for c.deref-4.result.now c.in_ok-groups.groups c.len-2.result)
    (IsScheduleOf c.args.local.now c.args.profile.now)
    (λ s made. scheduled c.args.local.now c.args.profile.now c.args.nodes.now c.nodes.inside.graph c.deref.result.now c.deref-2.result.now
    c.in_ok-held.held.items c.in_ok-groups.groups c.deref-4.result.now c.len-2.result s
    c.requires.nodes (ap (λ (t : SystemNodes). t.graph) c.nodes.view_is) outputs giving c.in_ok-held.ensures
    (subst (λ sets. AreGroups sets c.in_ok-groups.groups) c.deref-3.ensures.value c.in_ok-groups.ensures)
    (subst (λ ks. IsOrder c.nodes.inside.graph ks) (sym c.deref-4.ensures.value) c.in_ok-order.ensures)
    (c.len-2.ensures ∙ c.profile.inside.functions.ok.0 ∙ ap (λ (p : SystemProfile). length p.functions) c.profile.view_is) made)
    c.schedule_of.ensures
