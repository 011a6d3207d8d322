use Rattle.std.proofs.Common.{◌≡◌, ◌∙◌, ℕ, List, ap, get_or, length, arith}
use Rattle.std.proofs.lemmas.List.{get_or_default}
use Rattle.std.proofs.lemmas.List.FromFn.{length-map-range_with_len}
use Rattle.c_syntax.specs.Plain.{procedure_tree}
use Rattle.c_syntax.specs.Tree.{ParamTree}
use Rattle.emit_system_spec.specs.EmittedCode.{group_params, group_procedure}
use Rattle.emit_nodes.proofs.lemmas.Loops.{mapped_more}
use Rattle.emit_system.proofs.GroupCalls.{get_or_mapped_range}
use Rattle.emit_system.proofs.procedures.push_groups.Goals as goal

pub bounds-wanted-group : goal.bounds-wanted-group
bounds-wanted-group c =
    let of = c.args.layout.now in
    let many : length c.args.wanted.now ≡ length of.schedule.groups =
    ap length c.requires.wanted ∙ length-map-range_with_len (group_params of.local of.profile of.schedule) 0 (length of.schedule.groups) in
    let below = c.requires.groups c.loop-group.group-index 0 c.loop-group-test.true in
    omega (arith, many, below)

pub group_procedure-requires-clause-params : goal.group_procedure-requires-clause-params
group_procedure-requires-clause-params c =
    let of = c.args.layout.now in
    let g : ℕ = get_or c.args.groups.now c.loop-group.group-index 0 in
    c.index-wanted-group.is ∙ ap (λ (ws : List (List ParamTree)). get_or ws g c.index-wanted-group.result) c.requires.wanted
    ∙ get_or_mapped_range (group_params of.local of.profile of.schedule) (length of.schedule.groups) g c.index-wanted-group.result
    (c.requires.groups c.loop-group.group-index 0 c.loop-group-test.true)

pub loop-group-preserved : goal.loop-group-preserved
loop-group-preserved c =
    let of = c.args.layout.now in
    let groups = c.args.groups.now in
    let k = c.loop-group.group-index in
    let g : ℕ = get_or groups k 0 in
    mapped_more procedure_tree (group_procedure of.local of.profile of.schedule) c.args.procedures.now.items
    c.loop-group.procedures.items c.push.new.self.items c.in_ok-group_procedure.field-0 groups k g
    c.loop-group-test.true (get_or_default groups k 0 g c.loop-group-test.true) c.in_ok-group_procedure.ensures
    c.loop-group.invariant c.in_ok-push.ensures.items
