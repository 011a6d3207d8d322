use Rattle.std.proofs.Common.{◌≡◌, ℕ, List, [], IfOk, filter, length, get_or, arith, subst, ap, ◌∙◌}
use Rattle.std.specs.List.{range_with_len}
use Rattle.modules_schedule.specs.SystemSchedule.{SystemSchedule}
use Rattle.emit_system_spec.specs.Groups.{has_some}
use Rattle.emit_layout_tables.proofs.groups.code_groups.Goals as goal

pub groups_with_nodes-requires : goal.groups_with_nodes-requires
groups_with_nodes-requires c =
    let long = ap length (c.as_slice.ensures.value ∙ ap (λ (s : SystemSchedule). s.groups) c.schedule.view_is) in
    omega (arith, long, c.requires)

pub returns : goal.returns
returns c =
    let groups = c.as_slice.ensures.value ∙ ap (λ (s : SystemSchedule). s.groups) c.schedule.view_is in
    subst (λ (gs : List (List ℕ)). IfOk c.groups_with_nodes.result (λ v. v.items
    ≡ filter (λ g. has_some (get_or gs g [])) (range_with_len 0 (length gs)))) groups c.groups_with_nodes.ensures
