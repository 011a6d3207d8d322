use Rattle.std.proofs.Common.{◌≡◌, ◌∙◌, ℕ, All, List, ap, ap₂, filter, map, subst, sym, if◌then◌else◌}
use Rattle.std.specs.List.{enumerate_from}
use Rattle.diagram_meaning.specs.Rows.{is_triggered}
use Rattle.diagram_blocks.specs.Kinds.{is_delay}
use Rattle.modules_profile.specs.declared.local.ChildUse.{ChildUse}
use Rattle.modules_profile.specs.declared.local.LocalRow.{LocalRow}
use Rattle.modules_profile.specs.LocalSystem.{LocalSystem}
use Rattle.modules_schedule.specs.SystemSchedule.{SystemSchedule}
use Rattle.c_syntax.specs.Tree.{no_stmts, stmts_append, stmts_of_list}
use Rattle.emit_system_spec.specs.Emittable.{IsWritableRow}
use Rattle.emit_system_spec.specs.EmittedCode.{joined}
use Rattle.emit_system_spec.specs.Groups.{own_count}
use Rattle.emit_system_spec.specs.NodeCode.{code_at, memory_code, update_code, reset_code, trigger_code}
use Rattle.emit_system_spec.specs.Renewing.{counter_stores}
use Rattle.emit_nodes.specs.Code.{code_of}
use Rattle.emit_system.proofs.Pieces.{joined_six}
use Rattle.emit_system.proofs.update.update_body.Goals as goal

pub memories_code-requires : goal.memories_code-requires
memories_code-requires c =
    let opened = c.local.view_is ∙ c.local-local.ensures in
    subst (All (IsWritableRow c.args.layout.now.local))
    (sym (c.as_slice.ensures.value ∙ ap (λ (s : LocalSystem). s.rows) opened)) c.requires.rows

pub updates_code-requires-clause-children : goal.updates_code-requires-clause-children
updates_code-requires-clause-children c =
    c.as_slice-children.ensures.value ∙ ap (λ (s : LocalSystem). s.children) (c.local.view_is ∙ c.local-local.ensures)

pub resets_code-requires-clause-children : goal.resets_code-requires-clause-children
resets_code-requires-clause-children c =
    c.as_slice-children.ensures.value ∙ ap (λ (s : LocalSystem). s.children) (c.local.view_is ∙ c.local-local.ensures)

pub returns : goal.returns
returns c =
    let local = c.args.layout.now.local in
    let schedule = c.args.layout.now.schedule in
    let params = c.args.params.now in
    let count = own_count schedule in
    let opened = c.local.view_is ∙ c.local-local.ensures in
    let rows_are : c.as_slice.result.now ≡ local.rows = c.as_slice.ensures.value ∙ ap (λ (s : LocalSystem). s.rows) opened in
    let children_are : c.as_slice-children.result.now ≡ local.children = c.as_slice-children.ensures.value
    ∙ ap (λ (s : LocalSystem). s.children) opened in
    let nodes_are : c.numbers-update.result.now ≡ schedule.update = c.numbers-update.ensures
    ∙ ap (λ (s : SystemSchedule). s.update) (c.behind-layout.view_is ∙ c.schedule.ensures) in
    let nodes = c.in_ok-body.ensures ∙ ap (λ (ns : List ℕ). joined (map (code_at local count params) ns)) nodes_are in
    let memories = c.in_ok-memories_code.ensures
    ∙ ap (λ (rs : List LocalRow). joined (map (memory_code local params) (filter (λ r. is_delay r.op) rs))) rows_are in
    let updates = c.in_ok-updates_code.ensures
    ∙ ap (λ (us : List ChildUse). joined (map (update_code local count params) (enumerate_from 0 us))) children_are in
    let resets = c.in_ok-resets_code.ensures
    ∙ ap (λ (us : List ChildUse). joined (map (reset_code local count params) (enumerate_from 0 us))) children_are in
    joined_six (joined (map (code_at local count params) schedule.update))
    (joined (map (memory_code local params) (filter (λ r. is_delay r.op) local.rows)))
    (joined (map (update_code local count params) (enumerate_from 0 local.children)))
    (joined (map (reset_code local count params) (enumerate_from 0 local.children)))
    (if is_triggered local.control then trigger_code local params else no_stmts) (stmts_of_list (counter_stores local schedule))
    (code_of c.push_code.new.code.items) (code_of c.push_code-2.new.code.items) (code_of c.push_code-3.new.code.items)
    (code_of c.push_code-4.new.code.items) (code_of c.push_code-5.new.code.items)
    (c.in_ok-push_code.ensures ∙ ap₂ stmts_append nodes memories)
    (c.in_ok-push_code-2.ensures ∙ ap (stmts_append (code_of c.push_code.new.code.items)) updates)
    (c.in_ok-push_code-3.ensures ∙ ap (stmts_append (code_of c.push_code-2.new.code.items)) resets)
    (c.in_ok-push_code-4.ensures ∙ ap (stmts_append (code_of c.push_code-3.new.code.items)) c.in_ok-level_code.ensures)
    (c.in_ok-push_code-5.ensures ∙ ap (λ stores. stmts_append (code_of c.push_code-4.new.code.items)
    (stmts_of_list stores)) c.in_ok-counter_stores.ensures)
