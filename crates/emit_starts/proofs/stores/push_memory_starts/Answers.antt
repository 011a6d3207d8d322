use Rattle.std.proofs.Common.{◌≡◌, ◌∙◌, ◌++◌, All, List, ap, ap₂, map, filter, flat_map, append_assoc, subst, sym}
use Rattle.modules_profile.specs.declared.local.LocalRow.{LocalRow}
use Rattle.modules_profile.specs.LocalSystem.{LocalSystem}
use Rattle.c_syntax.specs.Tree.{StmtTree}
use Rattle.c_syntax.specs.Plain.{stmt_tree}
use Rattle.emit_shape.specs.Delays.{is_line, is_single}
use Rattle.emit_system_spec.specs.Emittable.{IsWritableRow}
use Rattle.emit_system_spec.specs.Fields.{memory_field}
use Rattle.emit_system_spec.specs.Renewing.{start_store, ring_stores, single_starts, line_starts, trigger_starts}
use Rattle.emit_starts.proofs.stores.push_memory_starts.Goals as goal

pub push_singles-requires : goal.push_singles-requires
push_singles-requires c =
    let rows_are = c.as_slice-rows.ensures.value ∙ ap (λ (s : LocalSystem). s.rows) (c.behind-layout.view_is ∙ c.local.ensures) in
    subst (All (IsWritableRow c.args.layout.now.local)) (sym rows_are) c.requires

pub returns : goal.returns
returns c =
    let local = c.args.layout.now.local in
    let old : List StmtTree = map stmt_tree c.args.body.now.items in
    let rows_are : c.as_slice-rows.result.now ≡ local.rows = c.as_slice-rows.ensures.value
    ∙ ap (λ (s : LocalSystem). s.rows) (c.behind-layout.view_is ∙ c.local.ensures) in
    let singles = c.in_ok-push_singles.ensures
    ∙ ap (λ (rs : List LocalRow). old ++ map (λ r. start_store local (memory_field local r.row) r)
    (filter (λ r. is_single r.op) rs)) rows_are in
    let rings = c.in_ok-push_rings.ensures ∙ ap₂
    (λ (ys : List StmtTree) (rs : List LocalRow). ys ++ flat_map (ring_stores local) (filter (λ r. is_line r.op) rs)) singles rows_are in
    c.in_ok-push_trigger.ensures ∙ ap (λ ys. ys ++ trigger_starts local)
    (rings ∙ append_assoc old (single_starts local) (line_starts local))
    ∙ append_assoc old (single_starts local ++ line_starts local) (trigger_starts local)
