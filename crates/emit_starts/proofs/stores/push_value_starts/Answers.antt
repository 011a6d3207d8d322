use Rattle.std.proofs.Common.{◌≡◌, ◌∙◌, ◌++◌, All, List, OnOk, ap, filter, map, subst, sym}
use Rattle.diagram_blocks.specs.Meaning.{has_value}
use Rattle.modules_profile.specs.declared.local.LocalRow.{LocalRow}
use Rattle.modules_profile.specs.LocalSystem.{LocalSystem}
use Rattle.c_syntax.specs.Plain.{stmt_tree}
use Rattle.emit_system_spec.specs.Emittable.{IsWritableRow}
use Rattle.emit_system_spec.specs.Fields.{value_field}
use Rattle.emit_system_spec.specs.Renewing.{start_store}
use Rattle.emit_starts.proofs.stores.push_value_starts.Goals as goal

pub push_values-requires : goal.push_values-requires
push_values-requires c =
    let rows_are = c.as_slice.ensures.value ∙ ap (λ (s : LocalSystem). s.rows) (c.behind-layout.view_is ∙ c.local.ensures) in
    subst (All (IsWritableRow c.args.layout.now.local)) (sym rows_are) c.requires

pub returns : goal.returns
returns c =
    let local = c.args.layout.now.local in
    let rows_are = c.as_slice.ensures.value ∙ ap (λ (s : LocalSystem). s.rows) (c.behind-layout.view_is ∙ c.local.ensures) in
    subst (λ (rows : List LocalRow). OnOk c.push_values.result (map stmt_tree c.push_values.new.body.items
    ≡ map stmt_tree c.args.body.now.items
    ++ map (λ (r : LocalRow). start_store local (value_field local r.row) r) (filter (λ (r : LocalRow). has_value r.kind) rows)))
    rows_are c.push_values.ensures
