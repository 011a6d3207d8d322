use Rattle.std.proofs.Common.{◌∙◌, Bool, ap, map, subst, sym}
use Rattle.diagram_blocks.specs.Meaning.{has_value}
use Rattle.modules_profile.specs.declared.local.LocalRow.{LocalRow}
use Rattle.c_syntax.specs.Tree.{StmtTree}
use Rattle.c_syntax.specs.Plain.{stmt_tree}
use Rattle.emit_system_spec.specs.Emittable.{IsWritableRow}
use Rattle.emit_system_spec.specs.Fields.{value_field}
use Rattle.emit_system_spec.specs.Renewing.{start_store}
use Rattle.emit_row_facts.proofs.lemmas.Steps.{passed-else, passed-then}
use Rattle.emit_starts.proofs.Pushed.{one-more}
use Rattle.emit_starts.proofs.stores.push_values.Goals as goal
use Rattle.emit_starts.proofs.stores.push_values.Goals.{then-has_value+in_ok-start_store+in_ok-push, else-has_value}

pub start_store-requires : goal.start_store-requires
start_store-requires c =
    subst (IsWritableRow c.args.layout.now.local) (sym c.row-item.is)
    (c.requires c.loop-row.row-index c.row-item.result c.loop-row-test.true)

pub loop-row-preserved : goal.loop-row-preserved
loop-row-preserved c =
    let local = c.args.layout.now.local in
    let rows = c.args.rows.now in
    let k = c.loop-row.row-index in
    let x = c.row-item.result in
    let passes : LocalRow → Bool = λ r. has_value r.kind in
    let store : LocalRow → StmtTree = λ r. start_store local (value_field local r.row) r in
    let before = map stmt_tree c.args.body.now.items in
    let so_far = map stmt_tree c.loop-row.body.items in
    elim c.if-has_value.branch [
      | then-has_value+in_ok-start_store+in_ok-push w ↦ ap (λ v. map stmt_tree v.items) w.body-is
          ∙ passed-then passes store rows k x before so_far (map stmt_tree w.push.new.self.items) c.loop-row-test.true
          c.row-item.is (sym c.has_value.ensures ∙ w.if-has_value.true) c.loop-row.invariant
          (one-more c.loop-row.body.items w.push.new.self.items w.in_ok-start_store.field-0 (store x) w.in_ok-push.ensures.items
          (w.in_ok-start_store.ensures ∙ ap (λ field. start_store local field x) w.value_field.ensures))
      | else-has_value w ↦ ap (λ v. map stmt_tree v.items) w.body-is
          ∙ passed-else passes store rows k x before so_far c.loop-row-test.true c.row-item.is
          (sym c.has_value.ensures ∙ w.if-has_value.false) c.loop-row.invariant
    ]
