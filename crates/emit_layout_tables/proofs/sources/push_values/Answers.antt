use Rattle.std.proofs.Common.{◌++◌, ◌∷◌, [], Bool, sym, ap, ◌∙◌}
use Rattle.diagram_blocks.specs.Meaning.{has_value}
use Rattle.modules_profile.specs.declared.local.LocalRow.{LocalRow}
use Rattle.emit_system_spec.specs.declared.source.Source.{Source}
use Rattle.emit_system_spec.specs.Sources.{value_source}
use Rattle.emit_row_facts.proofs.lemmas.Steps.{passed-then, passed-else}
use Rattle.emit_layout_tables.proofs.sources.push_values.Goals as goal
use Rattle.emit_layout_tables.proofs.sources.push_values.Goals.{then-has_value+in_ok-push, else-has_value}

pub loop-row-preserved : goal.loop-row-preserved
loop-row-preserved c =
    let rows = c.args.rows.now in
    let k = c.loop-row.row-index in
    let x = c.row-item.result in
    let passes : LocalRow → Bool = λ r. has_value r.kind in
    let source = value_source c.args.fields.now.local in
    let before = c.args.list.now.items in
    let list = c.loop-row.list.items in
    elim c.if-has_value.branch [
      | then-has_value+in_ok-push w ↦ ap (λ v. v.items) w.list-is
          ∙ passed-then passes source rows k x before list _ c.loop-row-test.true c.row-item.is
          (sym c.has_value.ensures ∙ w.if-has_value.true) c.loop-row.invariant
          (w.in_ok-push.ensures.items ∙ ap (λ (s : Source). list ++ s ∷ []) w.value_source.ensures)
      | else-has_value w ↦ ap (λ v. v.items) w.list-is
          ∙ passed-else passes source rows k x before list c.loop-row-test.true c.row-item.is
          (sym c.has_value.ensures ∙ w.if-has_value.false) c.loop-row.invariant
    ]
