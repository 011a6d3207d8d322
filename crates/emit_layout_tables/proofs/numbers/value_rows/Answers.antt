use Rattle.std.proofs.Common.{ℕ, Bool, [], sym, ap, ◌∙◌}
use Rattle.diagram_blocks.specs.Meaning.{has_value}
use Rattle.modules_profile.specs.declared.local.LocalRow.{LocalRow}
use Rattle.emit_row_facts.proofs.lemmas.Steps.{passed-then, passed-else}
use Rattle.emit_layout_tables.proofs.numbers.value_rows.Goals as goal
use Rattle.emit_layout_tables.proofs.numbers.value_rows.Goals.{then-has_value+in_ok-push, else-has_value}

pub loop-row-preserved : goal.loop-row-preserved
loop-row-preserved c =
    let rows = c.args.rows.now in
    let k = c.loop-row.row-index in
    let x = c.row-item.result in
    let passes : LocalRow → Bool = λ r. has_value r.kind in
    let number : LocalRow → ℕ = λ r. r.row in
    elim c.if-has_value.branch [
      | then-has_value+in_ok-push w ↦ ap (λ v. v.items) w.numbers-is
          ∙ passed-then passes number rows k x [] c.loop-row.numbers.items _ c.loop-row-test.true c.row-item.is
          (sym c.has_value.ensures ∙ w.if-has_value.true) c.loop-row.invariant w.in_ok-push.ensures.items
      | else-has_value w ↦ ap (λ v. v.items) w.numbers-is
          ∙ passed-else passes number rows k x [] c.loop-row.numbers.items c.loop-row-test.true c.row-item.is
          (sym c.has_value.ensures ∙ w.if-has_value.false) c.loop-row.invariant
    ]
