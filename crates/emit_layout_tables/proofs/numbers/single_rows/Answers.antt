use Rattle.std.proofs.Common.{ℕ, Bool, [], sym, ap, ◌∙◌}
use Rattle.emit_shape.specs.Delays.{is_single}
use Rattle.modules_profile.specs.declared.local.LocalRow.{LocalRow}
use Rattle.emit_row_facts.proofs.lemmas.Steps.{passed-then, passed-else}
use Rattle.emit_layout_tables.proofs.numbers.single_rows.Goals as goal
use Rattle.emit_layout_tables.proofs.numbers.single_rows.Goals.{then-is_single+in_ok-push, else-is_single}

pub loop-row-preserved : goal.loop-row-preserved
loop-row-preserved c =
    let rows = c.args.rows.now in
    let k = c.loop-row.row-index in
    let x = c.row-item.result in
    let passes : LocalRow → Bool = λ r. is_single r.op in
    let number : LocalRow → ℕ = λ r. r.row in
    elim c.if-is_single.branch [
      | then-is_single+in_ok-push w ↦ ap (λ v. v.items) w.numbers-is
          ∙ passed-then passes number rows k x [] c.loop-row.numbers.items _ c.loop-row-test.true c.row-item.is
          (sym c.is_single.ensures ∙ w.if-is_single.true) c.loop-row.invariant w.in_ok-push.ensures.items
      | else-is_single w ↦ ap (λ v. v.items) w.numbers-is
          ∙ passed-else passes number rows k x [] c.loop-row.numbers.items c.loop-row-test.true c.row-item.is
          (sym c.is_single.ensures ∙ w.if-is_single.false) c.loop-row.invariant
    ]
