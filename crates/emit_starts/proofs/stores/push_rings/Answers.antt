use Rattle.std.proofs.Common.{◌∙◌, Bool, ap, map, sym}
use Rattle.modules_profile.specs.declared.local.LocalRow.{LocalRow}
use Rattle.c_syntax.specs.Plain.{stmt_tree}
use Rattle.emit_shape.specs.Delays.{is_line}
use Rattle.emit_system_spec.specs.Renewing.{ring_stores}
use Rattle.emit_row_facts.proofs.lemmas.Steps.{several-else, several-then}
use Rattle.emit_starts.proofs.stores.push_rings.Goals as goal
use Rattle.emit_starts.proofs.stores.push_rings.Goals.{then-is_line+in_ok-push_ring, else-is_line}

pub loop-row-preserved : goal.loop-row-preserved
loop-row-preserved c =
    let rows = c.args.rows.now in
    let k = c.loop-row.row-index in
    let x = c.row-item.result in
    let passes : LocalRow → Bool = λ r. is_line r.op in
    let stores = ring_stores c.args.layout.now.local in
    let before = map stmt_tree c.args.body.now.items in
    let so_far = map stmt_tree c.loop-row.body.items in
    elim c.if-is_line.branch [
      | then-is_line+in_ok-push_ring w ↦ ap (λ v. map stmt_tree v.items) w.body-is
          ∙ several-then passes stores rows k x before so_far _ c.loop-row-test.true c.row-item.is
          (sym c.is_line.ensures ∙ w.if-is_line.true) c.loop-row.invariant w.in_ok-push_ring.ensures
      | else-is_line w ↦ ap (λ v. map stmt_tree v.items) w.body-is
          ∙ several-else passes stores rows k x before so_far c.loop-row-test.true c.row-item.is
          (sym c.is_line.ensures ∙ w.if-is_line.false) c.loop-row.invariant
    ]
