use Rattle.std.proofs.Common.{◌++◌, ◌∷◌, [], Bool, sym, ap, ◌∙◌}
use Rattle.diagram_blocks.specs.Kinds.{is_outport}
use Rattle.modules_profile.specs.declared.local.LocalRow.{LocalRow}
use Rattle.emit_row_facts.specs.declared.ported.Ported.{Ported}
use Rattle.emit_row_facts.specs.Ported.{ported_of}
use Rattle.emit_row_facts.proofs.lemmas.Steps.{passed-then, passed-else}
use Rattle.emit_row_facts.proofs.ported.outports_among.Goals as goal
use Rattle.emit_row_facts.proofs.ported.outports_among.Goals.{then-is_outport+in_ok-push, else-is_outport}

pub loop-row-preserved : goal.loop-row-preserved
loop-row-preserved c =
    let rows = c.args.rows.now in
    let k = c.loop-row.row-index in
    let x = c.row-item.result in
    let passes : LocalRow → Bool = λ r. is_outport r.kind in
    let among = c.loop-row.among.items in
    elim c.if-is_outport.branch [
      | then-is_outport+in_ok-push w ↦ ap (λ v. v.items) w.among-is
          ∙ passed-then passes ported_of rows k x [] among _ c.loop-row-test.true c.row-item.is
          (sym c.is_outport.ensures ∙ w.if-is_outport.true) c.loop-row.invariant
          (w.in_ok-push.ensures.items ∙ ap (λ (p : Ported). among ++ p ∷ []) w.of_row.ensures)
      | else-is_outport w ↦ ap (λ v. v.items) w.among-is
          ∙ passed-else passes ported_of rows k x [] among c.loop-row-test.true c.row-item.is
          (sym c.is_outport.ensures ∙ w.if-is_outport.false) c.loop-row.invariant
    ]
