use Rattle.std.proofs.Common.{◌∙◌, sym, ap, None, Some, [], ◌∷◌, ◌++◌, append-nil}
use Rattle.emit_notes.proofs.SaidLemmas.{more-said}
use Rattle.emit_notes.proofs.reading.labels_from.Goals as goal
use Rattle.emit_notes.proofs.reading.labels_from.Goals.{in-Some+in_ok-push, in_default}

pub loop-placed-preserved : goal.loop-placed-preserved
loop-placed-preserved c =
    let defaults = c.args.defaults.now in
    let sections = c.args.sections.now in
    let i = c.loop-placed.placed-index in
    elim c.match-branch-3.branch [
      | in-Some+in_ok-push w ↦
          ap (λ v. v.items) w.labels-is ∙ w.in_ok-push.ensures.items
          ∙ ap (λ xs. xs ++ w.in-Some.label ∷ []) c.loop-placed.invariant
          ∙ more-said defaults sections i c.placed-item.result (Some w.in-Some.label) c.loop-placed-test.true c.placed-item.is
          (sym w.in-Some.is ∙ c.in_ok-label.ensures)
      | in_default w ↦
          ap (λ v. v.items) w.labels-is ∙ sym (append-nil c.loop-placed.labels.items)
          ∙ ap (λ xs. xs ++ []) c.loop-placed.invariant
          ∙ more-said defaults sections i c.placed-item.result None c.loop-placed-test.true c.placed-item.is
          (sym w.in_default.is ∙ c.in_ok-label.ensures)
    ]
