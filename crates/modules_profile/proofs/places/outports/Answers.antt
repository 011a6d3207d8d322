use Rattle.std.proofs.Common.{true, false, ℕ, ◌++◌, ◌∷◌, [], sym, ap, ◌∙◌, take}
use Rattle.std.proofs.lemmas.List.{append-nil}
use Rattle.diagram_blocks.specs.Kinds.{is_outport}
use Rattle.modules_profile.specs.Places.{ported_places}
use Rattle.modules_profile.proofs.lemmas.PlaceSteps.{ported-more}
use Rattle.modules_profile.proofs.places.outports.Goals as goal
use Rattle.modules_profile.proofs.places.outports.Goals.{then-is_outport+in_ok-push, else-is_outport}

pub loop-place-preserved : goal.loop-place-preserved
loop-place-preserved c =
    let rows = c.args.rows.now in
    let i = c.loop-place.place in
    let r = c.index-rows-place.result in
    elim c.if-is_outport.branch [
      | then-is_outport+in_ok-push w ↦ ap (λ v. v.items) w.outports-is ∙ w.in_ok-push.ensures.items
          ∙ ap (λ es. es ++ (i, w.port.result) ∷ []) c.loop-place.invariant
          ∙ ap (λ (p : ℕ). ported_places is_outport (take i rows) ++ (i, p) ∷ []) w.port.ensures
          ∙ sym (ported-more is_outport rows i r true c.loop-place-test.true c.index-rows-place.is
          (sym c.is_outport.ensures ∙ w.if-is_outport.true))
      | else-is_outport w ↦ ap (λ v. v.items) w.outports-is ∙ sym (append-nil c.loop-place.outports.items)
          ∙ ap (λ es. es ++ []) c.loop-place.invariant
          ∙ sym (ported-more is_outport rows i r false c.loop-place-test.true c.index-rows-place.is
          (sym c.is_outport.ensures ∙ w.if-is_outport.false))
    ]
