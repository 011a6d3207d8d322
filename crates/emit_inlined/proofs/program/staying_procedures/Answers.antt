use Rattle.std.proofs.Common.{◌≡◌, ◌<◌, ◌∷◌, [], length, map, not, sym, ap, ◌∙◌, get_or, arith}
use Rattle.std.proofs.lemmas.List.{length-map, map-append, get_or-map}
use Rattle.c_syntax.specs.Plain.{procedure_tree}
use Rattle.emit_pruned.specs.Marks.{flag_at}
use Rattle.emit_inlined.specs.Steps.{is_kept, place_in, procedure_by}
use Rattle.emit_inlined.proofs.InlinedLists.{kept-yes, kept-no}
use Rattle.emit_inlined.proofs.program.staying_procedures.Goals as goal
use Rattle.emit_inlined.proofs.program.staying_procedures.Goals.{then-not-inlined-position+in_ok-inlined_procedure+in_ok-push, else-not-inlined-position}

pub loop-position-preserved : goal.loop-position-preserved
loop-position-preserved c =
    let procedures = c.args.procedures.now in
    let keeps = is_kept c.args.inlined.now in
    let change = procedure_by (map procedure_tree procedures) (flag_at c.args.helpers.now) (place_in c.args.places.now) in
    let i = c.loop-position.position in
    let source = c.index-procedures-position.result in
    let q = procedure_tree source in
    let made = map procedure_tree c.loop-position.list.items in
    let inside : i < length procedures = omega arith in
    let among : i < length (map procedure_tree procedures) = omega (arith, length-map procedures procedure_tree) in
    let is : source ≡ get_or procedures i source = c.index-procedures-position.is in
    let read = ap procedure_tree is ∙ sym (get_or-map procedure_tree procedures i source q inside) in
    elim c.if-not-inlined-position.branch [
      | then-not-inlined-position+in_ok-inlined_procedure+in_ok-push w ↦
          ap (λ v. map procedure_tree v.items) w.list-is ∙ ap (map procedure_tree) w.in_ok-push.ensures.items
          ∙ map-append procedure_tree c.loop-position.list.items (w.in_ok-inlined_procedure.field-0 ∷ [])
          ∙ kept-yes keeps change (map procedure_tree procedures) made i q (procedure_tree w.in_ok-inlined_procedure.field-0) among read
          (ap not w.if-not-inlined-position.true) c.loop-position.invariant w.in_ok-inlined_procedure.ensures
      | else-not-inlined-position w ↦
          ap (λ v. map procedure_tree v.items) w.list-is
          ∙ kept-no keeps change (map procedure_tree procedures) made i q among read (ap not w.if-not-inlined-position.false)
          c.loop-position.invariant
    ]
