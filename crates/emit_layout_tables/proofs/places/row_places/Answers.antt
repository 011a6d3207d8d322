use Rattle.std.proofs.Common.{List, ◌++◌, ◌∷◌, [], arith, sym, ap, ◌∙◌}
use Rattle.std.proofs.lemmas.List.FromFn.{map-range_with_len_more}
use Rattle.emit_system_spec.specs.declared.node.Place.{Place}
use Rattle.emit_system_spec.specs.declared.node.Place.TheVariants.{Row}
use Rattle.emit_layout_tables.proofs.places.row_places.Goals as goal

pub loop-place-preserved : goal.loop-place-preserved
loop-place-preserved c =
    let p = c.loop-place.place in
    c.in_ok-push.ensures.items ∙ ap (λ (l : List Place). l ++ Row p ∷ []) c.loop-place.invariant
    ∙ sym (map-range_with_len_more Row 0 p p (omega arith))
