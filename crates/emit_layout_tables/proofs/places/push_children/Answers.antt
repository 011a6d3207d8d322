use Rattle.std.proofs.Common.{List, ◌++◌, take, append_assoc, sym, ap, ◌∙◌}
use Rattle.std.specs.List.{enumerate_from, flat_map}
use Rattle.modules_profile.specs.declared.local.ChildUse.{ChildUse}
use Rattle.emit_system_spec.specs.declared.node.Place.{Place}
use Rattle.emit_system_spec.specs.Places.{call_places}
use Rattle.emit_row_facts.proofs.lemmas.Steps.{flat-enumerate-more}
use Rattle.emit_layout_tables.proofs.places.push_children.Goals as goal

pub loop-place-preserved : goal.loop-place-preserved
loop-place-preserved c =
    let children = c.args.children.now in
    let nodes = c.args.nodes.now.items in
    let i = c.loop-place.place in
    let x = c.index-children-place.result in
    let front = flat_map call_places (enumerate_from 0 (take i children)) in
    c.in_ok-push_calls.ensures ∙ ap (λ (l : List Place). l ++ call_places (i, x)) c.loop-place.invariant
    ∙ append_assoc nodes front (call_places (i, x))
    ∙ ap (λ (y : ChildUse). nodes ++ (front ++ call_places (i, y))) c.index-children-place.is
    ∙ ap (λ (l : List Place). nodes ++ l) (sym (flat-enumerate-more call_places children i x c.loop-place-test.true))
