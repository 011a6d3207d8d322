use Rattle.std.proofs.Common.{◌+◌, ◌++◌, ◌∷◌, [], sym, ap, ◌∙◌, map, append_assoc, arith}
use Rattle.std.specs.List.{range_with_len}
use Rattle.std.proofs.lemmas.List.FromFn.{map-range_with_len_more}
use Rattle.emit_system_spec.specs.declared.node.Place.TheVariants.{Call}
use Rattle.emit_layout_tables.proofs.places.push_calls_of.Goals as goal

pub loop-k-preserved : goal.loop-k-preserved
loop-k-preserved c =
    let call = Call c.args.place in
    let k = c.loop-k.k in
    c.in_ok-push.ensures.items ∙ ap (λ l. l ++ call (k + 1) ∷ []) c.loop-k.invariant
    ∙ append_assoc c.args.nodes.now.items (map call (range_with_len 1 k)) (call (k + 1) ∷ [])
    ∙ ap (λ l. c.args.nodes.now.items ++ l) (sym (map-range_with_len_more call 1 k (k + 1) (omega arith)))
