use Rattle.std.proofs.Common.{◌∙◌, ◌++◌, ◌∷◌, [], ap₂, sym, arith}
use Rattle.std.proofs.lemmas.List.FromFn.{map-range_with_len_more}
use Rattle.emit_system_spec.specs.EmittedCode.{group_params}
use Rattle.emit_system.proofs.procedures.all_group_params.Goals as goal

pub loop-group-preserved : goal.loop-group-preserved
loop-group-preserved c =
    let of = c.args.layout.now in
    let k = c.loop-group.group in
    c.in_ok-push.ensures.items ∙ ap₂ (λ ps p. ps ++ p ∷ []) c.loop-group.invariant c.in_ok-group_params.ensures
    ∙ sym (map-range_with_len_more (group_params of.local of.profile of.schedule) 0 k k (omega arith))
