use Rattle.std.proofs.Common.{List, ℕ, ◌∷◌, [], ◌++◌, ap₂, sym, ◌∙◌, arith}
use Rattle.std.proofs.lemmas.List.FromFn.{map-range_with_len_more}
use Rattle.modules_schedule.specs.Scheduling.{groups_holding}
use Rattle.modules_schedule.proofs.lists.groups_by_function.Goals as goal

pub loop-j-preserved : goal.loop-j-preserved
loop-j-preserved c = c.in_ok-push.ensures.items
    ∙ ap₂ (λ (front : List (List ℕ)) (last : List ℕ). front ++ last ∷ []) c.loop-j.invariant
    c.in_ok-groups_of_function.ensures
    ∙ sym (map-range_with_len_more (groups_holding c.args.holds.now) 0 c.loop-j.j c.loop-j.j (omega arith))
