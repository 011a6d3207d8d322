use Rattle.std.proofs.Common.{◌≡◌, ℕ, Some, cond, eqb, nat_eq, take}
use Rattle.std.specs.List.{list_any}
use Rattle.indexmap.specs.IndexMap.{get}
use Rattle.modules_profile.proofs.edges.insert_all.Given as goal

abbrev pub invariant-loop-wire : goal.invariant-loop-wire
invariant-loop-wire l =
    (c : ℕ) → get nat_eq l.givers c ≡ cond (list_any (λ d. eqb d c) (take l.wire-index l.gives)) (Some l.a)
    (get nat_eq l.initial.givers c)
