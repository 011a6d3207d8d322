use Rattle.std.proofs.Common.{◌≡◌, ℕ, List, map, drop, bytes_eq}
use Rattle.std.specs.List.{position_from}
use Rattle.indexmap.specs.IndexMap.{get_by}
use Rattle.lustre_expressions.proofs.places.places_of.Given as goal

abbrev pub invariant-loop-place : goal.invariant-loop-place
invariant-loop-place l = (text : List ℕ) → get_by (λ k. bytes_eq text k.now) l.found.value
    ≡ position_from (bytes_eq text) l.place (drop l.place (map (λ x. x.now) l.texts))
