use Rattle.std.proofs.Common.{◌≡◌, ℕ, nat_eq, ◌==◌, drop}
use Rattle.std.specs.List.{position_from}
use Rattle.indexmap.specs.IndexMap.{get}
use Rattle.emit_layout.proofs.positions.first_places.Given as goal

abbrev pub invariant-loop-place : goal.invariant-loop-place
invariant-loop-place l = (k : ℕ) → get nat_eq l.places k ≡ position_from (λ key. key == k) l.place (drop l.place l.keys)
