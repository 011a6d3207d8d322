-- Two accumulators that are the same, simplified: the helper of each is where it is called, and its
-- tests are one.
use Rattle.std.specs.Prelude.{◌≡◌, refl, ◌∷◌, [], map, length}
use Rattle.std.specs.Fmt.{digits}
use Rattle.diagram_same.specs.Examples.{chain}
use Rattle.emit_simplified.specs.Simplified.{simplified}
use Rattle.emit_uniform.specs.Examples.{two}
use Rattle.emit_uniform.specs.Uniform.{AreTurned, turn_of}

still_turned : AreTurned (simplified (two 1)) (turn_of chain.rows 1 6) 1 6
unfolding digits
still_turned = record { struct = refl; procedures = refl }

two_fewer : map (λ q. length q.params) (simplified (two 1)).procedures
    ≡ 2 ∷ 2 ∷ 2 ∷ 2 ∷ 2 ∷ 2 ∷ 0 ∷ 1 ∷ []
unfolding digits
two_fewer = refl
