-- The places of the functions that round.
use Rattle.std.proofs.Common.{◌≡◌, refl, ◌<◌, [], length, slice_index_or, arith}
use Rattle.base_fixed_point.specs.declared.Round.{Round}
use Rattle.base_fixed_point.specs.declared.Round.TheVariants.{Ceiling, Convergent, Floor, Nearest, Zero}
use Rattle.base_fixed_point.specs.declared.Round.TheVariants as round
use Rattle.emit_prelude.specs.Rules.{params, rounding_position}

-- each is one of the eight, and takes two arguments
pub place-of_rounding : (r : Round) → (rounding_position r < 8) × (2 ≡ length (slice_index_or params (rounding_position r) []))
place-of_rounding Floor = (omega arith, refl)
place-of_rounding Ceiling = (omega arith, refl)
place-of_rounding Zero = (omega arith, refl)
place-of_rounding Nearest = (omega arith, refl)
place-of_rounding round.Round = (omega arith, refl)
place-of_rounding Convergent = (omega arith, refl)
