-- The smallest model.
use Rattle.std.specs.Prelude.{◌≡◌, refl, [], ◌∷◌, map, codes}
use Rattle.std.specs.Fmt.{digits}
use Rattle.std.specs.List.{range_with_len}
use Rattle.tool_generator.specs.Draws.{gain_of, initial_of, signs_of, state_after}
use Rattle.tool_generator.specs.Models.{trace_text}

-- the seven draws of a model of one subsystem and of its trace
seven_draws : map (state_after 1) (range_with_len 1 7) ≡ 48271 ∷ 182605794 ∷ 1291394886 ∷ 1914720637
    ∷ 2078669041 ∷ 407355683 ∷ 1105902161 ∷ []
seven_draws = refl

first_gain : gain_of 48271 ≡ 7
first_gain = refl

first_signs : signs_of 182605794 ≡ codes "++"
first_signs = refl

first_initial : initial_of 1291394886 ≡ 86
first_initial = refl

first_trace : trace_text 1 1 ≡ codes "137\n-459\n183\n-339\n"
unfolding digits
first_trace = refl
