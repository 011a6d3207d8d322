-- Small certificates.
use Rattle.std.specs.Prelude.{◌≡◌, refl, [], ◌∷◌}
use Rattle.modules_certificate.specs.Sound.{differences_from, first_outputs, pairs_below}

three_places : pairs_below 3 ≡ (0, 1) ∷ (0, 2) ∷ (1, 2) ∷ []
three_places = refl

-- the first two outputs need the input, and the third needs nothing
two_outputs : first_outputs (1 ∷ 1 ∷ 0 ∷ []) ≡ 0 ∷ 2 ∷ []
two_outputs = refl

one_difference : differences_from (1 ∷ 1 ∷ 0 ∷ []) (0 ∷ 2 ∷ []) 0 2
    ≡ record { first = 0; second = 1; bit = 0 } ∷ []
unfolding lib.Count.count_trailing_zeros
one_difference = refl

-- two inputs, and an input with an enable
three_outputs : first_outputs (3 ∷ 5 ∷ 3 ∷ 4294967297 ∷ []) ≡ 0 ∷ 1 ∷ 3 ∷ []
three_outputs = refl

three_differences : differences_from (3 ∷ 5 ∷ 3 ∷ 4294967297 ∷ []) (0 ∷ 1 ∷ 3 ∷ []) 0 3
    ≡ record { first = 0; second = 1; bit = 1 } ∷ record { first = 0; second = 2; bit = 1 }
    ∷ record { first = 1; second = 2; bit = 2 } ∷ []
unfolding lib.Count.count_trailing_zeros
three_differences = refl
