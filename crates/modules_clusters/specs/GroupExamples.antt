-- Small lists of needs with their classes, and of sets with their groups.
use Rattle.std.specs.Prelude.{◌≡◌, refl, [], ◌∷◌, map, count_ones}
use Rattle.modules_clusters.specs.Classes.{classes_of, class_count, place_of}

-- two outputs need one input, and one needs nothing
two_classes : classes_of (1 ∷ 1 ∷ 0 ∷ []) ≡ 0 ∷ 0 ∷ 1 ∷ []
two_classes = refl

two_counted : class_count (1 ∷ 1 ∷ 0 ∷ []) ≡ 2
two_counted = refl

-- nodes that two functions hold, and nodes of one each: the shared ones are first
three_groups : map (place_of (3 ∷ 1 ∷ 2 ∷ 0 ∷ [])) (1 ∷ 2 ∷ 3 ∷ 0 ∷ 3 ∷ []) ≡ 1 ∷ 2 ∷ 0 ∷ 3 ∷ 0 ∷ []
three_groups = refl

shared_has_more : count_ones 3 ≡ 2
unfolding lib.Count.ones
shared_has_more = refl
