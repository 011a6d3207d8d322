-- Truth values of numbers, all or any of them.
use Rattle.std.proofs.Common.{◌≡◌, refl, ap, ◌&&◌, ◌||◌, List, [], ◌∷◌, map, ℤ}
use Rattle.std.specs.List.{list_all, list_any}
use Rattle.diagram_blocks.specs.Value.{is_true}

pub all-map : (vs : List ℤ) → list_all (λ b. b) (map is_true vs) ≡ list_all is_true vs
all-map [] = refl
all-map (v ∷ vs) = ap (λ b. is_true v && b) (all-map vs)

pub any-map : (vs : List ℤ) → list_any (λ b. b) (map is_true vs) ≡ list_any is_true vs
any-map [] = refl
any-map (v ∷ vs) = ap (λ b. is_true v || b) (any-map vs)

pub ruleset truths = (all-map, any-map)
