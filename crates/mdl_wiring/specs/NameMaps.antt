-- Maps from names to the places of the blocks that have them.
use Rattle.std.specs.Prelude.{◌≡◌, ℕ, Bool, false, nat_lt, List, Option, Some, unwrap_or, if◌then◌else◌}
use Rattle.std.specs.Option.{option_map_or}
use Rattle.std.specs.Str.{bytes_eq}
use denote.Ref.{Bor}
use Rattle.indexmap.specs.IndexMap.{IndexMap, get_by}
use Rattle.mdl_wiring.specs.Members.{Member, place_of}

-- the place that a map gives to a name
abbrev pub place_in : {S : Type 0} → IndexMap (Bor (List ℕ)) ℕ S → List ℕ → Option ℕ
place_in map name = get_by (λ k. bytes_eq name k.now) map

-- the first place of a name that is taken at a place, where it may have been taken before
abbrev pub first_taken : Option ℕ → (place : ℕ) → ℕ
first_taken before place = unwrap_or before place

-- the place that a map gives to a name, once this one is taken at a place
abbrev pub place_with : {S : Type 0} → (taken : List ℕ) (place : ℕ) → IndexMap (Bor (List ℕ)) ℕ S →
    List ℕ → Option ℕ
place_with taken place map name =
    if bytes_eq taken name then Some (first_taken (place_in map taken) place) else place_in map name

-- a map gives each name the place of the first block that has it
abbrev pub AreNamesOf : {S : Type 0} → List Member → IndexMap (Bor (List ℕ)) ℕ S → Type 0
AreNamesOf ms map = (name : List ℕ) → place_in map name ≡ place_of name ms

-- whether a place is there and before another
abbrev pub is_before : Option ℕ → ℕ → Bool
is_before place i = option_map_or (λ j. nat_lt j i) place false
