-- Texts, each found at its first place.
use Rattle.std.specs.Prelude.{ℕ, List, bytes_eq, unwrap_or}
use Rattle.indexmap.specs.IndexMap.{get_by}
use Rattle.lustre_expressions.specs.declared.places.Places.{Places}

-- the place of a text
abbrev pub place_in : Places → List ℕ → ℕ
place_in places text = unwrap_or (get_by (λ k. bytes_eq text k.now) places.found.value) places.past
