-- The places of a system's own ports among its rows.
use Rattle.std.specs.Prelude.{ℕ, Bool, ◌==◌, List, map, filter, filter_map, find, length, option_map, Option}
use Rattle.std.specs.List.{enumerate_from, range_with_len}
use Rattle.diagram_blocks.specs.declared.Kind.{Kind}
use Rattle.diagram_blocks.specs.Kinds.{port_of}
use Rattle.modules_profile.specs.declared.local.LocalRow.{LocalRow}

-- of the rows that pass a test on their kind, the place and the port
abbrev pub ported_places : (Kind → Bool) → List LocalRow → List (ℕ × ℕ)
ported_places test rows =
    map (λ (e : ℕ × LocalRow). (e.0, port_of e.1.kind))
    (filter (λ (e : ℕ × LocalRow). test e.1.kind) (enumerate_from 0 rows))

-- the place of the first of these with the port
abbrev pub place_with : List (ℕ × ℕ) → ℕ → Option ℕ
place_with ported k = option_map (λ (e : ℕ × ℕ). e.0) (find (λ (e : ℕ × ℕ). e.1 == k) ported)

-- the places by port
abbrev pub places_by_port : List (ℕ × ℕ) → List ℕ
places_by_port ported = filter_map (place_with ported) (range_with_len 1 (length ported))
