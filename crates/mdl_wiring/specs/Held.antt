-- The places and ends of lines in memory, as plain ones.
use Rattle.std.specs.Prelude.{◌≡◌, ℕ, List, map, Option}
use Rattle.std.specs.Option.{option_copied}
use Rattle.std.specs.List.{position_from}
use denote.Ref.{Bor}
use Rattle.indexmap.specs.IndexMap.{IndexMap, get}
use Rattle.mdl_tree.specs.declared.tree.Section.{Section}
use Rattle.mdl_tree.specs.Walks.{SectionTree}
use Rattle.mdl_tree.specs.Values.{section_tree}
use Rattle.mdl_wiring.specs.declared.lines.Place as held
use Rattle.mdl_wiring.specs.declared.lines.LineEnd as held_end
use Rattle.mdl_wiring.specs.declared.ports.Input.{Input}
use Rattle.mdl_wiring.specs.Lines.{Place, LineEnd}
use Rattle.mdl_wiring.specs.Ports.{are_one, leads_to}

-- a place in memory as a plain one
abbrev pub place_seen : held.Place → Place
place_seen p = record { line = p.line; named = p.named; port = option_copied p.port }

-- the same of all in a list
abbrev pub places_seen : List held.Place → List Place
places_seen places = map place_seen places

-- the end of a line in memory as a plain one
abbrev pub end_seen : held_end.LineEnd → LineEnd
end_seen e = record { source = place_seen e.source; target = place_seen e.target }

-- the same of all in a list
abbrev pub ends_seen : List held_end.LineEnd → List LineEnd
ends_seen ends = map end_seen ends

-- the place of the first line end that leads to an input
abbrev pub first_end : Input → List LineEnd → Option ℕ
first_end input ends = position_from (leads_to input) 0 ends

-- the place that a map gives to an input
abbrev pub end_at : {S : Type 0} → IndexMap Input ℕ S → Input → Option ℕ
end_at inputs input = get are_one inputs input

-- a map gives each input the place of the first line end that leads to it
abbrev pub AreInputsOf : {S : Type 0} → List LineEnd → IndexMap Input ℕ S → Type 0
AreInputsOf ends inputs = (input : Input) → end_at inputs input ≡ first_end input ends
