-- The lines of a system, and the blocks and ports that they name.
use Rattle.std.specs.Prelude.{ℕ, List, [], ◌∷◌, ◌++◌, map, filter_map, flat_map, Option, Some, None, option_map, option_and_then, option_to_list, slice_get, if◌then◌else◌, bytes_eq, codes}
use Rattle.mdl_tree.specs.Spelling.{Items, End, Param, Section}
use Rattle.mdl_tree.specs.Walks.{SectionTree, sections_named, first_value}
use Rattle.mdl_wiring.specs.declared.lines.Named.{Named}
use Rattle.mdl_wiring.specs.Members.{Member, place_of}

-- the branches among the items of a line, and those inside them
abbrev pub branches_in : Items → List SectionTree
branches_in End = []
branches_in (Param name value line rest) = branches_in rest
branches_in (Section name line items rest) =
    (if bytes_eq name (codes "Branch") then record { name = name; line = line; items = items }
    ∷ branches_in items else [])
    ++ branches_in rest

-- a line's own section and those of its branches
abbrev pub parts_of_line : SectionTree → List SectionTree
parts_of_line line = line ∷ branches_in line.items

-- the lines of a system
abbrev pub lines_in : Items → List SectionTree
lines_in items = sections_named (codes "Line") items

-- A place that a line names: the line of the section that names it, the block, if there is one of
-- that name, and the text of the port, if there is one.
pub record Place : Type 0 where
  pub line : ℕ
  pub named : Option Named
  pub port : Option (List ℕ)

-- the first block of this name, with its place and its ports
abbrev pub member_named : List Member → List ℕ → Option Named
member_named ms name =
    option_and_then (λ at. option_map (λ (m : Member). record { at = at; shape = m.shape })
    (slice_get ms at)) (place_of name ms)

-- the place that a section names by these two parameters, if it names a block
abbrev pub named_by : List Member → (block port : List ℕ) → SectionTree → Option Place
named_by ms block port section =
    option_map (λ name. record {
      line = section.line;
      named = member_named ms name;
      port = first_value port section.items;
    })
    (first_value block section.items)

-- the place from which a line leads, if it has one
abbrev pub source_of : List Member → SectionTree → Option Place
source_of ms line = named_by ms (codes "SrcBlock") (codes "SrcPort") line

-- the place to which a part of a line leads, if it names one
abbrev pub target_of : List Member → SectionTree → Option Place
target_of ms part = named_by ms (codes "DstBlock") (codes "DstPort") part

-- One end of a line: from where it leads, and to where.
pub record LineEnd : Type 0 where
  pub source : Place
  pub target : Place

-- the ends from a source to the places that the parts of a line name
abbrev pub ends_to : List Member → Place → List SectionTree → List LineEnd
ends_to ms source parts =
    map (λ target. record { source = source; target = target }) (filter_map (target_of ms) parts)

-- the ends of a line from this source; a line without a source is passed over
abbrev pub ends_from : List Member → Option Place → SectionTree → List LineEnd
ends_from ms None line = []
ends_from ms (Some source) line = ends_to ms source (parts_of_line line)

-- the ends of a line: its own, and those of its branches
abbrev pub ends_of_line : List Member → SectionTree → List LineEnd
ends_of_line ms line = ends_from ms (source_of ms line) line

-- the places from which these lines lead, also those that lead nowhere
abbrev pub sources_among : List Member → List SectionTree → List Place
sources_among ms lines = flat_map (λ line. option_to_list (source_of ms line)) lines

-- the line ends of these lines
abbrev pub ends_among : List Member → List SectionTree → List LineEnd
ends_among ms lines = flat_map (ends_of_line ms) lines

-- the places from which the lines of a system lead
abbrev pub sources_in : List Member → Items → List Place
sources_in ms items = sources_among ms (lines_in items)

-- the line ends of a system
abbrev pub ends_in : List Member → Items → List LineEnd
ends_in ms items = ends_among ms (lines_in items)
