-- Items in a copy, and items with others in a section of theirs.
use Rattle.std.specs.Prelude.{ℕ, List, [], ◌∷◌, Option, option_map, option_to_list, unwrap_or, bytes_eq, if◌then◌else◌}
use Rattle.std.specs.Option.{option_map_or}
use Rattle.mdl_tree.specs.Spelling.{Items, End, Param, Section}
use Rattle.mdl_tree.specs.Walks.{SectionTree, first_section}

-- ---- Sections

-- the items of the first section of this name among others, or none
abbrev pub inside_first : (name : List ℕ) → Items → Items
inside_first name items =
    option_map_or (λ (section : SectionTree). section.items) (first_section name items) End

-- the items, with these in the first section of this name
abbrev pub with_inside : (name : List ℕ) → (inside : Items) → Items → Items
with_inside wanted inside End = End
with_inside wanted inside (Param name value line rest) =
    Param name value line (with_inside wanted inside rest)
with_inside wanted inside (Section name line items rest) =
    if bytes_eq name wanted then Section name line inside rest
    else Section name line items (with_inside wanted inside rest)

-- the items of a copy, which are all on one line; of the model itself they keep their lines
abbrev pub moved : (copy : Option ℕ) → Items → Items
moved copy End = End
moved copy (Param name value line rest) =
    Param name value (unwrap_or copy line) (moved copy rest)
moved copy (Section name line items rest) =
    Section name (unwrap_or copy line) (moved copy items) (moved copy rest)

-- ---- Parameters

-- names with their texts, as parameters on a line in front of other items
abbrev pub set_on : (line : ℕ) → List (List ℕ × List ℕ) → Items → Items
set_on line [] rest = rest
set_on line (text ∷ texts) rest = Param text.0 text.1 line (set_on line texts rest)

-- a text that may be there, under a name
abbrev pub titled : (name : List ℕ) → Option (List ℕ) → List (List ℕ × List ℕ)
titled name text = option_to_list (option_map (λ text. (name, text)) text)
