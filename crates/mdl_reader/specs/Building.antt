-- What open sections and the statements after them come to.
use Rattle.std.specs.Prelude.{ℕ, List, [], ◌∷◌, length, Result, Ok, Err, ◌==◌, if◌then◌else◌}
use Rattle.base_refusals.specs.declared.refusal.SyntaxKind.{SyntaxKind}
use Rattle.base_refusals.specs.declared.refusal.SyntaxKind.TheVariants.{StrayString, Brace, DeepSections}
use Rattle.mdl_tree.specs.Text.{Statement, Opens, Closes, Sets, Adds, Faulty}
use Rattle.mdl_tree.specs.Spelling.{Items, End, Param, Section, append_items}
use Rattle.mdl_tree.specs.Walks.{SectionTree}

-- the whole file as a section
abbrev pub file_of : Items → SectionTree
file_of items = record { name = []; line = 0; items = items }

-- a section as the one item of a list
abbrev pub section_item : SectionTree → Items
section_item section = Section section.name section.line section.items End

-- a section with further items after those that it has
abbrev pub with_items : SectionTree → Items → SectionTree
with_items section more = record section { items = append_items section.items more }

-- The items of the whole text, or its first error: from the innermost section that is open, those
-- around it from the inside out, and the statements that follow, in a text whose last line has the
-- number `last`.
abbrev pub tree_from : ℕ → SectionTree → List SectionTree → List Statement →
    Result Items (ℕ × SyntaxKind)
tree_from last current [] [] = Ok current.items
tree_from last current (outer ∷ around) [] = Err (last, Brace)
tree_from last current around (Opens line name ∷ rest) =
    if length around == 128 then Err (line, DeepSections)
    else tree_from last (record { name = name; line = line; items = End }) (current ∷ around) rest
tree_from last current [] (Closes line ∷ rest) = Err (line, Brace)
tree_from last current (outer ∷ around) (Closes line ∷ rest) =
    tree_from last (with_items outer (section_item current)) around rest
tree_from last current around (Sets line name value quoted ∷ rest) =
    tree_from last (with_items current (Param name value line End)) around rest
tree_from last current around (Adds line value ∷ rest) = Err (line, StrayString)
tree_from last current around (Faulty line kind ∷ rest) = Err (line, kind)
