-- The systems of a model by its subsystem blocks.
use Rattle.std.specs.Prelude.{◌≡◌, ℕ, true, List, [], ◌∷◌, find, flat_map, slice_get, Option, Some, None, codes, ⊤}
use Rattle.mdl_tree.specs.Walks.{SectionTree, first_section}
use Rattle.diagram_meaning.specs.Rows.{same_system}
use Rattle.mdl_systems.specs.Outlines.{Outline, SystemText, outlines_of, is_subsystem, root_system, inner_system, systems_inside, systems_of}
use Rattle.mdl_systems.specs.Systems.{SystemTree, SystemTrees, system, no_more, next, tree_of_model}
use Rattle.mdl_systems.specs.Owners.{of_owner}

-- ---- Inside each system

-- the row of a system, its line and its items
abbrev pub text_of : SystemTree → SystemText
text_of (system row line section own children) =
    record { row = row; line = line; items = section.items }

-- the same of each system of a list
abbrev pub texts_of : SystemTrees → List SystemText
texts_of no_more = []
texts_of (next child rest) = text_of child ∷ texts_of rest

-- the systems inside the blocks of this owner, in order: of those that are subsystems and have one
abbrev pub systems_owned : Option ℕ → List Outline → List SystemText
systems_owned row blocks = flat_map systems_inside (of_owner row blocks)

-- in a system and in all inside it, the systems directly inside are those inside these blocks whose
-- owner is its row
abbrev mutual
  pub ChildrenByOwner : List Outline → SystemTree → Type 0
  ChildrenByOwner blocks (system row line section own children) =
      (texts_of children ≡ systems_owned row blocks) × AllChildrenByOwner blocks children

  pub AllChildrenByOwner : List Outline → SystemTrees → Type 0
  AllChildrenByOwner blocks no_more = ⊤
  AllChildrenByOwner blocks (next child rest) =
      ChildrenByOwner blocks child × AllChildrenByOwner blocks rest

-- so it is in each model
abbrev pub ChildrenAreBySubsystems : Type 0
ChildrenAreBySubsystems =
    (section : SectionTree) → ChildrenByOwner (outlines_of section) (tree_of_model section)

-- ---- Among all systems

-- the system of this row among these: the first one
abbrev pub system_at : Option ℕ → List SystemText → Option SystemText
system_at row systems = find (λ (s : SystemText). same_system s.row row) systems

-- the root's system is that without a row
abbrev pub RootIsFound : SectionTree → Type 0
RootIsFound section = system_at None (systems_of section) ≡ Some (root_system section)

-- the system with the number of a subsystem block that has one is that inside this block
abbrev pub InnerAreFound : SectionTree → Type 0
InnerAreFound section =
    (k : ℕ) (b : Outline) (inside : SectionTree) → slice_get (outlines_of section) k ≡ Some b →
    is_subsystem b ≡ true →
    first_section (codes "System") b.section.items ≡ Some inside →
    system_at (Some b.number) (systems_of section) ≡ Some (inner_system b inside)

-- so it is in each model
abbrev pub SystemsAreBySubsystems : Type 0
SystemsAreBySubsystems = (section : SectionTree) → RootIsFound section × InnerAreFound section
