-- The own blocks of a system by the owners of blocks.
use Rattle.std.specs.Prelude.{◌≡◌, ℕ, List, map, filter, Option, ⊤}
use Rattle.mdl_tree.specs.Walks.{SectionTree}
use Rattle.diagram_meaning.specs.Rows.{same_system}
use Rattle.mdl_systems.specs.Outlines.{Outline, outlines_of}
use Rattle.mdl_systems.specs.Systems.{SystemTree, SystemTrees, system, no_more, next, tree_of_model}

-- the blocks of this owner, in order
abbrev pub of_owner : Option ℕ → List Outline → List Outline
of_owner row blocks = filter (λ (b : Outline). same_system b.owner row) blocks

-- their numbers
abbrev pub owned_by : Option ℕ → List Outline → List ℕ
owned_by row blocks = map (λ (b : Outline). b.number) (of_owner row blocks)

-- in a system and in all inside it the own blocks are those of these blocks whose owner is its row
abbrev mutual
  pub OwnByOwner : List Outline → SystemTree → Type 0
  OwnByOwner blocks (system row line section own children) =
      (own ≡ owned_by row blocks) × AllOwnByOwner blocks children

  pub AllOwnByOwner : List Outline → SystemTrees → Type 0
  AllOwnByOwner blocks no_more = ⊤
  AllOwnByOwner blocks (next child rest) = OwnByOwner blocks child × AllOwnByOwner blocks rest

-- so it is in each model
abbrev pub OwnIsByOwner : Type 0
OwnIsByOwner = (section : SectionTree) → OwnByOwner (outlines_of section) (tree_of_model section)
