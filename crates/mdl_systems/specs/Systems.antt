-- The systems of a model, each inside the one around it.
use Rattle.std.specs.Prelude.{ℕ, ◌+◌, true, false, List, [], ◌∷◌, ◌++◌, length, Option, Some, None, option_to_list, bytes_eq, codes}
use Rattle.mdl_tree.specs.Spelling.{Items, End, Param, Section}
use Rattle.mdl_tree.specs.Walks.{SectionTree}
use Rattle.mdl_tree.specs.Values.{section_tree}
use Rattle.mdl_params.specs.declared.BlockType.TheVariants.{SubSystem}
use Rattle.mdl_blocks.specs.Peers.{writes_type}
use Rattle.mdl_systems.specs.declared.system.SystemText.{SystemText}
use Rattle.mdl_systems.specs.declared.system.SystemText.TheOpen.{SystemText-F}
use Rattle.mdl_systems.specs.declared.system.SystemText.TheFolds.{fold-SystemText}
use Rattle.mdl_systems.specs.Held.{blocks_held}

-- A system: the number of its subsystem block, none for the root; the line of that block, or of the
-- root's System; its System; the numbers of its own blocks; and the systems directly inside it.
mutual
  pub data SystemTree : Type 0 where
    system : (row : Option ℕ) (line : ℕ) (section : SectionTree) (own : List ℕ)
        (children : SystemTrees) → SystemTree

  pub data SystemTrees : Type 0 where
    no_more : SystemTrees
    next : SystemTree → SystemTrees → SystemTrees

-- the systems of a list, one after another
abbrev pub systems_from : List SystemTree → SystemTrees
systems_from [] = no_more
systems_from (child ∷ rest) = next child (systems_from rest)

-- ---- Of a text

-- the numbers of the own blocks of a System's items, where blocks are numbered from start on, and
-- those inside a block come before the block after it
abbrev pub own_in : (start depth : ℕ) → Items → List ℕ
own_in start depth End = []
own_in start depth (Param name value line rest) = own_in start depth rest
own_in start depth (Section name line items rest) = elim (bytes_eq name (codes "Block")) [
  | true ↦ start ∷ own_in (start + 1 + length (blocks_held start depth items)) depth rest
  | false ↦ own_in start depth rest
]

abbrev mutual
  -- the systems directly inside a System's items, numbered the same way: those of its subsystem
  -- blocks that have one
  pub children_in : (start depth : ℕ) → Items → List SystemTree
  children_in start depth End = []
  children_in start depth (Param name value line rest) = children_in start depth rest
  children_in start depth (Section name line items rest) = elim (bytes_eq name (codes "Block")) [
    | true ↦
        let inside : Option SystemTree = elim (writes_type SubSystem items) [
          | true ↦ system_inside start line (depth + 1) items
          | false ↦ None
        ] in
        option_to_list inside
        ++ children_in (start + 1 + length (blocks_held start depth items)) depth rest
    | false ↦ children_in start depth rest
  ]

  -- the system inside the subsystem block e, at this line, with these items: their first System, if
  -- they have one
  pub system_inside : (e line depth : ℕ) → Items → Option SystemTree
  system_inside e line depth End = None
  system_inside e line depth (Param name value other rest) = system_inside e line depth rest
  system_inside e line depth (Section name other items rest) =
      elim (bytes_eq name (codes "System")) [
        | true ↦
            let section : SectionTree = record { name = name; line = other; items = items } in
            Some (system (Some e) line section (own_in (e + 1) depth items)
            (systems_from (children_in (e + 1) depth items)))
        | false ↦ system_inside e line depth rest
      ]

-- the system of a row with this System, whose blocks are numbered from start on
abbrev pub tree_of_system : (row : Option ℕ) (line depth start : ℕ) → SectionTree → SystemTree
tree_of_system row line depth start section =
    system row line section (own_in start depth section.items)
    (systems_from (children_in start depth section.items))

-- the systems of a model with this System
abbrev pub tree_of_model : SectionTree → SystemTree
tree_of_model section = tree_of_system None section.line 0 0 section

-- ---- In memory

-- what one level of a system in memory stands for, given what those inside it stand for
abbrev pub system_from : SystemText-F SystemTree → SystemTree
system_from s =
    system s.row s.line (section_tree s.section.now) s.own.items (systems_from s.children.items)

-- what a system in memory stands for
abbrev pub system_of : SystemText → SystemTree
system_of = fold-SystemText SystemTree system_from

-- the system inside a block with this number, if it is a subsystem and has one
abbrev pub system_held : (number depth : ℕ) → SectionTree → Option SystemTree
system_held number depth section = elim (writes_type SubSystem section.items) [
  | true ↦ system_inside number section.line (depth + 1) section.items
  | false ↦ None
]
