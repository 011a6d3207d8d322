-- The blocks of a model in the order of the file, and its systems.
use Rattle.std.specs.Prelude.{ℕ, ◌+◌, Bool, true, false, List, [], ◌∷◌, ◌++◌, map, flat_map, length, Option, Some, None, option_to_list, bytes_eq, codes, if◌then◌else◌}
use Rattle.mdl_tree.specs.Spelling.{Items, End, Param, Section}
use Rattle.mdl_tree.specs.Walks.{SectionTree, first_section}
use Rattle.mdl_params.specs.declared.BlockType.TheVariants.{SubSystem}
use Rattle.mdl_blocks.specs.declared.peers.Peers.{Peers}
use Rattle.mdl_blocks.specs.Peers.{writes_type, peers_in}

-- ---- Blocks

-- A block where it is: its number in the order of the file, the number of the subsystem block
-- around it, how many of these are around it, how many Inports and Outports its system has, and its
-- section.
pub record Outline : Type 0 where
  pub number : ℕ
  pub owner : Option ℕ
  pub depth : ℕ
  pub peers : Peers
  pub section : SectionTree

abbrev mutual
  -- the blocks of a System's items, numbered from next on, each before the blocks inside it
  pub outlines_in : (next : ℕ) (owner : Option ℕ) (depth : ℕ) → Peers → Items → List Outline
  outlines_in next owner depth peers End = []
  outlines_in next owner depth peers (Param name value line rest) =
      outlines_in next owner depth peers rest
  outlines_in next owner depth peers (Section name line items rest) =
      elim (bytes_eq name (codes "Block")) [
        | true ↦
            let section : SectionTree = record { name = name; line = line; items = items } in
            let block : Outline =
            record {
              number = next;
              owner = owner;
              depth = depth;
              peers = peers;
              section = section;
            } in
            let inside : List Outline = elim (writes_type SubSystem items) [
              | true ↦ outlines_inside next (depth + 1) items
              | false ↦ []
            ] in
            block ∷ inside ++ outlines_in (next + 1 + length inside) owner depth peers rest
        | false ↦ outlines_in next owner depth peers rest
      ]

  -- the blocks inside the subsystem block e with these items: those of its first System
  pub outlines_inside : (e : ℕ) (depth : ℕ) → Items → List Outline
  outlines_inside e depth End = []
  outlines_inside e depth (Param name value line rest) = outlines_inside e depth rest
  outlines_inside e depth (Section name line items rest) = elim (bytes_eq name (codes "System")) [
    | true ↦ outlines_in (e + 1) (Some e) depth (peers_in items) items
    | false ↦ outlines_inside e depth rest
  ]

-- the blocks of a model with this System
abbrev pub outlines_of : SectionTree → List Outline
outlines_of system = outlines_in 0 None 0 (peers_in system.items) system.items

-- whether a block is a subsystem
abbrev pub is_subsystem : Outline → Bool
is_subsystem b = writes_type SubSystem b.section.items

-- ---- Systems

-- A system: the number of its subsystem block, none for the root; the line of that block, or of the
-- root's System; and its items.
pub record SystemText : Type 0 where
  pub row : Option ℕ
  pub line : ℕ
  pub items : Items

-- the system of the root
abbrev pub root_system : SectionTree → SystemText
root_system system = record { row = None; line = system.line; items = system.items }

-- the system inside a block, with this System
abbrev pub inner_system : Outline → SectionTree → SystemText
inner_system b system = record { row = Some b.number; line = b.section.line; items = system.items }

-- the system inside a block, if it is a subsystem and has one
abbrev pub systems_inside : Outline → List SystemText
systems_inside b =
    if is_subsystem b
    then map (inner_system b) (option_to_list (first_section (codes "System") b.section.items))
    else []

-- all systems of a model with this System: the root, then those inside its blocks
abbrev pub systems_of : SectionTree → List SystemText
systems_of system = root_system system ∷ flat_map systems_inside (outlines_of system)
