-- Blocks and sections in memory, as plain ones.
use Rattle.std.specs.Prelude.{ℕ, ◌+◌, true, false, List, [], ◌∷◌, map, Option, option_map}
use denote.Ref.{Bor}
use Rattle.mdl_tree.specs.declared.tree.Section.{Section}
use Rattle.mdl_tree.specs.declared.tree.Item.{Item}
use Rattle.mdl_tree.specs.Spelling.{Items, End}
use Rattle.mdl_tree.specs.Walks.{SectionTree}
use Rattle.mdl_tree.specs.Values.{section_tree, with_item}
use Rattle.mdl_params.specs.declared.BlockType.TheVariants.{SubSystem}
use Rattle.mdl_blocks.specs.declared.peers.Peers.{Peers}
use Rattle.mdl_blocks.specs.Peers.{writes_type}
use Rattle.mdl_systems.specs.declared.outline.Outline as held
use Rattle.mdl_systems.specs.Outlines.{Outline, outlines_inside}

-- a block in memory as a plain one
abbrev pub seen : held.Outline → Outline
seen b =
    record {
      number = b.number;
      owner = b.owner;
      depth = b.depth;
      peers = b.peers;
      section = section_tree b.section.now;
    }

-- the same of all in a list
abbrev pub all_seen : List held.Outline → List Outline
all_seen blocks = map seen blocks

-- the blocks inside a block with these items; there are none where it isn't a subsystem
abbrev pub blocks_held : (number depth : ℕ) → Items → List Outline
blocks_held number depth items = elim (writes_type SubSystem items) [
  | true ↦ outlines_inside number (depth + 1) items
  | false ↦ []
]

-- a block and those inside it
abbrev pub taken : (number : ℕ) (owner : Option ℕ) (depth : ℕ) → Peers → SectionTree → List Outline
taken number owner depth peers section =
    record { number = number; owner = owner; depth = depth; peers = peers; section = section }
    ∷ blocks_held number depth section.items

-- the section that a reference leads to, if it is there
abbrev pub tree_at : Option (Bor Section) → Option SectionTree
tree_at section = option_map (λ s. section_tree s.now) section
