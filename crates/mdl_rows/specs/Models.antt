-- A model by its blocks, each with what it says.
use Rattle.std.specs.Prelude.{ℕ, List, ◌∷◌, filter, filter_map, slice_get, Option, Some, None, option_map}
use Rattle.std.specs.Option.{option_map_or}
use Rattle.std.specs.Result.{result_ok}
use Rattle.mdl_tree.specs.Spelling.{Items, End}
use Rattle.mdl_tree.specs.Walks.{SectionTree}
use Rattle.mdl_params.specs.Defaults.{DefaultTexts}
use Rattle.mdl_blocks.specs.Blocks.{BlockText, KindText, inport, outport, subsystem, constant, ground, terminator, gain, sum, product, unit_delay, delay, zero_order_hold, switch, relational, logic, convert, rate_transition, enable_port, trigger_port}
use Rattle.diagram_meaning.specs.Rows.{same_system}
use Rattle.mdl_systems.specs.Outlines.{Outline, outlines_of}
use Rattle.mdl_systems.specs.Refusals.{read}

-- A block: its number in the order of the file, from 0; the number of the subsystem block around
-- it, none in the root; and what it says.
pub record Block : Type 0 where
  pub number : ℕ
  pub owner : Option ℕ
  pub text : BlockText

-- A model: the System of its root, and its blocks in the order of the file.
pub record Model : Type 0 where
  pub root : SectionTree
  pub blocks : List Block

-- what a block is
abbrev pub kind_of : Block → KindText
kind_of b = b.text.body.kind

-- a block that can be read
abbrev pub block_read : DefaultTexts → Outline → Option Block
block_read defaults b =
    option_map (λ text. record { number = b.number; owner = b.owner; text = text })
    (result_ok (read defaults b))

-- a model with these defaults and this System; of one whose blocks are refused those that can be
-- read
abbrev pub model_with : DefaultTexts → SectionTree → Model
model_with defaults system =
    record { root = system; blocks = filter_map (block_read defaults) (outlines_of system) }

-- the blocks of a system, in the order of the file: of the subsystem block e, or of the root
abbrev pub blocks_of : List Block → Option ℕ → List Block
blocks_of blocks o = filter (λ (b : Block). same_system b.owner o) blocks

-- ---- Systems

-- the System inside a block, which only a subsystem has
abbrev pub system_in : KindText → Option SectionTree
system_in (subsystem system) = Some system
system_in _ = None

-- A system: the number of its subsystem block, none for the root, and the items of its System.
pub record System : Type 0 where
  pub row : Option ℕ
  pub items : Items

-- the system of the root
abbrev pub root_system : Model → System
root_system m = record { row = None; items = m.root.items }

-- the system inside a block, if it is a subsystem
abbrev pub inner_system : Block → Option System
inner_system b =
    option_map (λ (section : SectionTree). record { row = Some b.number; items = section.items })
    (system_in (kind_of b))

-- the systems of a model: the root, then those inside its blocks
abbrev pub systems_of : Model → List System
systems_of m = root_system m ∷ filter_map inner_system m.blocks

-- the items of the System inside a block, none where it is no subsystem
abbrev pub items_inside : Block → Items
items_inside b =
    option_map_or (λ (section : SectionTree). section.items) (system_in (kind_of b)) End

-- the items of a system's System
abbrev pub items_of : Model → Option ℕ → Items
items_of m None = m.root.items
items_of m (Some e) = option_map_or items_inside (slice_get m.blocks e) End
