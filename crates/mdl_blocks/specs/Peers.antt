-- How many Inports and Outports a system has.
use Rattle.std.specs.Prelude.{ℕ, Bool, false, ◌&&◌, filter, length, bytes_eq, codes}
use Rattle.std.specs.Option.{option_map_or}
use Rattle.base_core.specs.Numbers.{reported_number}
use Rattle.mdl_tree.specs.Spelling.{Items, End, Param, Section}
use Rattle.mdl_tree.specs.Walks.{SectionTree, sections_named, first_value}
use Rattle.mdl_params.specs.declared.BlockType.{BlockType}
use Rattle.mdl_params.specs.declared.BlockType.TheVariants.{Inport, Outport}
use Rattle.mdl_params.specs.BlockTypes.{block_type_name}
use Rattle.mdl_blocks.specs.declared.peers.Peers.{Peers}

-- whether a block's items write this BlockType
abbrev pub writes_type : BlockType → Items → Bool
writes_type type items =
    option_map_or (bytes_eq (block_type_name type)) (first_value (codes "BlockType") items) false

-- whether the first of some items is a block of this type
abbrev pub is_block_of : BlockType → Items → Bool
is_block_of type End = false
is_block_of type (Param name value line rest) = false
is_block_of type (Section name line items rest) =
    bytes_eq name (codes "Block") && writes_type type items

-- how many blocks of a type are among the items of a System
abbrev pub count_in : BlockType → Items → ℕ
count_in type items =
    length (filter (λ (b : SectionTree). writes_type type b.items)
    (sections_named (codes "Block") items))

-- how many Inports and Outports are among the items of a System; a count that doesn't fit 32 bits
-- is the greatest that does
abbrev pub peers_in : Items → Peers
peers_in items =
    record {
      inports = reported_number (count_in Inport items);
      outports = reported_number (count_in Outport items);
    }
