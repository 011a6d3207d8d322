-- Sizes in memory: a number that 32 bits don't hold is the greatest that they do.
use Rattle.std.specs.Prelude.{ℕ, ◌+◌, max, true, false, List, map, slice_get}
use Rattle.std.specs.Option.{option_map_or}
use Rattle.base_core.specs.Numbers.{reported_number}
use Rattle.mdl_tree.specs.Walks.{SectionTree}
use Rattle.mdl_params.specs.declared.BlockType.TheVariants.{SubSystem}
use Rattle.mdl_blocks.specs.Peers.{writes_type}
use Rattle.mdl_library.specs.Given.{Given, is_reference}
use Rattle.mdl_library.specs.Library.{Source}
use Rattle.mdl_library.specs.Sizes.{Size, no_size, plain_size, subsystem_size, reference_size, inner_size}
use Rattle.mdl_library.specs.declared.sizes.Size as held

-- a size in memory
abbrev pub capped : Size → held.Size
capped size =
    record { blocks = reported_number size.blocks; depth = reported_number size.depth }

abbrev pub are_capped : List Size → List held.Size
are_capped sizes = map capped sizes

-- one in memory beside another, and that of a subsystem around it
abbrev pub beside : held.Size → held.Size → held.Size
beside a b =
    record { blocks = reported_number (a.blocks + b.blocks); depth = max a.depth b.depth }

abbrev pub around : held.Size → held.Size
around inside =
    record {
      blocks = reported_number (inside.blocks + 1);
      depth = reported_number (inside.depth + 1);
    }

-- the size of a block with all inside it
abbrev pub block_size : List Source → Given → List Size → SectionTree → Size
block_size sources given sizes block = elim (is_reference block.items) [
  | true ↦ reference_size sources given sizes block.items
  | false ↦ elim (writes_type SubSystem block.items) [
    | true ↦ subsystem_size (inner_size sources given sizes block.items)
    | false ↦ plain_size
  ]
]

-- the size of the System of the source at a place, if there is one
abbrev pub size_at : List Source → Given → List Size → (place : ℕ) → Size
size_at sources given sizes place =
    option_map_or (λ (source : Source). inner_size sources given sizes source.1.items)
    (slice_get sources place) no_size
