-- How many blocks a model has once its references are written out, and how deep its subsystems are
-- inside one another, found without writing them out.
use Rattle.std.specs.Prelude.{ℕ, ◌+◌, max, true, false, nat_lt, ◌||◌, Bool, List, [], map, slice_index_or, bytes_eq, codes}
use Rattle.std.specs.Option.{option_map_or}
use Rattle.std.specs.Fn.{iterate}
use Rattle.mdl_tree.specs.Spelling.{Items, End, Param, Section}
use Rattle.mdl_params.specs.declared.BlockType.TheVariants.{SubSystem}
use Rattle.mdl_blocks.specs.Peers.{writes_type}
use Rattle.mdl_library.specs.Given.{Given, given_by, is_reference}
use Rattle.mdl_library.specs.Library.{Library, Source, named_by}
use Rattle.mdl_library.specs.Items.{inside_first}
use Rattle.mdl_library.specs.Written.{most_inside}

-- how many blocks a System has with all inside them, and how many subsystems at most are inside one
-- another there
pub record Size : Type 0 where
  pub blocks : ℕ
  pub depth : ℕ

abbrev pub no_size : Size
no_size = record { blocks = 0; depth = 0 }

-- one beside another
abbrev pub beside_size : Size → Size → Size
beside_size a b = record { blocks = a.blocks + b.blocks; depth = max a.depth b.depth }

-- a block that is no subsystem, and one that is and has a System of this size
abbrev pub plain_size : Size
plain_size = record { blocks = 1; depth = 0 }

abbrev pub subsystem_size : Size → Size
subsystem_size inside = record { blocks = inside.blocks + 1; depth = inside.depth + 1 }

-- The size of a System in a file that gives this, where the Systems of a library's sources have
-- these sizes.
module _ (sources : List Source) (given : Given) (sizes : List Size) where
  -- a reference; one that names nothing is no subsystem
  abbrev pub reference_size : Items → Size
  reference_size block =
      option_map_or (λ k. subsystem_size (slice_index_or sizes k no_size))
      (named_by sources given block) plain_size

  abbrev mutual
    pub system_size : Items → Size
    system_size End = no_size
    system_size (Param name value line rest) = system_size rest
    system_size (Section name line items rest) = elim (bytes_eq name (codes "Block")) [
      | true ↦
          let own : Size = elim (is_reference items) [
            | true ↦ reference_size items
            | false ↦ elim (writes_type SubSystem items) [
              | true ↦ subsystem_size (inner_size items)
              | false ↦ plain_size
            ]
          ] in
          beside_size own (system_size rest)
      | false ↦ system_size rest
    ]

    -- that of the first System among a block's items
    pub inner_size : Items → Size
    inner_size End = no_size
    inner_size (Param name value line rest) = inner_size rest
    inner_size (Section name line items rest) = elim (bytes_eq name (codes "System")) [
      | true ↦ system_size items
      | false ↦ inner_size rest
    ]

-- the sizes of the sources' Systems by those to one reference less inside one another
abbrev pub next_sizes : Library → List Size → List Size
next_sizes library sizes =
    map (λ (source : Source).
    inner_size library.sources library.given sizes source.1.items) library.sources

-- those of the Systems written out to so many references inside one another
abbrev pub source_sizes : Library → (depth : ℕ) → List Size
source_sizes library depth = iterate (next_sizes library) depth []

-- the size of the System of a Model with its references written out so
abbrev pub size_in : (depth : ℕ) → Library → (model : Items) → Size
size_in depth library model =
    inner_size library.sources (given_by model) (source_sizes library depth) model

-- that of the System of a file's first Model
abbrev pub size_to : (depth : ℕ) → Library → Items → Size
size_to depth library file = size_in depth library (inside_first (codes "Model") file)

-- the size with all of them written out
abbrev pub model_size : Library → Items → Size
model_size library file = size_to most_inside library file

-- more than 20,000 blocks, or a subsystem inside 32 others
abbrev pub is_too_large : Size → Bool
is_too_large size = nat_lt 20_000 size.blocks || nat_lt most_inside size.depth
