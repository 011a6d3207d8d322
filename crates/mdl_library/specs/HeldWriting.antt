-- What is written of a file in memory.
use Rattle.std.specs.Prelude.{ℕ, true, false, Option, None, unwrap_or}
use Rattle.mdl_tree.specs.Spelling.{Items}
use Rattle.mdl_tree.specs.Walks.{SectionTree, first_value}
use Rattle.mdl_params.specs.declared.BlockType.TheVariants.{SubSystem}
use Rattle.mdl_blocks.specs.Peers.{writes_type}
use Rattle.std.specs.Prelude.{codes}
use Rattle.mdl_library.specs.Given.{is_reference, name_given}
use Rattle.mdl_library.specs.Written.{inside_on, block_on, reference_written, block_written, system_written, inner_written, source_written}
use Rattle.mdl_library.specs.Held.{given_seen, library_seen}
use Rattle.mdl_library.specs.declared.writing.Writing as held

module _ (w : held.Writing) where
  -- the items of a System
  abbrev pub system_of : Items → Items
  system_of items =
      system_written (library_seen w.library.now) (given_seen w.given.now)
      (source_written (library_seen w.library.now) w.depth) w.copy items

  -- the items of the first System of a block, if it is a subsystem with one
  abbrev pub inner_of : SectionTree → Option Items
  inner_of block = elim (writes_type SubSystem block.items) [
    | true ↦
        inner_written (library_seen w.library.now) (given_seen w.given.now)
        (source_written (library_seen w.library.now) w.depth) w.copy block.items
    | false ↦ None
  ]

  -- the items of a reference
  abbrev pub reference_of : SectionTree → Items
  reference_of block =
      reference_written (library_seen w.library.now) (given_seen w.given.now)
      (source_written (library_seen w.library.now) w.depth) w.copy (unwrap_or w.copy block.line)
      block.items

  -- the items of a block of a copy on a line, with this System
  abbrev pub copied_of : (line : ℕ) → SectionTree → (inside : Option Items) → Items
  copied_of line block inside =
      block_on line (first_value (codes "BlockType") block.items)
      (name_given (given_seen w.given.now) block.items) (given_seen w.given.now) block.items
      (inside_on line inside)

  -- the items of a block
  abbrev pub block_of : SectionTree → Items
  block_of block = elim (is_reference block.items) [
    | true ↦ reference_of block
    | false ↦
        block_written (library_seen w.library.now) (given_seen w.given.now)
        (source_written (library_seen w.library.now) w.depth) w.copy block.items (inner_of block)
  ]
