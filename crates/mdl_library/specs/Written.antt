-- A model with the blocks that its references name written out in their place.
use Rattle.std.specs.Prelude.{ℕ, zero, suc, true, false, List, [], ◌++◌, flat_map, slice_get, Option, Some, None, unwrap_or, bytes_eq, codes}
use Rattle.std.specs.Option.{option_map_or}
use Rattle.base_core.specs.declared.base.ParamName.{ParamName}
use Rattle.base_core.specs.Words.{param_word}
use Rattle.mdl_tree.specs.Spelling.{Items, End, Param, Section}
use Rattle.mdl_tree.specs.Walks.{first_value}
use Rattle.mdl_params.specs.declared.BlockType.TheVariants.{SubSystem}
use Rattle.mdl_params.specs.BlockTypes.{block_type_of, block_type_name}
use Rattle.mdl_params.specs.Language.{parameters}
use Rattle.mdl_blocks.specs.Peers.{writes_type}
use Rattle.mdl_library.specs.Items.{inside_first, with_inside, moved, set_on, titled}
use Rattle.mdl_library.specs.Given.{Given, given_by, name_given, is_reference}
use Rattle.mdl_library.specs.Library.{Library, Source, named_by}

-- ---- The blocks of a copy

-- each parameter of a type of block but its name, with the text that stands for it in a block
abbrev pub settled_as : Given → Items → (kind : List ℕ) → List (List ℕ × List ℕ)
settled_as given block kind =
    flat_map
    (λ (parameter : ParamName × List ℕ).
    titled (param_word parameter.0) (given.parameter block kind parameter.0))
    (option_map_or parameters (block_type_of kind) [])

-- the parameters of a block, by its type
abbrev pub settled : Given → Items → List (List ℕ × List ℕ)
settled given block =
    option_map_or (settled_as given block) (first_value (codes "BlockType") block) []

-- a block of a type with a name, and the parameters that stand for another block
abbrev pub block_on : (line : ℕ) → (kind name : Option (List ℕ)) → Given → Items →
    (inside : Items) → Items
block_on line kind name given block inside =
    set_on line (titled (codes "BlockType") kind ++ titled (codes "Name") name
    ++ settled given block) inside

-- a System alone on a line
abbrev pub system_on : (line : ℕ) → Items → Items
system_on line items = Section (codes "System") line items End

-- the System on a line, if there is one
abbrev pub inside_on : (line : ℕ) → Option Items → Items
inside_on line inside = option_map_or (system_on line) inside End

-- a block of the model, with these items in its System, if it is a subsystem with one
abbrev pub kept : Items → (inside : Option Items) → Items
kept block inside =
    option_map_or (λ system. with_inside (codes "System") system block) inside block

-- ---- Systems

-- What the blocks of a System become in a file that gives this, where `system line k` has the items
-- of the System of the source at place k in a copy on this line. Of a reference's copy all is on
-- one line; of the model itself all but references stays.
module _ (library : Library) (given : Given) (system : (line : ℕ) → ℕ → Items)
    (copy : Option ℕ) where
  -- a reference: a subsystem with its name, and parameters and System of the block that it names;
  -- one that names none stays
  abbrev pub reference_written : (line : ℕ) → Items → Items
  reference_written line block =
      option_map_or
      (λ k. option_map_or
      (λ (source : Source).
      block_on line (Some (block_type_name SubSystem)) (name_given given block) library.given
      source.1.items (inside_on line (Some (system line k))))
      (slice_get library.sources k) (moved copy block))
      (named_by library.sources given block) (moved copy block)

  -- another block, where its System has these items, if it is a subsystem with one
  abbrev pub block_written : Items → (inside : Option Items) → Items
  block_written block inside = elim copy [
    | None ↦ kept block inside
    | Some line ↦
        block_on line (first_value (codes "BlockType") block) (name_given given block) given block
        (inside_on line inside)
  ]

  abbrev mutual
    pub system_written : Items → Items
    system_written End = End
    system_written (Param name value line rest) =
        Param name value (unwrap_or copy line) (system_written rest)
    system_written (Section name line items rest) = elim (bytes_eq name (codes "Block")) [
      | true ↦
          let inside : Items = elim (is_reference items) [
            | true ↦ reference_written (unwrap_or copy line) items
            | false ↦
                let inner : Option Items = elim (writes_type SubSystem items) [
                  | true ↦ inner_written items
                  | false ↦ None
                ] in
                block_written items inner
          ] in
          Section name (unwrap_or copy line) inside (system_written rest)
      | false ↦ Section name (unwrap_or copy line) (moved copy items) (system_written rest)
    ]

    -- the items of the first System among a block's items, if there is one
    pub inner_written : Items → Option Items
    inner_written End = None
    inner_written (Param name value line rest) = inner_written rest
    inner_written (Section name line items rest) = elim (bytes_eq name (codes "System")) [
      | true ↦ Some (system_written items)
      | false ↦ inner_written rest
    ]

-- the items of the System of the source at a place in a copy on a line, written out to so many
-- references inside one another
abbrev pub source_written : Library → (depth : ℕ) → (line : ℕ) → ℕ → Items
source_written library zero line k = End
source_written library (suc depth) line k =
    option_map_or
    (λ (source : Source). system_written library library.given (source_written library depth)
    (Some line) (inside_first (codes "System") source.1.items))
    (slice_get library.sources k) End

-- ---- A model

-- in a model that isn't too deep at most so many references are inside one another
abbrev pub most_inside : ℕ
most_inside = 32

-- the items of a Model, with the references of its System written out to so many inside one
-- another
abbrev pub model_written : (depth : ℕ) → Library → Items → Items
model_written depth library model =
    with_inside (codes "System")
    (system_written library (given_by model) (source_written library depth) None
    (inside_first (codes "System") model)) model

-- a file's items, with its first Model written out so
abbrev pub expanded_to : (depth : ℕ) → Library → Items → Items
expanded_to depth library file =
    with_inside (codes "Model")
    (model_written depth library (inside_first (codes "Model") file)) file

-- a file's items, with all references of its first Model written out
abbrev pub expanded : Library → Items → Items
expanded library file = expanded_to most_inside library file
