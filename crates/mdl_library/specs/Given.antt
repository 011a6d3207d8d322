-- What a file gives for its blocks: the text that stands for a parameter, and the source of a
-- reference that writes none.
use Rattle.std.specs.Prelude.{ℕ, Bool, false, List, Option, option_and_then, find, bytes_eq, codes}
use Rattle.std.specs.Option.{option_or, option_map_or}
use Rattle.base_core.specs.declared.base.ParamName.{ParamName}
use Rattle.base_core.specs.declared.base.ParamName.TheVariants.{Name}
use Rattle.mdl_tree.specs.Spelling.{Items}
use Rattle.mdl_tree.specs.Walks.{SectionTree, first_value}
use Rattle.mdl_params.specs.Defaults.{kinds_of, default_blocks, parameter_text}

-- whether a block is a reference
abbrev pub is_reference : Items → Bool
is_reference block =
    option_map_or (bytes_eq (codes "Reference")) (first_value (codes "BlockType") block) false

-- the text that stands for a parameter of a block of a type, and the SourceBlock that the file's
-- defaults give
pub record Given : Type 0 where
  pub parameter : (block : Items) → (kind : List ℕ) → ParamName → Option (List ℕ)
  pub source : Option (List ℕ)

-- the SourceBlock of the first Reference among some defaults
abbrev pub default_source : List SectionTree → Option (List ℕ)
default_source blocks =
    option_and_then (λ (block : SectionTree). first_value (codes "SourceBlock") block.items)
    (find (λ (block : SectionTree). is_reference block.items) blocks)

-- what the defaults in a Model or a Library give
abbrev pub given_by : Items → Given
given_by file =
    record {
      parameter = parameter_text (kinds_of (default_blocks file));
      source = default_source (default_blocks file);
    }

-- the name of a block: its own, else that of its type
abbrev pub name_given : Given → Items → Option (List ℕ)
name_given given block =
    option_or (first_value (codes "Name") block)
    (option_and_then (λ kind. given.parameter block kind Name)
    (first_value (codes "BlockType") block))

-- the SourceBlock of a reference: its own, else that of the file's defaults
abbrev pub source_given : Given → Items → Option (List ℕ)
source_given given block = option_or (first_value (codes "SourceBlock") block) given.source
