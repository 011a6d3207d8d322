-- A library of subsystems, and the block of it that a reference names.
use Rattle.std.specs.Prelude.{ℕ, ◌==◌, is_some, if◌then◌else◌, List, [], ◌∷◌, ◌++◌, filter_map, flat_map, fold, position, Option, None, option_map, option_and_then, bytes_eq, codes}
use Rattle.mdl_tree.specs.Spelling.{Items}
use Rattle.mdl_tree.specs.Walks.{SectionTree, sections_named, first_section, first_value}
use Rattle.mdl_params.specs.declared.BlockType.TheVariants.{SubSystem}
use Rattle.mdl_params.specs.BlockTypes.{beside}
use Rattle.mdl_blocks.specs.Peers.{writes_type}
use Rattle.mdl_library.specs.Given.{Given, given_by, name_given, source_given}

-- A block that references can name: the text that names it, and its section.
abbrev pub Source : Type 0
Source = List ℕ × SectionTree

-- A library: what it gives for its blocks, its System, and the blocks directly in it that
-- references can name, in order.
pub record Library : Type 0 where
  pub given : Given
  pub system : SectionTree
  pub sources : List Source

-- a name with each `/` doubled
abbrev pub doubled : List ℕ → List ℕ
doubled name = flat_map (λ c. if c == 47 then 47 ∷ 47 ∷ [] else c ∷ []) name

-- a subsystem with a name is named by the library's name, `/`, and its own name with each `/`
-- doubled
abbrev pub source_of : (library : List ℕ) → Given → SectionTree → Option Source
source_of library given block =
    if writes_type SubSystem block.items
    then option_map (λ name. (library ++ 47 ∷ doubled name, block)) (name_given given block.items)
    else None

-- one more source: of those with one text the first counts
abbrev pub with_source : List Source → Source → List Source
with_source sources source =
    if is_some (beside source.0 sources) then sources else sources ++ source ∷ []

-- the sources among the blocks of a library of this name
abbrev pub sources_among : (library : List ℕ) → Given → List SectionTree → List Source
sources_among library given blocks =
    fold with_source [] (filter_map (source_of library given) blocks)

-- a library of this name, with these items and this System
abbrev pub library_with : (name : List ℕ) → Items → SectionTree → Library
library_with name items system =
    record {
      given = given_by items;
      system = system;
      sources = sources_among name (given_by items)
          (sections_named (codes "Block") system.items);
    }

-- the library of a section with a Name and a System
abbrev pub library_in : SectionTree → Option Library
library_in section =
    option_and_then (λ name. option_map (library_with name section.items)
    (first_section (codes "System") section.items))
    (first_value (codes "Name") section.items)

-- the library of a file's items: that of the first section Library at the top
abbrev pub library_of : Items → Option Library
library_of file = option_and_then library_in (first_section (codes "Library") file)

-- the place among some sources of the one that a reference names, by what the file gives that it is
-- in
abbrev pub named_by : List Source → Given → Items → Option ℕ
named_by sources given block =
    option_and_then (λ text. position (λ (source : Source). bytes_eq text source.0) sources)
    (source_given given block)
