-- What a model has for its tree, by its sections in memory.
use Rattle.std.specs.Prelude.{List, [], ◌∷◌, Option}
use Rattle.base_refusals.specs.Refusals.{PlainRefusal}
use Rattle.diagram_meaning.specs.declared.table.Row.{Row}
use Rattle.base_refusals.specs.FirstRefusal.{first_there}
use Rattle.diagram_meaning.specs.Nested as nested
use Rattle.mdl_tree.specs.declared.tree.Section.{Section}
use Rattle.mdl_tree.specs.Values.{section_tree}
use Rattle.mdl_tree.specs.Walks.{SectionTree}
use Rattle.mdl_params.specs.Defaults.{DefaultTexts}
use Rattle.mdl_systems.specs.Models as found
use Rattle.mdl_systems.specs.Refusals.{model_refusal}
use Rattle.mdl_systems.specs.Systems.{tree_of_model}
use Rattle.mdl_rows.specs.Models.{Model, model_with}
use Rattle.mdl_rows.specs.Refusals.{defaults_of, found_refusal, rows_refusal}
use Rattle.mdl_table.specs.Nesting.{nested_by}

-- the first refusal of a model with these defaults and this System
abbrev pub refusal_with : DefaultTexts → SectionTree → Option PlainRefusal
refusal_with defaults system =
    first_there (model_refusal defaults system ∷ rows_refusal (model_with defaults system) ∷ [])

-- the nested systems of this System, each controlled as its row is
abbrev pub root_of : List Row → Section → nested.System
root_of rows system = nested_by rows (tree_of_model (section_tree system))

-- a model with its System
abbrev pub found_of : (model system : Section) → found.Model
found_of model system = record { section = section_tree model; system = section_tree system }

-- its blocks by its own defaults
abbrev pub model_of : (model system : Section) → Model
model_of model system = model_with (defaults_of (found_of model system)) (section_tree system)

-- its first refusal
abbrev pub refusal_of : (model system : Section) → Option PlainRefusal
refusal_of model system = found_refusal (found_of model system)
