-- What stands for a block's parameter.
use Rattle.std.specs.Prelude.{◌≡◌, ℕ, Bool, not, ◌&&◌, bytes_eq, List, [], ◌∷◌, Option, None, Some, codes, option_map, unwrap_or, if◌then◌else◌}
use Rattle.std.specs.Option.{option_or}
use Rattle.base_core.specs.declared.base.ParamName.{ParamName}
use Rattle.base_core.specs.declared.base.ParamName.TheVariants.{InitialCondition}
use Rattle.base_core.specs.Words.{param_word}
use Rattle.mdl_tree.specs.Spelling.{Items, End, Param, Section}
use Rattle.mdl_tree.specs.Walks.{SectionTree, sections_named, first_section, first_value}
use Rattle.mdl_params.specs.declared.block_type.BlockType.TheVariants.{Delay}
use Rattle.mdl_params.specs.BlockTypes.{block_type_name, beside}
use Rattle.mdl_params.specs.Language.{is_same_param, default_text}

-- ---- The defaults of a model

-- For each type of block the names and values of its parameters.
abbrev pub DefaultTexts : Type 0
DefaultTexts = List (List ℕ × List (List ℕ × List ℕ))

-- the names and values of the parameters among the items
abbrev pub values_of : Items → List (List ℕ × List ℕ)
values_of End = []
values_of (Param name value line rest) = (name, value) ∷ values_of rest
values_of (Section name line items rest) = values_of rest

-- a type with its parameters in front of other types, where a block names its type
abbrev pub with_kind : Option (List ℕ) → Items → DefaultTexts → DefaultTexts
with_kind None items texts = texts
with_kind (Some kind) items texts = (kind, values_of items) ∷ texts

-- the types that the blocks of these sections name, each with its parameters, in order
abbrev pub kinds_of : List SectionTree → DefaultTexts
kinds_of [] = []
kinds_of (block ∷ blocks) =
    with_kind (first_value (codes "BlockType") block.items) block.items (kinds_of blocks)

-- the blocks of the first section of defaults in a model
abbrev pub default_blocks : Items → List SectionTree
default_blocks model =
    unwrap_or (option_map (λ section. sections_named (codes "Block") section.items)
    (first_section (codes "BlockParameterDefaults") model)) []

-- the texts give for each type what the first block of that type says in the model's first section
-- of defaults
abbrev pub IsDefaults : DefaultTexts → Items → Type 0
IsDefaults texts model =
    (kind : List ℕ) → beside kind texts ≡ beside kind (kinds_of (default_blocks model))

-- the texts have the block's type and its parameters, if it is a new one
abbrev pub AddsKind : DefaultTexts → DefaultTexts → Items → Type 0
AddsKind old new block =
    (kind : List ℕ) →
    beside kind new
    ≡ option_or (beside kind old)
    (beside kind (with_kind (first_value (codes "BlockType") block) block []))

-- ---- The text that stands for a parameter

-- whether a parameter of a block of this type has the second name `X0`: an initial condition, but
-- that of a Delay
abbrev pub has_second_name : (kind : List ℕ) → ParamName → Bool
has_second_name kind name =
    is_same_param name InitialCondition && not (bytes_eq kind (block_type_name Delay))

-- a parameter of a block of this type by its name, and where it has a second name also by that
abbrev pub by_names : (List ℕ → Option (List ℕ)) → (kind : List ℕ) → ParamName → Option (List ℕ)
by_names value kind name =
    option_or (value (param_word name)) (if has_second_name kind name then value (codes "X0")
    else None)

-- the text that a file gives: the block's own, else that of its type among the model's defaults
abbrev pub written_text : DefaultTexts → Items → List ℕ → ParamName → Option (List ℕ)
written_text texts block kind name =
    option_or (by_names (λ wanted. first_value wanted block) kind name)
    (by_names (λ wanted. beside wanted (unwrap_or (beside kind texts) [])) kind name)

-- the same, else the default of its type
abbrev pub parameter_text : DefaultTexts → Items → List ℕ → ParamName → Option (List ℕ)
parameter_text texts block kind name =
    option_or (written_text texts block kind name) (default_text kind name)
