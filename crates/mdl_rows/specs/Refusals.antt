-- Why a model whose blocks can be read has no table.
use Rattle.std.specs.Prelude.{List, [], ◌∷◌, Option, Some, None, is_none, option_map, Result, Ok, Err}
use Rattle.base_refusals.specs.Refusals.{PlainRefusal}
use Rattle.base_refusals.specs.FirstRefusal.{first_there}
use Rattle.mdl_tree.specs.Spelling.{Items}
use Rattle.mdl_params.specs.Defaults.{DefaultTexts, kinds_of, default_blocks}
use Rattle.mdl_blocks.specs.Faults.{refusal_at}
use Rattle.mdl_wiring.specs.Refusals.{wiring_refusal}
use Rattle.base_refusals.specs.Order.{first_of}
use Rattle.mdl_systems.specs.Models as found
use Rattle.mdl_systems.specs.Models.{model_of}
use Rattle.mdl_systems.specs.Refusals.{model_refusal}
use Rattle.mdl_rows.specs.Models.{Block, Model, System, systems_of, model_with}
use Rattle.mdl_rows.specs.Wires.{members_of}
use Rattle.mdl_rows.specs.RowTexts.{row_fault}

-- the first refusal that is found in some items: that of the least number, and of these that with
-- the least line
abbrev pub first_in : {A : Type 0} → (A → Option PlainRefusal) → List A → Option PlainRefusal
first_in found [] = None
first_in found (a ∷ rest) = first_of (found a) (first_in found rest)

-- the first refusal of a system for its names, ports and lines
abbrev pub system_refusal : Model → System → Option PlainRefusal
system_refusal m s = wiring_refusal (is_none s.row) (members_of m.blocks s.row) s.items

-- the first refusal of all systems
abbrev pub systems_refusal : Model → Option PlainRefusal
systems_refusal m = first_in (system_refusal m) (systems_of m)

-- the refusal of a block for its times and types
abbrev pub row_refusal : Block → Option PlainRefusal
row_refusal b = option_map (refusal_at b.text.line) (row_fault b.text.body)

-- the first refusal of a model whose blocks can be read
abbrev pub rows_refusal : Model → Option PlainRefusal
rows_refusal m = first_of (systems_refusal m) (first_in row_refusal m.blocks)

-- ---- Of a file

-- the defaults of a model
abbrev pub defaults_of : found.Model → DefaultTexts
defaults_of model = kinds_of (default_blocks model.section.items)

-- the first refusal of a model of a file
abbrev pub found_refusal : found.Model → Option PlainRefusal
found_refusal model =
    first_there (model_refusal (defaults_of model) model.system
    ∷ rows_refusal (model_with (defaults_of model) model.system) ∷ [])

-- the first refusal of a file, given what model it has
abbrev pub refusal_by : Result found.Model PlainRefusal → Option PlainRefusal
refusal_by (Ok model) = found_refusal model
refusal_by (Err refusal) = Some refusal

-- the first refusal of a file with these items for what its tree is
abbrev pub tree_refusal : Items → Option PlainRefusal
tree_refusal file = refusal_by (model_of file)
