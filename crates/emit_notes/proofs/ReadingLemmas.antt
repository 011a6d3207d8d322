-- What is read of the blocks of an accepted text.
use Rattle.std.proofs.Common.{◌≡◌, sym, ◌∙◌, ap, [], ◌∷◌, map, None, Some}
use Rattle.std.specs.Prelude.{filter_map, Result, Ok, Err}
use Rattle.std.specs.Result.{result_err}
use Rattle.base_refusals.specs.Refusals.{PlainRefusal}
use Rattle.mdl_tree.specs.Walks.{SectionTree}
use Rattle.mdl_params.specs.Defaults.{DefaultTexts, IsDefaults}
use Rattle.mdl_systems.specs.ByDefaults.{ReadingIsByDefaults}
use Rattle.mdl_systems.specs.Models as found
use Rattle.mdl_systems.specs.Outlines.{outlines_of}
use Rattle.mdl_systems.specs.Refusals.{model_refusal}
use Rattle.mdl_rows.specs.Models.{Model, model_with}
use Rattle.mdl_rows.specs.Refusals.{defaults_of, found_refusal, refusal_by, rows_refusal}
use Rattle.mdl_table.proofs.lemmas.ReadBlocks.{model-by, refusal-by}
use Rattle.mdl_table.proofs.lemmas.RowBlocks.{accepted, all-none}
use Rattle.emit_notes.specs.Labels.{label_of, model_labels}
use Rattle.emit_notes.specs.Sections.{label_said, section_of}
use Rattle.emit_notes.proofs.SectionLemmas.{model-fits}
use Rattle.emit_notes.proofs.SaidLemmas.{labels-said}

-- ---- The model

-- a file that isn't refused has a model
pub not-refused : (r : Result found.Model PlainRefusal) (refusal : PlainRefusal) → refusal_by r ≡ None → result_err r ≡ Some refusal → ⊥
not-refused (Ok model) refusal accepted e = cc e
not-refused (Err other) refusal accepted e = cc accepted

pub accepted-model : (r : Result found.Model PlainRefusal) (model : found.Model) → refusal_by r ≡ None → r ≡ Ok model →
    found_refusal model ≡ None
accepted-model r model accepted e = sym (ap refusal_by e) ∙ accepted

module _ (by_defaults : ReadingIsByDefaults) (defaults : DefaultTexts) (model : found.Model)
    (same : IsDefaults defaults model.section.items) where
  -- it isn't refused by defaults that give the same
  pub accepted-by : found_refusal model ≡ None → model_refusal defaults model.system ≡ None
  accepted-by accepted =
      (all-none (model_refusal defaults model.system ∷ rows_refusal (model_with defaults model.system) ∷ [])
      (refusal-by by_defaults defaults (defaults_of model) same model.system ∙ accepted)).0

  -- and has the same labels
  pub labels-by : map label_of (model_with defaults model.system).blocks ≡ model_labels model
  labels-by = ap (λ (m : Model). map label_of m.blocks) (model-by by_defaults defaults (defaults_of model) same model.system)

-- ---- Its blocks

-- the labels that the sections of its blocks say are its labels
pub labels-accepted : (defaults : DefaultTexts) (system : SectionTree) → model_refusal defaults system ≡ None →
    filter_map (label_said defaults) (map section_of (outlines_of system)) ≡ map label_of (model_with defaults system).blocks
labels-accepted defaults system e = labels-said defaults (outlines_of system) (model-fits system) (accepted defaults system e).each
