-- The model of a file, or why the file has none.
use Rattle.std.specs.Prelude.{List, [], ◌∷◌, Option, Some, None, Result, Ok, Err, codes}
use Rattle.base_refusals.specs.declared.ModelKind.TheVariants.{Library, Second}
use Rattle.base_refusals.specs.Refusals.{PlainRefusal, NoModel, TwoModels}
use Rattle.mdl_tree.specs.Spelling.{Items}
use Rattle.mdl_tree.specs.Walks.{SectionTree, sections_named, first_section}
use Rattle.base_refusals.specs.FirstRefusal.{least_in}

-- A model, and the System in it that holds its blocks.
pub record Model : Type 0 where
  pub section : SectionTree
  pub system : SectionTree

-- the refusal of a library
abbrev pub library : SectionTree → Option PlainRefusal
library section = Some (TwoModels section.line Library)

-- a model with this System, if it has one, in a file with these further models and, if there is a
-- library, this refusal
abbrev pub model_with : SectionTree → Option SectionTree → (library : Option PlainRefusal) →
    (further : List SectionTree) → Result Model PlainRefusal
model_with model None library further = Err (NoModel model.line)
model_with model (Some system) (Some refusal) further = Err refusal
model_with model (Some system) None (second ∷ others) = Err (TwoModels second.line Second)
model_with model (Some system) None [] = Ok (record { section = model; system = system })

-- the only model among these, in a file that has no library, or else this refusal
abbrev pub model_among : List SectionTree → (library : Option PlainRefusal) →
    Result Model PlainRefusal
model_among [] None = Err (NoModel 0)
model_among [] (Some refusal) = Err refusal
model_among (model ∷ further) library =
    model_with model (first_section (codes "System") model.items) library further

-- the model of a file's items: first there has to be a model with a System or a library, then no
-- library, then no second model
abbrev pub model_of : Items → Result Model PlainRefusal
model_of file =
    model_among (sections_named (codes "Model") file)
    (least_in library (sections_named (codes "Library") file))
