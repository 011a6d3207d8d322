-- The model that is found in a file, as that of its tree.
use Rattle.std.proofs.Common.{◌≡◌, refl, sym, ◌∙◌, ap, subst, ℕ, Bool, true, false, cond, List, [], ◌∷◌, slice_get, Option, None, Some, codes}
use Rattle.std.specs.Prelude.{bytes_eq, IfErr, IfOk, Result, Ok, Err}
use Rattle.base_refusals.specs.Refusals.{PlainRefusal}
use Rattle.base_core.specs.declared.Frac.{Frac}
use Rattle.diagram_meaning.specs.declared.BuildFault.{BuildFault}
use Rattle.base_refusals.specs.FirstRefusal.{least_in}
use Rattle.mdl_tree.specs.Spelling.{Items, End, Param, Section}
use Rattle.mdl_tree.specs.Walks.{SectionTree, sections_named, first_section}
use Rattle.mdl_systems.specs.Models.{Model, library, model_with, model_among, model_of}
use Rattle.mdl_systems.specs.Reading.{IsFaultBy, IsFaultOf}
use Rattle.mdl_rows.specs.Refusals.{refusal_by}
use Rattle.mdl_table.specs.Steps.{IsStepOf, IsFixedStep}
use Rattle.mdl_table.proofs.lemmas.ReadBlocks.{fault-found}

err-ok : {A E : Type 0} (fault : E) (a : A) → Err fault ≡ Ok a → ⊥
err-ok fault a e = cc e

-- the section of a model that is there
abbrev section-in : SectionTree → Result Model PlainRefusal → SectionTree
section-in other (Ok m) = m.section
section-in other (Err refusal) = other

-- the first section of a name is the first of all
first-listed : (wanted : List ℕ) (items : Items) → first_section wanted items ≡ slice_get (sections_named wanted items) 0
first-listed wanted End = refl
first-listed wanted (Param name value line rest) = first-listed wanted rest
first-listed wanted (Section name line items rest) = by (bytes_eq name wanted) (first-listed wanted rest)
  where
    own : SectionTree
    own = record { name = name; line = line; items = items }

    by : (t : Bool) → first_section wanted rest ≡ slice_get (sections_named wanted rest) 0 →
        cond t (Some own) (first_section wanted rest) ≡ slice_get (cond t (own ∷ sections_named wanted rest) (sections_named wanted rest)) 0
    by true e = refl
    by false e = e

among-first : (models : List SectionTree) (refusal : Option PlainRefusal) (m : Model) → model_among models refusal ≡ Ok m →
    slice_get models 0 ≡ Some m.section
among-first [] None m e = absurd (err-ok _ m e)
among-first [] (Some refusal) m e = absurd (err-ok refusal m e)
among-first (model ∷ further) refusal m e = by (first_section (codes "System") model.items) refusal further e
  where
    by : (inside : Option SectionTree) (refusal : Option PlainRefusal) (further : List SectionTree) →
        model_with model inside refusal further ≡ Ok m → Some model ≡ Some m.section
    by None refusal further e = absurd (err-ok _ m e)
    by (Some inside) (Some refusal) further e = absurd (err-ok refusal m e)
    by (Some inside) None (second ∷ others) e = absurd (err-ok _ m e)
    by (Some inside) None [] e = ap (λ r. Some (section-in model r)) e

-- the model that is found is the first
found-first : (file : Items) (m : Model) → model_of file ≡ Ok m → first_section (codes "Model") file ≡ Some m.section
found-first file m e =
    first-listed (codes "Model") file
    ∙ among-first (sections_named (codes "Model") file) (least_in library (sections_named (codes "Library") file)) m e

-- its step is that of the file
pub found-step : (file : Items) (m : Model) (step : Option Frac) → model_of file ≡ Ok m →
    IsStepOf m.section.items step → IsFixedStep file step
found-step file m step e is =
    let HasStep : Option SectionTree → Type 0 = λ o. elim o [ Some model ↦ IsStepOf model.items step | None ↦ step ≡ None ] in
    subst HasStep (sym (found-first file m e)) is

-- the error of a model that isn't found is that of the file
pub found-fault : {A : Type 0} (result : Result A BuildFault) (found : Result Model PlainRefusal) → IfErr result (IsFaultOf found) →
    IfErr result (IsFaultBy (refusal_by found))
found-fault (Ok a) found is = is
found-fault (Err fault) found is = fault-found found fault is

-- what follows of what is there
pub all-ok : {A E : Type 0} {P Q : A → Type 0} (result : Result A E) → IfOk result P → ((a : A) → P a → Q a) → IfOk result Q
all-ok (Ok a) is h = h a is
all-ok (Err fault) is h = is
