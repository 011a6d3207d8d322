-- A model of one input.
use Rattle.std.specs.Prelude.{◌≡◌, List, [], ◌∷◌, None, refl}
use Rattle.std.proofs.Common.{sym, subst}
use Rattle.base_core.specs.declared.base.Control.TheVariants.{Plain}
use Rattle.base_fixed_point.specs.declared.TypeText.{TypeText}
use Rattle.diagram_meaning.specs.declared.table.Row.{Row}
use Rattle.diagram_meaning.specs.RowTable.{RowTable}
use Rattle.diagram_meaning.specs.Nested.{System, system, no_more, AreSystemsOf}
use Rattle.diagram_meaning.specs.WellFormed.{IsWellFormed}
use Rattle.diagram_meaning.proofs.lemmas.WellFormedTests.{well_formed-from}
use Rattle.test_diagram.specs.Samples.{inport_row}

abbrev pub one_input : List Row → RowTable
one_input rows = record { rows = rows; fixed_step = None }

pub one_input-well_formed : (rows : List Row) (text : TypeText) → rows ≡ inport_row text ∷ [] → IsWellFormed (one_input rows)
one_input-well_formed rows text e = subst (λ rows. IsWellFormed (one_input rows)) (sym e)
    (well_formed-from (one_input (inport_row text ∷ [])) refl refl refl refl refl (record { kind = tt; type = tt; time = tt }, tt) tt)

pub one_input-systems : (rows : List Row) (text : TypeText) (root : System) → rows ≡ inport_row text ∷ [] →
    root ≡ system None 2 Plain (0 ∷ []) no_more →
    AreSystemsOf rows root
one_input-systems rows text root e same = subst (λ root. AreSystemsOf rows root) (sym same)
    (subst (λ rows. AreSystemsOf rows (system None 2 Plain (0 ∷ []) no_more)) (sym e)
    (record { is_root = refl; agrees = (refl, refl, refl, tt) }))
