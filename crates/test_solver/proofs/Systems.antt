-- Systems from the inside outward: what holds of a subsystem rests on what holds of the system around it.
use Rattle.std.specs.Prelude.{◌≡◌, ℕ, suc, ◌<◌, Bool, not, ◌&&◌, ◌||◌, List, ◌∷◌, length, Option, Some, None, ℤ}
use Rattle.std.proofs.Common.{◌∙◌, sym, ap}
use Rattle.base_core.specs.declared.Control.{Control}
use Rattle.diagram_activity.specs.declared.TrigMem.{TrigMem}
use Rattle.diagram_activity.specs.Activity.{is_high, active, off}
use Rattle.diagram_meaning.specs.Rows.{row_at, control_at, is_enabled, enclosing}
use Rattle.diagram_meaning.specs.WellFormed.{IsNested}
use Rattle.diagram_meaning.specs.Diagram.{Diagram}
use Rattle.diagram_meaning.specs.Run.{trigger_at, enable_value, trigger_value, active_in, any_off, is_disabled}
use Rattle.diagram_meaning.proofs.lemmas.Enclosing.{enclosing-step}

-- how far a system is in the table: outward it falls
abbrev pub rank : Option ℕ → ℕ
rank None = 0
rank (Some e) = suc e

module _ (d : Diagram) (nested : IsNested d.rows) (v : List ℤ) (g : List TrigMem) (system : Option ℕ) (e : ℕ)
    (is : system ≡ Some e) (inside : e < length d.rows) (x : List ℤ) where
  -- the subsystems around the rows of a subsystem
  around-is : enclosing d.rows None system ≡ e ∷ enclosing d.rows None (row_at d.rows e).owner
  around-is = ap (enclosing d.rows None) is ∙ enclosing-step d.rows None nested e inside

  abbrev Outside : Bool → Type 0
  Outside outside = outside ≡ active_in d None x v g (enclosing d.rows None (row_at d.rows e).owner)

  -- the subsystem's control and what its enable is
  abbrev Enables : Control → ℤ → Type 0
  Enables control enable = (control ≡ control_at d.rows e) × (enable ≡ enable_value d None x v g e)

  pub active-here : (outside : Bool) (control : Control) (memory : TrigMem) (enable trigger : ℤ) →
      Outside outside → memory ≡ trigger_at g e → Enables control enable → trigger ≡ trigger_value d None x v g e →
      active outside control memory enable trigger ≡ active_in d None x v g (enclosing d.rows None system)
  active-here outside control memory enable trigger p m q t =
      (λ i. active (p i) (q.0 i) (m i) (q.1 i) (t i)) ∙ ap (active_in d None x v g) (sym around-is)

  pub off-here : (outside off_outside : Bool) (control : Control) (enable : ℤ) →
      Outside outside → off_outside ≡ any_off d None x v g (enclosing d.rows None (row_at d.rows e).owner) → Enables control enable →
      (off outside control enable || off_outside) ≡ any_off d None x v g (enclosing d.rows None system)
  off-here outside off_outside control enable p o q =
      (λ i. off (p i) (q.0 i) (q.1 i) || o i) ∙ ap (any_off d None x v g) (sym around-is)

  pub disabled-here : (outside : Bool) (control : Control) (enable : ℤ) → Outside outside → Enables control enable →
      (is_enabled control && (outside && not (is_high enable))) ≡ is_disabled d None x v g (enclosing d.rows None system)
  disabled-here outside control enable p q =
      (λ i. is_enabled (q.0 i) && (p i && not (is_high (q.1 i)))) ∙ ap (is_disabled d None x v g) (sym around-is)
