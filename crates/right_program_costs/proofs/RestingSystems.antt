-- What is under a child that is not active is not active.
use Rattle.std.specs.Prelude.{◌≡◌, ℕ, zero, suc, ◌<◌, false, List, length, Option, ℤ, refl}
use Rattle.std.proofs.Common.{ap, ◌∙◌, arith, inl, inr}
use Rattle.base_core.specs.declared.Control.{Control}
use Rattle.base_core.specs.declared.Control.TheVariants.{Plain, Enabled, Triggered, Both}
use Rattle.diagram_activity.specs.declared.TrigMem.{TrigMem}
use Rattle.diagram_activity.specs.Activity.{active}
use Rattle.diagram_meaning.specs.Rows.{control_at, around}
use Rattle.diagram_meaning.specs.WellFormed.{IsNested}
use Rattle.diagram_meaning.specs.Diagram.{Diagram}
use Rattle.diagram_meaning.specs.Run.{trigger_at, enable_value, trigger_value, active_in}
use Rattle.diagram_meaning.specs.RunLaws.{IsSystemWithin}
use Rattle.right_linking.proofs.lemmas.SystemsUnder.{Under, IsChildRow, owner-lower, owner-below, under-later, around-step, system-before}

-- nothing is active in what is not
at-rest : (control : Control) (memory : TrigMem) (enable trigger : ℤ) → active false control memory enable trigger ≡ false
at-rest Plain memory enable trigger = refl
at-rest (Enabled reset) memory enable trigger = refl
at-rest (Triggered waits_for) memory enable trigger = refl
at-rest (Both reset waits_for) memory enable trigger = refl

module _ (d : Diagram) (nested : IsNested d.rows) (s n : Option ℕ) (within : IsSystemWithin d.rows s n) (e : ℕ)
    (child : IsChildRow d.rows n e)
    (x v : List ℤ) (g : List TrigMem) where
  pub under-rests : (k z : ℕ) → z < length d.rows → Under d.rows e k z → active_in d s x v g (around d.rows s e) ≡ false →
      active_in d s x v g (around d.rows s z) ≡ false
  under-rests zero z below u rests = absurd u
  under-rests (suc k) z below (inl own) rests =
      let lower = (owner-lower d.rows nested z e below own).0 in
      ap (active_in d s x v g) (around-step d.rows nested s z e below own
      (system-before d.rows nested s n e z within child (omega (arith, lower))))
      ∙ ap (λ p. active p (control_at d.rows e) (trigger_at g e) (enable_value d s x v g e) (trigger_value d s x v g e)) rests
      ∙ at-rest (control_at d.rows e) (trigger_at g e) (enable_value d s x v g e) (trigger_value d s x v g e)
  under-rests (suc k) z below (inr (f, own, u)) rests =
      let lower = (owner-lower d.rows nested z f below own).0 in
      let deeper = under-later d.rows nested e k f (owner-below d.rows nested z f below own) u in
      ap (active_in d s x v g) (around-step d.rows nested s z f below own
      (system-before d.rows nested s n e z within child (omega (arith, lower, deeper))))
      ∙ ap (λ p. active p (control_at d.rows f) (trigger_at g f) (enable_value d s x v g f) (trigger_value d s x v g f))
      (under-rests k f (owner-below d.rows nested z f below own) u rests)
      ∙ at-rest (control_at d.rows f) (trigger_at g f) (enable_value d s x v g f) (trigger_value d s x v g f)
