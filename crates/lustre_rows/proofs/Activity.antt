-- A system's trigger remembers, and a system is active and reset, as in the run of the diagram.
use Rattle.std.proofs.Common.{◌≡◌, refl, sym, ap, ◌∙◌, subst, ℕ, ◌+◌, Bool, true, false, ◌||◌, if◌then◌else◌, List, [], ◌∷◌, ◌++◌, length, slice_index_or, Option, Some, None, ℤ, pos}
use Rattle.std.specs.List.{AllByRecursion}
use Rattle.base_core.specs.Numbers.{int_at}
use Rattle.base_core.specs.declared.Control.{Control}
use Rattle.base_core.specs.declared.Control.TheVariants.{Plain, Enabled, Triggered, Both}
use Rattle.diagram_activity.specs.Activity.{memory_number}
use Rattle.diagram_meaning.specs.ControlValues.{trigger_in}
use Rattle.diagram_meaning.specs.Rows.{system_control, is_triggered, enable_count, inports_of}
use Rattle.diagram_meaning.specs.Diagram.{Diagram}
use Rattle.diagram_meaning.specs.SystemRuns.{SystemTick, system_is_active, system_is_off}
use Rattle.emit_shape.specs.Names.{trigger_param, trigger_name}
use Rattle.lustre_syntax.specs.declared.LusOp.TheVariants.{Gt}
use Rattle.lustre_syntax.specs.Tree.{set}
use Rattle.lustre_syntax.specs.Named.{NamedEquation, renamed}
use Rattle.lustre_flows.specs.Values.{gives, and_then, number_of, operate, read, value_at, evaluate}
use Rattle.lustre_system.specs.Names.{around_active, around_off, active_name, reset_name, control_leaves}
use Rattle.lustre_system.specs.SystemNodes.{active_value, reset_value, trigger_input, trigger_memory, has_trigger}
use Rattle.lustre_rows.specs.NamesOfTick.{Has, ControlsHave, NamesHave, IsAfter}
use Rattle.lustre_rows.specs.EquationLaws.{GivesItsName, ActivityEquationsHold}
use Rattle.lustre_rows.proofs.lemmas.ParamNames.{ports_by, names_by, enable-named, trigger-named, trigger-port-named, memory-named}
use Rattle.lustre_rows.proofs.Tests.{ControlsRead, active-given, off-given, memory-given}

-- a list of equations with one before it, where there is one
with-first : (b : Bool) (P : NamedEquation → Type 0) (x : NamedEquation) (rest : List NamedEquation) → (b ≡ true → P x) →
    AllByRecursion P rest → AllByRecursion P ((if b then x ∷ [] else []) ++ rest)
with-first true P x rest here all = (here refl, all)
with-first false P x rest here all = all

module _ (d : Diagram) (hyper : ℕ) (s : Option ℕ) (m : SystemTick) (values : List (Option ℤ)) (place : List ℕ → ℕ) where
  abbrev Named : List ℕ → ℤ → Type 0
  Named = Has d hyper s m values place

  -- by the places of the parameters
  pub controls-read : (before : Option (List (Option ℤ))) (c : Control) (n : ℕ) → ControlsHave d hyper s m values place c →
      ControlsRead before values place (slice_index_or (names_by c n) n []) (slice_index_or (names_by c n) (n + enable_count c) [])
      (slice_index_or (names_by c n) (length (ports_by c n)) []) m.trigger m.controls c
  controls-read before Plain n have = tt
  controls-read before (Enabled reset) n have =
      subst (λ (text : List ℕ). Named text (int_at m.controls 0)) (sym (enable-named (Enabled reset) n refl)) have
  controls-read before (Triggered e) n have = (
    subst (λ (text : List ℕ). Named text (int_at m.controls 0)) (sym (trigger-named (Triggered e) n refl)) have.0,
    subst (λ (text : List ℕ). Named text (memory_number m.trigger)) (sym (memory-named (Triggered e) n)) have.1,
  )
  controls-read before (Both reset e) n have = (
    subst (λ (text : List ℕ). Named text (int_at m.controls 0)) (sym (enable-named (Both reset e) n refl)) have.0,
    subst (λ (text : List ℕ). Named text (int_at m.controls 1)) (sym (trigger-named (Both reset e) n refl)) have.1,
    subst (λ (text : List ℕ). Named text (memory_number m.trigger)) (sym (memory-named (Both reset e) n)) have.2,
  )

  -- the trigger and its memory
  trigger-had : (c : Control) → is_triggered c ≡ true → ControlsHave d hyper s m values place c →
      Named (trigger_param c) (trigger_in c m.controls) × Named trigger_name (memory_number m.trigger)
  trigger-had Plain is have = absurd (cc)
  trigger-had (Enabled reset) is have = absurd (cc)
  trigger-had (Triggered e) is have = (have.0, have.1)
  trigger-had (Both reset e) is have = (have.1, have.2)

  trigger-input-had : is_triggered (system_control d.rows s) ≡ true → ControlsHave d hyper s m values place (system_control d.rows s) →
      Named (trigger_input d s) (trigger_in (system_control d.rows s) m.controls)
  trigger-input-had is have =
      let c = system_control d.rows s in
      subst (λ (text : List ℕ). Named text (trigger_in c m.controls)) (sym (trigger-port-named c (length (inports_of d.rows s)) is))
      (trigger-had c is have).0

  module _ (before : Option (List (Option ℤ))) (names : NamesHave d hyper s m values place) where
    abbrev control : Control
    control = system_control d.rows s

    active-is : evaluate before values (renamed place (active_value d s)) ≡ gives (number_of (system_is_active d s m))
    active-is =
        active-given before values place d s (control_leaves d.rows s) m.trigger m.controls control m.parent
        (controls-read before control (length (inports_of d.rows s)) names.controls) names.on

    reset-is : evaluate before values (renamed place (reset_value d s)) ≡ gives (number_of (m.is_off_around || system_is_off d s m))
    reset-is =
        off-given before values place d s (control_leaves d.rows s) m.trigger m.controls m.parent m.is_off_around names.on names.off control
        (controls-read before control (length (inports_of d.rows s)) names.controls)

module _ (d : Diagram) (hyper : ℕ) (s : Option ℕ) (m : SystemTick) (values : List (Option ℤ)) (place : List ℕ → ℕ) where
  trigger-is : (before : Option (List (Option ℤ))) → is_triggered (system_control d.rows s) ≡ true → IsAfter d hyper s m place before →
      evaluate before values (renamed place (trigger_memory d s)) ≡ gives (memory_number m.trigger)
  trigger-is None is first = ap (λ g. gives (memory_number g)) (sym (first.trigger is))
  trigger-is (Some olds) is (earlier, had, tick, follows) =
      let c = system_control d.rows s in
      let z = trigger_in c earlier.controls in
      let level = trigger-input-had d hyper s earlier olds place is had.controls in
      let old = (trigger-had d hyper s earlier olds place c is had.controls).1 in
      memory-given earlier.is_off_around earlier.parent earlier.trigger z (read (value_at olds (place around_off)))
      (read (value_at olds (place around_active)))
      (and_then (read (value_at olds (place (trigger_input d s)))) (λ w. and_then (gives (pos 0)) (operate Gt w)))
      (read (value_at olds (place trigger_name))) (ap read had.off) (ap read had.on)
      (ap (λ (x : Option ℤ). and_then (read x) (λ w. and_then (gives (pos 0)) (operate Gt w))) level) (ap read old)
      ∙ ap (λ g. gives (memory_number g)) (sym (follows.trigger ∙ tick.trigger is))

pub activity_equations_hold : ActivityEquationsHold
activity_equations_hold d hyper s m before values place tick =
    with-first (has_trigger d s) (GivesItsName before values place) (set 0 trigger_name (trigger_memory d s))
    (set 0 active_name (active_value d s) ∷ set 0 reset_name (reset_value d s) ∷ [])
    (λ is. (
      memory_number m.trigger,
      (trigger-had d hyper s m values place (system_control d.rows s) is tick.names.controls).1,
      trigger-is d hyper s m values place before is tick.after,
    )) (
      (number_of (system_is_active d s m), tick.names.active, active-is d hyper s m values place before tick.names),
      (
        (number_of (m.is_off_around || system_is_off d s m), tick.names.reset, reset-is d hyper s m values place before tick.names),
        tt,
      ),
    )
