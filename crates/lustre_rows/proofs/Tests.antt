-- The tests of a system's activity in Lustre.
use Rattle.std.proofs.Common.{◌≡◌, refl, sym, ap, ◌∙◌, ℕ, Bool, true, false, not, ◌&&◌, ◌||◌, if◌then◌else◌, List, [], Option, Some, ℤ, pos}
use Rattle.std.specs.Prelude.{⊤}
use Rattle.std.specs.Ordering.{int_eq}
use Rattle.base_core.specs.Numbers.{int_at}
use Rattle.base_core.specs.declared.Control.{Control}
use Rattle.base_core.specs.declared.Control.TheVariants.{Plain, Enabled, Triggered, Both}
use Rattle.base_core.specs.declared.Edge.{Edge}
use Rattle.base_core.specs.declared.Edge.TheVariants.{Rising, Falling, Either}
use Rattle.diagram_activity.specs.declared.TrigMem.{TrigMem}
use Rattle.diagram_activity.specs.declared.TrigMem.TheVariants.{NotYet, Low, High}
use Rattle.diagram_activity.specs.Activity.{is_high, edge, next_memory, memory_number}
use Rattle.diagram_meaning.specs.ControlValues.{is_active_by, is_off_by}
use Rattle.diagram_meaning.specs.Diagram.{Diagram}
use Rattle.c_syntax.specs.Tree.{CondTree}
use Rattle.emit_row_code.specs.declared.ControlLeaves.{ControlLeaves}
use Rattle.emit_row_code.specs.TestCode.{is_high_code, event_test, active_by, off_by}
use Rattle.lustre_syntax.specs.declared.LusOp.TheVariants as op
use Rattle.lustre_syntax.specs.Tree.{number, name, negation, two}
use Rattle.lustre_syntax.specs.Named.{NamedExpr, renamed}
use Rattle.lustre_flows.specs.Values.{Outcome, gives, and_then, tests, number_of, holds, chosen, operate, read, value_at, evaluate}
use Rattle.lustre_system.specs.FromC.{test_of}
use Rattle.lustre_system.specs.Functions.{function_name}
use Rattle.lustre_system.specs.Names.{around_active, around_off, leaf_name}
use Rattle.lustre_system.specs.RowEquations.{also, test_in}
use Rattle.lustre_system.specs.SystemNodes.{off_too}
use Rattle.lustre_functions.proofs.lemmas.Operators.{and-is, or-is, not-is, two-is, choice-is}

pub or-false : (b : Bool) → (b || false) ≡ b
or-false true = refl
or-false false = refl

-- ---- Events

rising-is : (memory : TrigMem) (high : Bool) (z : ℤ) → is_high z ≡ high →
    (int_eq (memory_number memory) (pos 1) && high) ≡ edge Rising memory z
rising-is NotYet high z is = refl
rising-is Low high z is = sym is
rising-is High high z is = refl

falling-is : (memory : TrigMem) (high : Bool) (z : ℤ) → is_high z ≡ high →
    (int_eq (memory_number memory) (pos 2) && not high) ≡ edge Falling memory z
falling-is NotYet high z is = refl
falling-is Low high z is = refl
falling-is High high z is = ap not (sym is)

turning-is : (memory : TrigMem) (high : Bool) (z : ℤ) → is_high z ≡ high →
    ((int_eq (memory_number memory) (pos 1) && high) || (int_eq (memory_number memory) (pos 2) && not high)) ≡ edge Either memory z
turning-is NotYet high z is = refl
turning-is Low high z is = or-false high ∙ sym is
turning-is High high z is = ap not (sym is)

module _ (before : Option (List (Option ℤ))) (values : List (Option ℤ)) (place : List ℕ → ℕ) where
  abbrev pub given : NamedExpr → Outcome
  given e = evaluate before values (renamed place e)

  abbrev Has : List ℕ → ℤ → Type 0
  Has text v = value_at values (place text) ≡ Some v

  -- ---- Parts

  pub name-given : (text : List ℕ) (v : ℤ) → Has text v → given (name text) ≡ gives v
  name-given text v has = ap read has

  pub high-given : (text : List ℕ) (v : ℤ) → Has text v → given (two op.Gt (name text) (number (pos 0))) ≡ tests (is_high v)
  high-given text v has = ap (λ (x : Option ℤ). and_then (read x) (λ w. and_then (gives (pos 0)) (operate op.Gt w))) has

  was-given : (text : List ℕ) (v : ℤ) (level : ℕ) → Has text v →
      given (two op.Eq (name text) (number (pos level))) ≡ tests (int_eq v (pos level))
  was-given text v level has = ap (λ (x : Option ℤ). and_then (read x) (λ w. and_then (gives (pos level)) (operate op.Eq w))) has

  pub and-given : (a b : NamedExpr) (p q : Bool) → given a ≡ tests p → given b ≡ tests q → given (two op.And a b) ≡ tests (p && q)
  and-given a b p q left right = two-is op.And (given a) (given b) (number_of p) (number_of q) left right ∙ and-is p q

  or-given : (a b : NamedExpr) (p q : Bool) → given a ≡ tests p → given b ≡ tests q → given (two op.Or a b) ≡ tests (p || q)
  or-given a b p q left right = two-is op.Or (given a) (given b) (number_of p) (number_of q) left right ∙ or-is p q

  not-given : (a : NamedExpr) (p : Bool) → given a ≡ tests p → given (negation a) ≡ tests (not p)
  not-given a p is = ap (λ (r : Outcome). and_then r (λ v. tests (not (holds v)))) is ∙ not-is p

  -- ---- Controls

  -- the names of the controls, and of what the trigger remembers, have these values
  abbrev pub ControlsRead : (enable trigger remembers : List ℕ) → TrigMem → List ℤ → Control → Type 0
  ControlsRead enable trigger remembers memory controls Plain = ⊤
  ControlsRead enable trigger remembers memory controls (Enabled reset) = Has enable (int_at controls 0)
  ControlsRead enable trigger remembers memory controls (Triggered e) =
      Has trigger (int_at controls 0) × Has remembers (memory_number memory)
  ControlsRead enable trigger remembers memory controls (Both reset e) =
      Has enable (int_at controls 0) × Has trigger (int_at controls 1) × Has remembers (memory_number memory)

  module _ (d : Diagram) (s : Option ℕ) (leaves : ControlLeaves) (memory : TrigMem) (controls : List ℤ) where
    abbrev enable : List ℕ
    enable = leaf_name d.rows s leaves.enable

    abbrev trigger : List ℕ
    trigger = leaf_name d.rows s leaves.trigger

    abbrev remembers : List ℕ
    remembers = leaf_name d.rows s leaves.remembers

    abbrev Reads : Control → Type 0
    Reads = ControlsRead enable trigger remembers memory controls

    abbrev test : CondTree → NamedExpr
    test c = test_of (leaf_name d.rows s) function_name (λ n. []) c

    low-given : (v : ℤ) → Has enable v → given (negation (two op.Gt (name enable) (number (pos 0)))) ≡ tests (not (is_high v))
    low-given v has = not-given (two op.Gt (name enable) (number (pos 0))) (is_high v) (high-given enable v has)

    module _ (z : ℤ) (at_trigger : Has trigger z) (at_memory : Has remembers (memory_number memory)) where
      abbrev rises : NamedExpr
      rises = two op.And (two op.Eq (name remembers) (number (pos 1))) (two op.Gt (name trigger) (number (pos 0)))

      abbrev falls : NamedExpr
      falls = two op.And (two op.Eq (name remembers) (number (pos 2))) (negation (two op.Gt (name trigger) (number (pos 0))))

      rises-given : given rises ≡ tests (int_eq (memory_number memory) (pos 1) && is_high z)
      rises-given =
          and-given (two op.Eq (name remembers) (number (pos 1))) (two op.Gt (name trigger) (number (pos 0)))
          (int_eq (memory_number memory) (pos 1)) (is_high z)
          (was-given remembers (memory_number memory) 1 at_memory) (high-given trigger z at_trigger)

      falls-given : given falls ≡ tests (int_eq (memory_number memory) (pos 2) && not (is_high z))
      falls-given =
          and-given (two op.Eq (name remembers) (number (pos 2))) (negation (two op.Gt (name trigger) (number (pos 0))))
          (int_eq (memory_number memory) (pos 2)) (not (is_high z))
          (was-given remembers (memory_number memory) 2 at_memory)
          (not-given (two op.Gt (name trigger) (number (pos 0))) (is_high z) (high-given trigger z at_trigger))

      event-given : (e : Edge) → given (test (event_test e leaves)) ≡ tests (edge e memory z)
      event-given Rising = rises-given ∙ ap tests (rising-is memory (is_high z) z refl)
      event-given Falling = falls-given ∙ ap tests (falling-is memory (is_high z) z refl)
      event-given Either =
          or-given rises falls (int_eq (memory_number memory) (pos 1) && is_high z)
          (int_eq (memory_number memory) (pos 2) && not (is_high z))
          rises-given falls-given
          ∙ ap tests (turning-is memory (is_high z) z refl)

    -- a system is active where that around it is and its tests say so
    pub active-given : (c : Control) (p : Bool) → Reads c → Has around_active (number_of p) →
        given (also (name around_active) (test_in d s (active_by c leaves))) ≡ tests (is_active_by p c memory controls)
    active-given Plain p has on = name-given around_active (number_of p) on
    active-given (Enabled reset) p has on =
        and-given (name around_active) (test (is_high_code leaves.enable)) p (is_high (int_at controls 0))
        (name-given around_active (number_of p) on) (high-given enable (int_at controls 0) has)
    active-given (Triggered e) p has on =
        and-given (name around_active) (test (event_test e leaves)) p (edge e memory (int_at controls 0))
        (name-given around_active (number_of p) on) (event-given (int_at controls 0) has.0 has.1 e)
    active-given (Both reset e) p has on =
        and-given (name around_active) (two op.And (test (is_high_code leaves.enable)) (test (event_test e leaves))) p
        (is_high (int_at controls 0) && edge e memory (int_at controls 1)) (name-given around_active (number_of p) on)
        (and-given (test (is_high_code leaves.enable)) (test (event_test e leaves)) (is_high (int_at controls 0))
        (edge e memory (int_at controls 1)) (high-given enable (int_at controls 0) has.0)
        (event-given (int_at controls 1) has.1 has.2 e))

    -- its enable is low where the system around it is active
    pub low-inside : (p : Bool) → Has around_active (number_of p) → Has enable (int_at controls 0) →
        given (two op.And (name around_active) (negation (two op.Gt (name enable) (number (pos 0)))))
        ≡ tests (p && not (is_high (int_at controls 0)))
    low-inside p on has =
        and-given (name around_active) (negation (two op.Gt (name enable) (number (pos 0)))) p (not (is_high (int_at controls 0)))
        (name-given around_active (number_of p) on) (low-given (int_at controls 0) has)

    module _ (p o : Bool) (on : Has around_active (number_of p)) (off : Has around_off (number_of o)) where
      still-given : given (name around_off) ≡ tests (o || false)
      still-given = name-given around_off (number_of o) off ∙ ap tests (sym (or-false o))

      low-too : Has enable (int_at controls 0) →
          given (two op.Or (name around_off) (two op.And (name around_active) (negation (two op.Gt (name enable) (number (pos 0))))))
          ≡ tests (o || (p && not (is_high (int_at controls 0))))
      low-too has =
          or-given (name around_off) (two op.And (name around_active) (negation (two op.Gt (name enable) (number (pos 0))))) o
          (p && not (is_high (int_at controls 0))) (name-given around_off (number_of o) off) (low-inside p on has)

      -- it or one around it is off
      pub off-given : (c : Control) → Reads c →
          given (off_too d s (test_in d s (off_by c leaves))) ≡ tests (o || is_off_by p c controls)
      off-given Plain has = still-given
      off-given (Enabled true) has = low-too has
      off-given (Enabled false) has = still-given
      off-given (Triggered e) has = still-given
      off-given (Both true e) has = low-too has.0
      off-given (Both false e) has = still-given

-- ---- What a trigger remembers

level-given : (high : Bool) (r : Outcome) → r ≡ tests high →
    and_then r (λ v. chosen (holds v) (gives (pos 2)) (gives (pos 1))) ≡ gives (memory_number (if high then High else Low))
level-given true r is = ap (λ (q : Outcome). and_then q (λ v. chosen (holds v) (gives (pos 2)) (gives (pos 1)))) is
level-given false r is = ap (λ (q : Outcome). and_then q (λ v. chosen (holds v) (gives (pos 2)) (gives (pos 1)))) is

pub memory-given : (o p : Bool) (memory : TrigMem) (z : ℤ) (off on high old : Outcome) → off ≡ tests o → on ≡ tests p →
    high ≡ tests (is_high z) → old ≡ gives (memory_number memory) →
    and_then off (λ v. chosen (holds v) (gives (pos 0))
    (and_then on (λ w. chosen (holds w) (and_then high (λ x. chosen (holds x) (gives (pos 2)) (gives (pos 1)))) old)))
    ≡ gives (memory_number (if o then NotYet else next_memory p memory z))
memory-given true p memory z off on high old is_off is_on is_high_now is_old =
    choice-is true off (gives (pos 0))
    (and_then on (λ w. chosen (holds w) (and_then high (λ x. chosen (holds x) (gives (pos 2)) (gives (pos 1)))) old)) is_off
memory-given false true memory z off on high old is_off is_on is_high_now is_old =
    let level = and_then high (λ x. chosen (holds x) (gives (pos 2)) (gives (pos 1))) in
    choice-is false off (gives (pos 0)) (and_then on (λ w. chosen (holds w) level old)) is_off
    ∙ choice-is true on level old is_on ∙ level-given (is_high z) high is_high_now
memory-given false false memory z off on high old is_off is_on is_high_now is_old =
    let level = and_then high (λ x. chosen (holds x) (gives (pos 2)) (gives (pos 1))) in
    choice-is false off (gives (pos 0)) (and_then on (λ w. chosen (holds w) level old)) is_off ∙ choice-is false on level old is_on ∙ is_old
