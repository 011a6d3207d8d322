-- A row's value at a tick rests on the rows that it needs and on the trace.
use Rattle.std.specs.Prelude.{◌≡◌, ℕ, List, [], ◌∷◌, ◌++◌, map, slice_get, Option, ℤ, Bool, true, false, not, ◌&&◌, ◌||◌, if◌then◌else◌, ◌⊎◌}
use Rattle.std.specs.List.{AllByRecursion}
use Rattle.std.proofs.Common.{refl, ap, ap₂, inl, inr, true≢false}
use Rattle.base_core.specs.declared.Control.{Control}
use Rattle.base_core.specs.declared.Control.TheVariants.{Plain, Enabled, Triggered, Both}
use Rattle.base_core.specs.declared.Port.TheVariants.{Number}
use Rattle.diagram_activity.specs.declared.TrigMem.{TrigMem}
use Rattle.diagram_activity.specs.Activity.{active, off, is_high}
use Rattle.diagram_blocks.specs.declared.Op.{Op}
use Rattle.diagram_blocks.specs.declared.Op.TheVariants.{Delay, Line}
use Rattle.diagram_blocks.specs.Value.{rhs, feeds_through}
use Rattle.diagram_meaning.specs.Rows.{row_at, control_at, is_enabled, is_triggered, enable_among, trigger_among, around, is_inport_of, column}
use Rattle.diagram_blocks.specs.Kinds.{port_of}
use Rattle.diagram_meaning.specs.Diagram.{Diagram, op_at}
use Rattle.diagram_meaning.specs.Run.{value_at, memory_at, first_of, wire_value, enable_value, trigger_value, active_in, any_off, is_disabled, input_values, row_value}
use Rattle.diagram_meaning.proofs.lemmas.ByRow.{map-agree}

-- the parts of a fact on joined lists
pub All-append_left : {X : Type 0} (P : X → Type 0) (xs ys : List X) → AllByRecursion P (xs ++ ys) → AllByRecursion P xs
All-append_left P [] ys a = tt
All-append_left P (x ∷ xs) ys a = (a.0, All-append_left P xs ys a.1)

pub All-append_right : {X : Type 0} (P : X → Type 0) (xs ys : List X) → AllByRecursion P (xs ++ ys) → AllByRecursion P ys
All-append_right P [] ys a = a
All-append_right P (x ∷ xs) ys a = All-append_right P xs ys a.1

-- a guard gives the same where each control is not read, or is the same
active-same : (p q : Bool) (c : Control) (m : TrigMem) (i j k l : ℤ) → p ≡ q → (is_enabled c ≡ false) ⊎ (i ≡ j) →
    (is_triggered c ≡ false) ⊎ (k ≡ l) → active p c m i k ≡ active q c m j l
active-same p q Plain m i j k l e en tr = e
active-same p q (Enabled reset) m i j k l e (inl not_read) tr = absurd (true≢false not_read)
active-same p q (Enabled reset) m i j k l e (inr same) tr = rw (e, same) refl
active-same p q (Triggered edge) m i j k l e en (inl not_read) = absurd (true≢false not_read)
active-same p q (Triggered edge) m i j k l e en (inr same) = rw (e, same) refl
active-same p q (Both reset edge) m i j k l e (inl not_read) tr = absurd (true≢false not_read)
active-same p q (Both reset edge) m i j k l e (inr same) (inl not_read) = absurd (true≢false not_read)
active-same p q (Both reset edge) m i j k l e (inr same) (inr too) = rw (e, same, too) refl

off-same : (p q : Bool) (c : Control) (i j : ℤ) → p ≡ q → (is_enabled c ≡ false) ⊎ (i ≡ j) → off p c i ≡ off q c j
off-same p q Plain i j e en = refl
off-same p q (Enabled reset) i j e (inl not_read) = absurd (true≢false not_read)
off-same p q (Enabled reset) i j e (inr same) = rw (e, same) refl
off-same p q (Triggered edge) i j e en = refl
off-same p q (Both reset edge) i j e (inl not_read) = absurd (true≢false not_read)
off-same p q (Both reset edge) i j e (inr same) = rw (e, same) refl

disabled-same : (p q : Bool) (c : Control) (i j : ℤ) → p ≡ q → (is_enabled c ≡ false) ⊎ (i ≡ j) →
    (is_enabled c && (p && not (is_high i))) ≡ (is_enabled c && (q && not (is_high j)))
disabled-same p q c i j e (inl not_read) = rw not_read refl
disabled-same p q c i j e (inr same) = rw (e, same) refl

-- an operation reads its inputs only where it feeds through
rhs-agree : (op : Op) (is js : List ℤ) (memory : ℤ) → (feeds_through op ≡ true → is ≡ js) → rhs op is memory ≡ rhs op js memory
rhs-agree (Delay initial) is js memory e = refl
rhs-agree (Line length start) is js memory e = refl
rhs-agree op is js memory e = ap (λ l. rhs op l memory) (e refl)

-- where all control wires of a subsystem agree, its enable and its trigger do
module _ (v w : List ℤ) (x y : List ℤ) (d : Diagram) (s : Option ℕ) (g : List TrigMem) where
  abbrev Agree : ℕ → Type 0
  Agree c = value_at v c ≡ value_at w c

  first-agree : (cs : List ℕ) → AllByRecursion Agree cs → wire_value d s x v g (slice_get cs 0) ≡ wire_value d s y w g (slice_get cs 0)
  first-agree [] a = refl
  first-agree (c ∷ cs) a = a.0

  second-agree : (cs : List ℕ) → AllByRecursion Agree cs → wire_value d s x v g (slice_get cs 1) ≡ wire_value d s y w g (slice_get cs 1)
  second-agree [] a = refl
  second-agree (c ∷ []) a = refl
  second-agree (c ∷ b ∷ cs) a = a.1.0

  pub enable-agree : (control : Control) (cs : List ℕ) → AllByRecursion Agree cs →
      wire_value d s x v g (enable_among control cs) ≡ wire_value d s y w g (enable_among control cs)
  enable-agree Plain cs a = refl
  enable-agree (Enabled reset) cs a = first-agree cs a
  enable-agree (Triggered edge) cs a = refl
  enable-agree (Both reset edge) cs a = first-agree cs a

  pub trigger-agree : (control : Control) (cs : List ℕ) → AllByRecursion Agree cs →
      wire_value d s x v g (trigger_among control cs) ≡ wire_value d s y w g (trigger_among control cs)
  trigger-agree Plain cs a = refl
  trigger-agree (Enabled reset) cs a = refl
  trigger-agree (Triggered edge) cs a = first-agree cs a
  trigger-agree (Both reset edge) cs a = second-agree cs a

module _ (d : Diagram) (s : Option ℕ) (x y v w : List ℤ) (g : List TrigMem) where
  -- each control of subsystem e is not read, or is the same in both
  abbrev pub SameControl : ℕ → Type 0
  SameControl e =
      ((is_enabled (control_at d.rows e) ≡ false) ⊎ (enable_value d s x v g e ≡ enable_value d s y w g e))
      × ((is_triggered (control_at d.rows e) ≡ false) ⊎ (trigger_value d s x v g e ≡ trigger_value d s y w g e))

  active-agree : (es : List ℕ) → AllByRecursion SameControl es → active_in d s x v g es ≡ active_in d s y w g es
  active-agree [] a = refl
  active-agree (e ∷ es) a = active-same _ _ (control_at d.rows e) _ _ _ _ _ (active-agree es a.1) a.0.0 a.0.1

  off-agree : (es : List ℕ) → AllByRecursion SameControl es → any_off d s x v g es ≡ any_off d s y w g es
  off-agree [] a = refl
  off-agree (e ∷ es) a = ap₂ ◌||◌ (off-same _ _ (control_at d.rows e) _ _ (active-agree es a.1) a.0.0) (off-agree es a.1)

  disabled-agree : (es : List ℕ) → AllByRecursion SameControl es → is_disabled d s x v g es ≡ is_disabled d s y w g es
  disabled-agree [] a = refl
  disabled-agree (e ∷ es) a = disabled-same _ _ (control_at d.rows e) _ _ (active-agree es a.1) a.0.0

  -- what the values and the trace have to share for row b
  pub record AgreeFor (b : ℕ) : Type 0 where
    pub controls : AllByRecursion SameControl (around d.rows s b)
    pub inport : is_inport_of d.rows s b ≡ true →
        value_at x (column d.rows s (Number (port_of (row_at d.rows b).kind)))
        ≡ value_at y (column d.rows s (Number (port_of (row_at d.rows b).kind)))
    pub inputs : is_inport_of d.rows s b ≡ false → feeds_through (op_at d b) ≡ true →
        AllByRecursion (λ c. value_at v c ≡ value_at w c) (row_at d.rows b).inputs

  inputs-agree : (b : ℕ) → AgreeFor b → feeds_through (op_at d b) ≡ true → input_values d s x v g b ≡ input_values d s y w g b
  inputs-agree b a feeds = by (is_inport_of d.rows s b) refl
    where
      by : (own : Bool) → is_inport_of d.rows s b ≡ own →
          (if own then value_at x (column d.rows s (Number (port_of (row_at d.rows b).kind))) ∷ []
          else map (value_at v) (row_at d.rows b).inputs)
          ≡ (if own then value_at y (column d.rows s (Number (port_of (row_at d.rows b).kind))) ∷ []
          else map (value_at w) (row_at d.rows b).inputs)
      by true e = ap (λ z. z ∷ []) (a.inport e)
      by false e = map-agree (value_at v) (value_at w) (row_at d.rows b).inputs (a.inputs e feeds)

  -- the value of a row is then the same
  pub row_value-agree : (t : ℕ) (before : List ℤ) (m : List (List ℤ)) (b : ℕ) → AgreeFor b →
      row_value d s t x before m g v b ≡ row_value d s t y before m g w b
  row_value-agree t before m b a =
      let active = active-agree (around d.rows s b) a.controls in
      let disabled = disabled-agree (around d.rows s b) a.controls in
      let same = rhs-agree (op_at d b) (input_values d s x v g b) (input_values d s y w g b) (first_of (memory_at m b))
      (inputs-agree b a) in
      rw (active, disabled, same) refl
