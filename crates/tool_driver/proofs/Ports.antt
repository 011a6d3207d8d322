-- The inputs of a shape: their places, and that no two have one port.
use Rattle.std.specs.Prelude.{◌≡◌, ℕ, zero, suc, ◌+◌, ◌<◌, true, false, List, [], ◌∷◌, ◌++◌, map, length, slice_get, Some, ⊤, refl}
use Rattle.std.specs.List.{AllByRecursion, enumerate_from, range_with_len}
use Rattle.std.proofs.Common.{sym, ap, subst, ◌∙◌, arith, append_assoc, length-append, true≢false}
use Rattle.std.proofs.lemmas.Bool.{eqb-true, eq-eqb, ne_eqb}
use Rattle.base_core.specs.declared.Control.{Control}
use Rattle.base_core.specs.declared.Control.TheVariants.{Plain, Enabled, Triggered, Both}
use Rattle.base_core.specs.declared.Port.{Port}
use Rattle.base_core.specs.declared.Port.TheVariants.{Number, Enable, Trigger}
use Rattle.base_fixed_point.specs.declared.FixType.{FixType}
use Rattle.diagram_meaning.specs.Rows.{inports_of, system_control}
use Rattle.diagram_meaning.specs.Inputs.{input_ports}
use Rattle.base_core.specs.Ports.{control_ports}
use Rattle.diagram_meaning.specs.Traces.{input_type_of}
use Rattle.tool_driver.specs.declared.inputs.Input.{Input}
use Rattle.tool_driver.specs.Shapes.{Shape, numbered_input, control_input, numbered_inputs, control_inputs, inputs_of}
use Rattle.tool_driver.specs.Driven.{Driven, shape_of, same_port}
use Rattle.tool_driver.proofs.Lists.{all-joined, map-joined}

-- ---- Ports

pub same-refl : (p : Port) → same_port p p ≡ true
same-refl (Number k) = eq-eqb k k refl
same-refl Enable = refl
same-refl Trigger = refl

pub same-eq : (p q : Port) → same_port p q ≡ true → p ≡ q
same-eq (Number k) (Number n) h = ap Number (eqb-true k n h)
same-eq (Number k) Enable h = absurd (true≢false (sym h))
same-eq (Number k) Trigger h = absurd (true≢false (sym h))
same-eq Enable (Number n) h = absurd (true≢false (sym h))
same-eq Enable Enable h = refl
same-eq Enable Trigger h = absurd (true≢false (sym h))
same-eq Trigger (Number n) h = absurd (true≢false (sym h))
same-eq Trigger Enable h = absurd (true≢false (sym h))
same-eq Trigger Trigger h = refl

-- ---- Places

abbrev pub ArePlaced : ℕ → List Input → Type 0
ArePlaced n [] = ⊤
ArePlaced n (i ∷ is) = (i.place ≡ n) × ArePlaced (n + 1) is

placed-numbers : (n : ℕ) (types : List FixType) → ArePlaced n (map numbered_input (enumerate_from n types))
placed-numbers n [] = tt
placed-numbers n (t ∷ types) = (refl, placed-numbers (n + 1) types)

placed-controls : (n : ℕ) (controls : List (Port × FixType)) → ArePlaced n (map control_input (enumerate_from n controls))
placed-controls n [] = tt
placed-controls n (c ∷ controls) = (refl, placed-controls (n + 1) controls)

placed-joined : (n m : ℕ) (xs ys : List Input) → n + length xs ≡ m → ArePlaced n xs → ArePlaced m ys → ArePlaced n (xs ++ ys)
placed-joined n m [] ys e h k = let same : m ≡ n = omega (arith, e) in subst (λ a. ArePlaced a ys) same k
placed-joined n m (x ∷ xs) ys e h k = (h.0, placed-joined (n + 1) m xs ys (omega (arith, e)) h.1 k)

pub length-numbers : (n : ℕ) (types : List FixType) → length (map numbered_input (enumerate_from n types)) ≡ length types
length-numbers n [] = refl
length-numbers n (t ∷ types) = ap suc (length-numbers (n + 1) types)

placed-inputs : (s : Shape) → ArePlaced 0 (inputs_of s)
placed-inputs s =
    placed-joined 0 (length s.inputs) (numbered_inputs s.inputs) (control_inputs (length s.inputs) s.controls)
    (omega (arith, length-numbers 0 s.inputs)) (placed-numbers 0 s.inputs)
    (placed-controls (length s.inputs) s.controls)

get-at : {A : Type 0} (before : List A) (x : A) (after : List A) (k : ℕ) → k ≡ length before → slice_get (before ++ x ∷ after) k ≡ Some x
get-at [] x after zero e = refl
get-at [] x after (suc k) e = absurd (omega (arith, e))
get-at (b ∷ before) x after zero e = absurd (omega (arith, e))
get-at (b ∷ before) x after (suc k) e = get-at before x after k (omega (arith, e))

abbrev pub AreIn : List Input → List Input → Type 0
AreIn all is = AllByRecursion (λ (i : Input). slice_get all i.place ≡ Some i) is

there-behind : (before all : List Input) → ArePlaced (length before) all → AreIn (before ++ all) all
there-behind before [] h = tt
there-behind before (i ∷ all) h = (
  get-at before i all i.place h.0,
  subst (λ whole. AreIn whole all) (append_assoc before (i ∷ []) all)
      (there-behind (before ++ i ∷ []) all
      (subst (λ n. ArePlaced n all) (let e : length before + 1
      ≡ length (before ++ i ∷ []) = omega (arith, length-append before (i ∷ [])) in e) h.1)),
)

-- each input of a shape is at its place
pub inputs-there : (s : Shape) → AreIn (inputs_of s) (inputs_of s)
inputs-there s = there-behind [] (inputs_of s) (placed-inputs s)

-- ---- No two have one port

pub record AreOther (i m : Input) : Type 0 where
  pub there : same_port i.port m.port ≡ false
  pub back : same_port m.port i.port ≡ false

abbrev pub AreApart : List Input → Type 0
AreApart [] = ⊤
AreApart (i ∷ is) = AllByRecursion (AreOther i) is × AreApart is

apart-numbers-from : (a b : ℕ) (t : FixType) (types : List FixType) → a < b →
    AllByRecursion (AreOther (numbered_input (a, t))) (map numbered_input (enumerate_from b types))
apart-numbers-from a b t [] less = tt
apart-numbers-from a b t (u ∷ types) less = (
  record { there = ne_eqb (a + 1) (b + 1) (λ e. omega (arith, e, less)); back = ne_eqb (b + 1) (a + 1) (λ e. omega (arith, e, less)) },
  apart-numbers-from a (b + 1) t types (omega (arith, less)),
)

apart-numbers : (n : ℕ) (types : List FixType) → AreApart (map numbered_input (enumerate_from n types))
apart-numbers n [] = tt
apart-numbers n (t ∷ types) = (apart-numbers-from n (n + 1) t types (omega arith), apart-numbers (n + 1) types)

apart-joined : (xs ys : List Input) → AreApart xs → AreApart ys →
    AllByRecursion (λ x. AllByRecursion (AreOther x) ys) xs → AreApart (xs ++ ys)
apart-joined [] ys h k each = k
apart-joined (x ∷ xs) ys h k each = (all-joined (AreOther x) xs ys h.0 each.0, apart-joined xs ys h.1 k each.1)

module _ (T : Port → FixType) where
  abbrev controls_from : ℕ → Control → List Input
  controls_from n control = map control_input (enumerate_from n (map (λ p. (p, T p)) (control_ports control)))

  apart-controls : (n : ℕ) (control : Control) → AreApart (controls_from n control)
  apart-controls n Plain = tt
  apart-controls n (Enabled reset) = (tt, tt)
  apart-controls n (Triggered edge) = (tt, tt)
  apart-controls n (Both reset edge) = ((record { there = refl; back = refl }, tt), (tt, tt))

  number-control : (e : ℕ × FixType) (n : ℕ) (control : Control) → AllByRecursion (AreOther (numbered_input e)) (controls_from n control)
  number-control e n Plain = tt
  number-control e n (Enabled reset) = (record { there = refl; back = refl }, tt)
  number-control e n (Triggered edge) = (record { there = refl; back = refl }, tt)
  number-control e n (Both reset edge) = (record { there = refl; back = refl }, (record { there = refl; back = refl }, tt))

  numbers-controls : (a : ℕ) (types : List FixType) (n : ℕ) (control : Control) →
      AllByRecursion (λ x. AllByRecursion (AreOther x) (controls_from n control)) (map numbered_input (enumerate_from a types))
  numbers-controls a [] n control = tt
  numbers-controls a (t ∷ types) n control = (number-control (a, t) n control, numbers-controls (a + 1) types n control)

  pub apart-all : (types : List FixType) (n : ℕ) (control : Control) → AreApart (numbered_inputs types ++ controls_from n control)
  apart-all types n control =
      apart-joined (numbered_inputs types) (controls_from n control) (apart-numbers 0 types) (apart-controls n control)
      (numbers-controls 0 types n control)

  -- ---- Ports and types

  number-ports : (a n : ℕ) →
      map (λ (i : Input). i.port)
      (map numbered_input (enumerate_from a (map (λ k. T (Number k)) (range_with_len (a + 1) n))))
      ≡ map Number (range_with_len (a + 1) n)
  number-ports a zero = refl
  number-ports a (suc n) = ap (λ ps. Number (a + 1) ∷ ps) (number-ports (a + 1) n)

  control-ports : (a : ℕ) (ps : List Port) →
      map (λ (i : Input). i.port) (map control_input (enumerate_from a (map (λ p. (p, T p)) ps))) ≡ ps
  control-ports a [] = refl
  control-ports a (p ∷ ps) = ap (λ qs. p ∷ qs) (control-ports (a + 1) ps)

  number-types : (a n : ℕ) →
      AllByRecursion (λ (i : Input). i.of ≡ T i.port)
      (map numbered_input (enumerate_from a (map (λ k. T (Number k)) (range_with_len (a + 1) n))))
  number-types a zero = tt
  number-types a (suc n) = (refl, number-types (a + 1) n)

  control-types : (a : ℕ) (ps : List Port) →
      AllByRecursion (λ (i : Input). i.of ≡ T i.port) (map control_input (enumerate_from a (map (λ p. (p, T p)) ps)))
  control-types a [] = tt
  control-types a (p ∷ ps) = (refl, control-types (a + 1) ps)

  pub all-ports : (n m : ℕ) (control : Control) →
      map (λ (i : Input). i.port) (numbered_inputs (map (λ k. T (Number k)) (range_with_len 1 n))
      ++ controls_from m control) ≡ map Number (range_with_len 1 n) ++ control_ports control
  all-ports n m control =
      map-joined (λ (i : Input). i.port) (numbered_inputs (map (λ k. T (Number k)) (range_with_len 1 n))) (controls_from m control)
      ∙ ap (λ ps. ps ++ map (λ (i : Input). i.port) (controls_from m control)) (number-ports 0 n)
      ∙ ap (λ ps. map Number (range_with_len 1 n) ++ ps) (control-ports m (control_ports control))

  pub all-types : (n m : ℕ) (control : Control) →
      AllByRecursion (λ (i : Input). i.of ≡ T i.port) (numbered_inputs (map (λ k. T (Number k)) (range_with_len 1 n))
      ++ controls_from m control)
  all-types n m control =
      all-joined (λ (i : Input). i.of ≡ T i.port) (numbered_inputs (map (λ k. T (Number k)) (range_with_len 1 n)))
      (controls_from m control) (number-types 0 n) (control-types m (control_ports control))

-- ---- Of the shape of a system

module _ (w : Driven) where
  abbrev pub all_inputs : List Input
  all_inputs = inputs_of (shape_of w)

  pub ports-are : map (λ (i : Input). i.port) all_inputs ≡ input_ports w.diagram.rows w.system
  ports-are =
      all-ports (input_type_of w.diagram w.system) (length (inports_of w.diagram.rows w.system))
      (length (shape_of w).inputs) (system_control w.diagram.rows w.system)

  pub types-are : AllByRecursion (λ (i : Input). i.of ≡ input_type_of w.diagram w.system i.port) all_inputs
  types-are =
      all-types (input_type_of w.diagram w.system) (length (inports_of w.diagram.rows w.system))
      (length (shape_of w).inputs) (system_control w.diagram.rows w.system)

  pub inputs-apart : AreApart all_inputs
  inputs-apart =
      apart-all (input_type_of w.diagram w.system) (shape_of w).inputs (length (shape_of w).inputs)
      (system_control w.diagram.rows w.system)
