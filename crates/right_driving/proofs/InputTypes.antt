-- The inputs of a system's shape have the ports and the types that the system's header has.
use Rattle.std.specs.Prelude.{◌≡◌, ℕ, suc, ◌+◌, true, List, [], ◌∷◌, ◌++◌, map, length, slice_get, Contains, Option, Some, None, unwrap_or, refl}
use Rattle.std.specs.List.{enumerate_from, range_with_len}
use Rattle.std.proofs.Common.{sym, ap, ap₂, subst, ◌∙◌, arith, true≢false}
use Rattle.std.proofs.lemmas.List.{length-map, map-append}
use Rattle.std.proofs.lemmas.List.FromFn.{length-map-range_with_len}
use Rattle.base_core.specs.declared.Control.{Control}
use Rattle.base_core.specs.declared.Control.TheVariants.{Plain, Enabled, Triggered, Both}
use Rattle.base_core.specs.declared.Port.{Port}
use Rattle.base_core.specs.declared.Port.TheVariants.{Number, Enable, Trigger}
use Rattle.base_fixed_point.specs.declared.FixType.{FixType}
use Rattle.diagram_blocks.specs.declared.Kind.{Kind}
use Rattle.diagram_blocks.specs.declared.Kind.TheVariants.{SubSystem}
use Rattle.diagram_meaning.specs.declared.table.Row.{Row}
use Rattle.diagram_meaning.specs.Diagram.{Diagram, type_at}
use Rattle.diagram_meaning.specs.Inputs.{control_wires_of, input_ports}
use Rattle.base_core.specs.Ports.{control_ports}
use Rattle.diagram_meaning.specs.Rows.{row_at, control_at, system_control, inports_of, enable_among, trigger_among}
use Rattle.diagram_blocks.specs.Kinds.{is_subsystem, control_of}
use Rattle.diagram_meaning.specs.Traces.{input_type_of}
use Rattle.diagram_meaning.specs.WellFormed.{IsWired, wires_wanted}
use Rattle.modules_profile.specs.Headers.{ports_of_header}
use Rattle.modules_profile.specs.Systems.{systems}
use Rattle.tool_driver.specs.declared.inputs.Input.{Input}
use Rattle.tool_driver.specs.Shapes.{Shape, inputs_of, numbered_input, control_input, numbered_inputs, control_inputs}
use Rattle.tool_driver.specs.Driven.{Driven, shape_of}
use Rattle.right_driving.proofs.Lists.{map-map}
use Rattle.right_driving.proofs.SystemHeads.{header_for}
use Rattle.right_driving.proofs.SystemRows.{of-systems}

-- ---- Inputs of a shape

abbrev pub port_of_input : Input → Port
port_of_input i = i.port

abbrev pub type_of_input : Input → FixType
type_of_input i = i.of

numbered-ports : (a : ℕ) (types : List FixType) →
    map port_of_input (map numbered_input (enumerate_from a types)) ≡ map Number (range_with_len (a + 1) (length types))
numbered-ports a [] = refl
numbered-ports a (t ∷ types) = ap (λ ps. Number (a + 1) ∷ ps) (numbered-ports (a + 1) types)

numbered-types : (a : ℕ) (types : List FixType) → map type_of_input (map numbered_input (enumerate_from a types)) ≡ types
numbered-types a [] = refl
numbered-types a (t ∷ types) = ap (λ ts. t ∷ ts) (numbered-types (a + 1) types)

control-ports : (a : ℕ) (of : Port → FixType) (ports : List Port) →
    map port_of_input (map control_input (enumerate_from a (map (λ p. (p, of p)) ports))) ≡ ports
control-ports a of [] = refl
control-ports a of (p ∷ ports) = ap (λ ps. p ∷ ps) (control-ports (a + 1) of ports)

control-types : (a : ℕ) (of : Port → FixType) (ports : List Port) →
    map type_of_input (map control_input (enumerate_from a (map (λ p. (p, of p)) ports))) ≡ map of ports
control-types a of [] = refl
control-types a of (p ∷ ports) = ap (λ ts. of p ∷ ts) (control-types (a + 1) of ports)

module _ (w : Driven) where
  abbrev rows : List Row
  rows = w.diagram.rows

  abbrev pub type_of : Port → FixType
  type_of p = input_type_of w.diagram w.system p

  abbrev numbers : List ℕ
  numbers = range_with_len 1 (length (inports_of rows w.system))

  abbrev pub controls : List Port
  controls = control_ports (system_control rows w.system)

  abbrev shape : Shape
  shape = shape_of w

  pub count-inputs : length shape.inputs ≡ length (inports_of rows w.system)
  count-inputs = length-map-range_with_len (λ k. type_of (Number k)) 1 (length (inports_of rows w.system))

  pub ports-are : map port_of_input (inputs_of shape) ≡ input_ports rows w.system
  ports-are =
      map-append port_of_input (numbered_inputs shape.inputs) (control_inputs (length shape.inputs) shape.controls)
      ∙ ap₂ (λ ps qs. ps ++ qs)
      (numbered-ports 0 shape.inputs ∙ ap (λ n. map Number (range_with_len 1 n)) count-inputs)
      (control-ports (length shape.inputs) type_of controls)

  pub types-are : map type_of_input (inputs_of shape) ≡ map type_of (input_ports rows w.system)
  types-are =
      map-append type_of_input (numbered_inputs shape.inputs) (control_inputs (length shape.inputs) shape.controls)
      ∙ ap₂ (λ ts us. ts ++ us)
      (numbered-types 0 shape.inputs ∙ sym (map-map type_of Number numbers))
      (control-types (length shape.inputs) type_of controls)
      ∙ sym (map-append type_of (map Number numbers) controls)

-- ---- Types in a header

ranged : {B : Type 0} (f g : ℕ → B) (a : ℕ) (xs : List ℕ) → ((k x : ℕ) → slice_get xs k ≡ Some x → f (a + k) ≡ g x) →
    map f (range_with_len a (length xs)) ≡ map g xs
ranged f g a [] each = refl
ranged f g a (x ∷ xs) each =
    let here : a + 0 ≡ a = omega arith in
    ap₂ (λ y ys. y ∷ ys) (subst (λ n. f n ≡ g x) here (each 0 x refl)) (ranged f g (a + 1) xs further)
  where
    further : (k y : ℕ) → slice_get xs k ≡ Some y → f (a + 1 + k) ≡ g y
    further k y at = let next : a + suc k ≡ a + 1 + k = omega arith in subst (λ n. f n ≡ g y) next (each (suc k) y at)

pub inport-types : (d : Diagram) (s : Option ℕ) →
    map (λ k. input_type_of d s (Number k)) (range_with_len 1 (length (inports_of d.rows s))) ≡ map (type_at d.types) (inports_of d.rows s)
inport-types d s = ranged (λ k. input_type_of d s (Number k)) (type_at d.types) 1 (inports_of d.rows s) each
  where
    each : (k x : ℕ) → slice_get (inports_of d.rows s) k ≡ Some x → input_type_of d s (Number (1 + k)) ≡ type_at d.types x
    each k x at =
        let next : suc k ≡ 1 + k = omega arith in
        subst (λ n. input_type_of d s (Number n) ≡ type_at d.types x) next
        (ap (λ o. type_at d.types (unwrap_or o (length d.rows))) at)

-- where a subsystem has a wire for each control, each has the type of its wire
wire-types : (of : ℕ → FixType) (past : ℕ) (f : Port → FixType) (control : Control) (wires : List ℕ) →
    f Enable ≡ of (unwrap_or (enable_among control wires) past) → f Trigger ≡ of (unwrap_or (trigger_among control wires) past) →
    length wires ≡ length (control_ports control) → map of wires ≡ map f (control_ports control)
wire-types of past f Plain [] enable trigger count = refl
wire-types of past f Plain (c ∷ wires) enable trigger count = absurd (omega (arith, count))
wire-types of past f (Enabled reset) [] enable trigger count = absurd (omega (arith, count))
wire-types of past f (Enabled reset) (c ∷ []) enable trigger count = ap (λ t. t ∷ []) (sym enable)
wire-types of past f (Enabled reset) (c ∷ e ∷ wires) enable trigger count = absurd (omega (arith, count))
wire-types of past f (Triggered edge) [] enable trigger count = absurd (omega (arith, count))
wire-types of past f (Triggered edge) (c ∷ []) enable trigger count = ap (λ t. t ∷ []) (sym trigger)
wire-types of past f (Triggered edge) (c ∷ e ∷ wires) enable trigger count = absurd (omega (arith, count))
wire-types of past f (Both reset edge) [] enable trigger count = absurd (omega (arith, count))
wire-types of past f (Both reset edge) (c ∷ []) enable trigger count = absurd (omega (arith, count))
wire-types of past f (Both reset edge) (c ∷ e ∷ []) enable trigger count = ap₂ (λ t u. t ∷ u ∷ []) (sym enable) (sym trigger)
wire-types of past f (Both reset edge) (c ∷ e ∷ g ∷ wires) enable trigger count = absurd (omega (arith, count))

-- ---- The controls of a system are counted

subsystem-kind : (kind : Kind) → is_subsystem kind ≡ true → kind ≡ SubSystem (control_of kind)
subsystem-kind (SubSystem control) h = refl
subsystem-kind _ h = absurd (true≢false (sym h))

ports-wanted : (control : Control) (o : Option ℕ) → wires_wanted (SubSystem control) o ≡ length (control_ports control)
ports-wanted Plain o = refl
ports-wanted (Enabled reset) o = refl
ports-wanted (Triggered edge) o = refl
ports-wanted (Both reset edge) o = refl

module _ (d : Diagram) (wired : IsWired d.rows) where
  abbrev HasWires : ℕ → Type 0
  HasWires e = length (row_at d.rows e).inputs ≡ length (control_ports (control_at d.rows e))

  has-wires : (e : ℕ) → Contains (systems d.rows) (Some e) → HasWires e
  has-wires e has =
      let is = of-systems d.rows e has in
      wired.counts e is.0 ∙ ap (λ k. wires_wanted k (row_at d.rows e).owner) (subsystem-kind (row_at d.rows e).kind is.1)
      ∙ ports-wanted (control_at d.rows e) (row_at d.rows e).owner

  control-wires : (s : Option ℕ) → Contains (systems d.rows) s →
      map (type_at d.types) (control_wires_of d.rows s) ≡ map (input_type_of d s) (control_ports (system_control d.rows s))
  control-wires None has = refl
  control-wires (Some e) has =
      wire-types (type_at d.types) (length d.rows) (input_type_of d (Some e)) (control_at d.rows e) (row_at d.rows e).inputs refl refl
      (has-wires e has)

  -- the types of a header are those of the inputs of its system
  pub header-types : (s : Option ℕ) (needs : List ℕ) → Contains (systems d.rows) s →
      (header_for d s needs).inputs ++ (header_for d s needs).controls ≡ map (input_type_of d s) (input_ports d.rows s)
  header-types s needs has =
      let numbers : List ℕ = range_with_len 1 (length (inports_of d.rows s)) in
      ap₂ (λ ts us. ts ++ us)
      (sym (map-map (input_type_of d s) Number numbers ∙ inport-types d s)) (control-wires s has)
      ∙ sym (map-append (input_type_of d s) (map Number numbers) (control_ports (system_control d.rows s)))

  pub header-ports : (s : Option ℕ) (needs : List ℕ) → ports_of_header (header_for d s needs) ≡ input_ports d.rows s
  header-ports s needs =
      ap (λ n. map Number (range_with_len 1 n) ++ control_ports (system_control d.rows s))
      (length-map (inports_of d.rows s) (type_at d.types))
