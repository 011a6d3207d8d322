-- The call for a child gives it what it reads.
use Rattle.std.proofs.Common.{◌≡◌, refl, sym, ap, ap₂, ◌∙◌, subst, ℕ, suc, ◌+◌, ◌%◌, List, [], ◌∷◌, ◌++◌, length, map, slice_get, Option, Some, None, ℤ, pos, arith, inr}
use Rattle.std.specs.List.{AllByRecursion, range_with_len}
use Rattle.std.specs.Option.{option_and_then}
use Rattle.std.proofs.lemmas.List.{map-append}
use Rattle.std.proofs.lemmas.Option.{slice_get_within, same_Some}
use Rattle.base_core.specs.Ports.{control_ports}
use Rattle.base_core.specs.declared.Control.{Control}
use Rattle.base_core.specs.declared.Control.TheVariants.{Plain, Enabled, Triggered, Both}
use Rattle.base_core.specs.declared.Port.{Port}
use Rattle.base_core.specs.declared.Port.TheVariants.{Number, Enable, Trigger}
use Rattle.diagram_blocks.specs.Kinds.{is_inport, is_outport}
use Rattle.diagram_meaning.specs.declared.Row.{Row}
use Rattle.diagram_meaning.specs.Rows.{row_at, control_at, enable_among, trigger_among, inports_of, outports_of}
use Rattle.diagram_meaning.specs.Inputs.{input_ports, entering_wires}
use Rattle.diagram_meaning.specs.WellFormed.{IsWireIn, reading_system}
use Rattle.diagram_meaning.specs.Diagram.{Diagram}
use Rattle.diagram_meaning.proofs.lemmas.EnteringWires.{as-many, at-entering}
use Rattle.diagram_meaning.proofs.lemmas.Ports.{ported-at}
use Rattle.modules_profile.specs.Systems.{entering_wire}
use Rattle.emit_shape.specs.Names.{value_name, now_name}
use Rattle.lustre_syntax.specs.Named.{NamedExpr, renamed}
use Rattle.lustre_flows.specs.Values.{value_at, value_of, number_of, read, evaluate}
use Rattle.lustre_system.specs.Names.{active_name, reset_name}
use Rattle.lustre_system.specs.RowEquations.{wire_read}
use Rattle.lustre_rows.specs.ChildLaws.{IsChild, ChildEquationsHold}
use Rattle.lustre_rows.proofs.lemmas.Lists.{all-after, all-by-place, all-map}
use Rattle.lustre_rows.proofs.lemmas.Wires.{child-reading, outer-reading, controls-wanted}

-- ---- Which wires enter a child

-- by numbers from j on
numbered : (f : Port → Option ℕ) (ws : List ℕ) (j : ℕ) → ((k c : ℕ) → slice_get ws k ≡ Some c → f (Number (j + k)) ≡ Some c) →
    map f (map Number (range_with_len j (length ws))) ≡ map Some ws
numbered f [] j each = refl
numbered f (c ∷ ws) j each =
    let here : j + 0 ≡ j = omega arith in
    ap₂ (λ (x : Option ℕ) (xs : List (Option ℕ)). x ∷ xs) (subst (λ k. f (Number k) ≡ Some c) here (each 0 c refl))
    (numbered f ws (j + 1) (λ k x at. subst (λ i. f (Number i) ≡ Some x)
    (let e : j + suc k ≡ j + 1 + k = omega arith in e) (each (suc k) x at)))

controls-enter : (f : Port → Option ℕ) (c : Control) (ws : List ℕ) → f Enable ≡ enable_among c ws → f Trigger ≡ trigger_among c ws →
    length ws ≡ length (control_ports c) → map f (control_ports c) ≡ map Some ws
controls-enter f Plain [] enable trigger many = refl
controls-enter f Plain (w ∷ ws) enable trigger many = absurd (omega (arith, many))
controls-enter f (Enabled reset) [] enable trigger many = absurd (omega (arith, many))
controls-enter f (Enabled reset) (w ∷ []) enable trigger many = ap (λ (x : Option ℕ). x ∷ []) enable
controls-enter f (Enabled reset) (w ∷ v ∷ ws) enable trigger many = absurd (omega (arith, many))
controls-enter f (Triggered edge) [] enable trigger many = absurd (omega (arith, many))
controls-enter f (Triggered edge) (w ∷ []) enable trigger many = ap (λ (x : Option ℕ). x ∷ []) trigger
controls-enter f (Triggered edge) (w ∷ v ∷ ws) enable trigger many = absurd (omega (arith, many))
controls-enter f (Both reset edge) [] enable trigger many = absurd (omega (arith, many))
controls-enter f (Both reset edge) (w ∷ []) enable trigger many = absurd (omega (arith, many))
controls-enter f (Both reset edge) (w ∷ v ∷ []) enable trigger many =
    ap₂ (λ (x y : Option ℕ). x ∷ y ∷ []) enable trigger
controls-enter f (Both reset edge) (w ∷ v ∷ u ∷ ws) enable trigger many = absurd (omega (arith, many))

module _ (rows : List Row) (s : Option ℕ) (e : ℕ) (child : IsChild rows s e) where
  abbrev entering : List ℕ
  entering = entering_wires rows (Some e)

  abbrev own_wires : List ℕ
  own_wires = (row_at rows e).inputs

  enters-at : (k c : ℕ) → slice_get entering k ≡ Some c → entering_wire rows e (Number (1 + k)) ≡ Some c
  enters-at k c at =
      let (i, there, is) = at-entering rows child.wired e child.inports k c at in
      subst (λ n. entering_wire rows e (Number n) ≡ Some c) (let e : suc k ≡ 1 + k = omega arith in e)
      (ap (option_and_then (λ b. slice_get (row_at rows b).inputs 0)) there ∙ ap (λ (ws : List ℕ). slice_get ws 0) is)

  ports-enter : map (entering_wire rows e) (input_ports rows (Some e)) ≡ map Some (entering ++ own_wires)
  ports-enter =
      let f = entering_wire rows e in
      let c = control_at rows e in
      let numbers = map Number (range_with_len 1 (length (inports_of rows (Some e)))) in
      let first : map f numbers ≡ map Some entering =
      subst (λ n. map f (map Number (range_with_len 1 n)) ≡ map Some entering) (as-many rows child.wired e child.inports)
      (numbered f entering 1 enters-at) in
      let second = controls-enter f c own_wires refl refl
      (child.wired.counts e child.row.in_table ∙ controls-wanted (row_at rows e).kind (row_at rows e).owner child.subsystem) in
      map-append f numbers (control_ports c) ∙ ap₂ (λ (xs ys : List (Option ℕ)). xs ++ ys) first second
      ∙ sym (map-append {A = ℕ} Some entering own_wires)

  -- they are wires of the system around it
  entering-wired : (k c : ℕ) → slice_get entering k ≡ Some c → IsWireIn rows s c
  entering-wired k c at =
      let (i, there, is) = at-entering rows child.wired e child.inports k c at in
      let (b, found, ported, port) = ported-at rows is_inport (Some e) child.inports k
      (slice_get_within (inports_of rows (Some e)) k i there) in
      let same : b ≡ i = same_Some b i (sym found ∙ there) in
      let wires = child.wired.wires b ported.in_table in
      let one : (row_at rows b).inputs ≡ c ∷ [] = ap (λ j. (row_at rows j).inputs) same ∙ is in
      let system : reading_system rows (row_at rows b).kind (row_at rows b).owner ≡ s =
      outer-reading rows (row_at rows b).kind (row_at rows b).owner e ported.passing ported.is_own ∙ child.row.own in
      subst (λ (o : Option ℕ). IsWireIn rows o c) system
      (subst (λ (ws : List ℕ). AllByRecursion (IsWireIn rows (reading_system rows (row_at rows b).kind (row_at rows b).owner)) ws)
      one wires).0

  controls-wired : AllByRecursion (IsWireIn rows s) own_wires
  controls-wired =
      subst (λ (o : Option ℕ). AllByRecursion (IsWireIn rows o) own_wires)
      (child-reading rows (row_at rows e).kind (row_at rows e).owner child.subsystem ∙ child.row.own)
      (child.wired.wires e child.row.in_table)

  outport-wired : (k o : ℕ) → slice_get (outports_of rows (Some e)) k ≡ Some o → IsWireIn rows s o
  outport-wired k o at =
      let (b, found, ported, port) = ported-at rows is_outport (Some e) child.outports k
      (slice_get_within (outports_of rows (Some e)) k o at) in
      let same : b ≡ o = same_Some b o (sym found ∙ at) in
      subst (λ c. IsWireIn rows s c) same (ported.in_table, inr (ported.passing, (e, ported.is_own, child.row.own)))

-- ---- The call

value-read : (x : Option ℤ) → value_of (read x) ≡ x
value-read None = refl
value-read (Some v) = refl

module _ (d : Diagram) (s : Option ℕ) (before : Option (List (Option ℤ))) (values : List (Option ℤ)) (place : List ℕ → ℕ) (f : ℕ → ℤ) where
  abbrev given : NamedExpr → Option ℤ
  given x = value_of (evaluate before values (renamed place x))

  abbrev Named : ℕ → Type 0
  Named c = value_at values (place (value_name c)) ≡ Some (f c)

  wires-read : (ew : Port → Option ℕ) (ps : List Port) (ws : List ℕ) → map ew ps ≡ map Some ws → AllByRecursion Named ws →
      map given (map (λ p. wire_read d s (ew p)) ps) ≡ map Some (map f ws)
  wires-read ew [] [] same named = refl
  wires-read ew [] (w ∷ ws) same named = absurd (cc)
  wires-read ew (p ∷ ps) [] same named = absurd (cc)
  wires-read ew (p ∷ ps) (w ∷ ws) same named =
      let first : ew p ≡ Some w = cc in
      let later : map ew ps ≡ map Some ws = cc in
      ap₂ (λ (x : Option ℤ) (xs : List (Option ℤ)). x ∷ xs)
      (ap (λ (o : Option ℕ). given (wire_read d s o)) first ∙ ap (λ (x : Option ℤ). value_of (read x)) named.0)
      (wires-read ew ps ws later named.1)

  values-read : (os : List ℕ) → AllByRecursion Named os →
      map (λ text. value_at values (place text)) (map value_name os) ≡ map (λ o. Some (f o)) os
  values-read [] named = refl
  values-read (o ∷ os) named = ap₂ (λ (x : Option ℤ) (xs : List (Option ℤ)). x ∷ xs) named.0 (values-read os named.1)

pub child_equations_hold : ChildEquationsHold
child_equations_hold d hyper s m inner before values place e tick child meets same_tick same_values =
    let names = tick.names in
    let entering = entering_wires d.rows (Some e) in
    let own = (row_at d.rows e).inputs in
    let all : AllByRecursion (λ c. value_at values (place (value_name c)) ≡ Some (m.value c)) (entering ++ own) =
    all-after (λ c. value_at values (place (value_name c)) ≡ Some (m.value c)) entering own
    (all-by-place (λ c. value_at values (place (value_name c)) ≡ Some (m.value c)) entering
    (λ k c at. names.wires c (entering-wired d.rows s e child k c at)))
    (all-map (IsWireIn d.rows s) (λ c. value_at values (place (value_name c)) ≡ Some (m.value c)) names.wires own
    (controls-wired d.rows s e child)) in
    let entered = wires-read d s before values place m.value (entering_wire d.rows e) (input_ports d.rows (Some e)) (entering ++ own)
    (ports-enter d.rows s e child) all in
    let inputs : map m.value (entering ++ own) ≡ inner.inputs ++ inner.controls =
    map-append m.value entering own ∙ ap₂ (λ (xs ys : List ℤ). xs ++ ys) (sym meets.inputs) (sym meets.controls) in
    let outs : map (λ text. value_at values (place text)) (map value_name (outports_of d.rows (Some e)))
    ≡ map (λ o. Some (m.value o)) (outports_of d.rows (Some e)) =
    values-read d s before values place m.value (outports_of d.rows (Some e))
    (all-by-place (λ c. value_at values (place (value_name c)) ≡ Some (m.value c)) (outports_of d.rows (Some e))
    (λ k o at. names.wires o (outport-wired d.rows s e child k o at))) in
    let now : value_at values (place now_name) ≡ Some (pos (inner.t % hyper)) =
    names.now ∙ ap (λ t. Some (pos (t % hyper))) (sym same_tick) in
    let on : value_at values (place active_name) ≡ Some (number_of inner.parent) =
    names.active ∙ ap (λ b. Some (number_of b)) (sym meets.parent) in
    let off : value_at values (place reset_name) ≡ Some (number_of inner.is_off_around) =
    names.reset ∙ ap (λ b. Some (number_of b)) (sym meets.is_off_around) in (
      (
        refl,
        ap₂ (λ (x : Option ℤ) (xs : List (Option ℤ)). x ∷ xs) (value-read (value_at values (place now_name)) ∙ now)
            (ap₂ (λ (x : Option ℤ) (xs : List (Option ℤ)). x ∷ xs) (value-read (value_at values (place active_name)) ∙ on)
            (ap₂ (λ (x : Option ℤ) (xs : List (Option ℤ)). x ∷ xs) (value-read (value_at values (place reset_name)) ∙ off)
            (entered ∙ ap (map Some) inputs))),
        outs ∙ ap (λ (f : ℕ → ℤ). map (λ o. Some (f o)) (outports_of d.rows (Some e))) (sym same_values),
      ),
      tt,
    )
