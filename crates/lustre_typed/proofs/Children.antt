-- The call for a child agrees in types with the child's node.
use Rattle.std.proofs.Common.{◌≡◌, refl, sym, ap, ◌∙◌, subst, ℕ, zero, suc, true, List, [], ◌∷◌, ◌++◌, length, map, take, drop, Option, Some, None, pos, arith, append_assoc}
use Rattle.std.specs.Prelude.{Contains, slice_get}
use Rattle.std.specs.List.{AllByRecursion}
use Rattle.std.specs.Option.{option_and_then}
use Rattle.base_core.specs.declared.Control.{Control}
use Rattle.base_core.specs.declared.Control.TheVariants.{Plain, Enabled, Triggered, Both}
use Rattle.base_core.specs.declared.Port.{Port}
use Rattle.base_core.specs.declared.Port.TheVariants.{Number, Enable, Trigger}
use Rattle.diagram_blocks.specs.Kinds.{is_subsystem, is_inport}
use Rattle.diagram_meaning.specs.declared.Row.{Row}
use Rattle.diagram_meaning.specs.Rows.{row_at, control_at, system_control, enable_among, trigger_among, inports_of, outports_of}
use Rattle.diagram_meaning.specs.Inputs.{input_ports}
use Rattle.diagram_meaning.specs.WellFormed.{IsWired, IsWireIn, reading_system}
use Rattle.diagram_meaning.specs.Diagram.{Diagram}
use Rattle.diagram_meaning.specs.ResolvedTree.{ResolvedTree, IsResolvedTree, diagram_of}
use Rattle.diagram_meaning.specs.SystemRuns.{IsRowOf}
use Rattle.modules_profile.specs.Systems.{system_name, entering_wire}
use Rattle.modules_profile.proofs.lemmas.Members.{in-at}
use Rattle.modules_profile.proofs.lemmas.PortRows.{of-ports}
use Rattle.emit_shape.specs.Names.{value_name, now_name, port_name}
use Rattle.lustre_syntax.specs.Tree.{ValueType, int, bool, Declared, NodeTree, number, name, types_of}
use Rattle.lustre_syntax.specs.Named.{placed_node}
use Rattle.lustre_syntax.specs.Typing.{input_types, output_types}
use Rattle.lustre_syntax.specs.Lawful.{AreDistinct}
use Rattle.lustre_system.specs.Functions.{int_name}
use Rattle.lustre_system.specs.Names.{active_name, reset_name}
use Rattle.lustre_system.specs.RowEquations.{wire_read, child_equations}
use Rattle.lustre_system.specs.SystemNodes.{system_inputs, system_names, system_node}
use Rattle.lustre_rows.proofs.lemmas.Lists.{all-member, all-members}
use Rattle.lustre_rows.proofs.lemmas.Wires.{child-reading, outer-reading}
use Rattle.lustre_right.specs.Systems.{system_texts, place_in}
use Rattle.lustre_typed.proofs.Leaves.{wire-is}
use Rattle.lustre_typed.proofs.Lists.{first-types, later-types}
use Rattle.lustre_typed.proofs.Names.{types, Holds, Fits, now-holds, active-holds, reset-holds, outport-holds}
use Rattle.lustre_typed.proofs.Sound.{HaveTypes, AreTyped, IsSound}
use Rattle.lustre_typed.proofs.Typed.{deeper, number-typed, name-typed}

-- ---- The wires that enter a child are wires of the system around it

enable-at : (c : Control) (ws : List ℕ) (w : ℕ) → enable_among c ws ≡ Some w → Contains ws w
enable-at Plain ws w is = absurd (cc)
enable-at (Enabled reset) ws w is = in-at ws 0 w is
enable-at (Triggered edge) ws w is = absurd (cc)
enable-at (Both reset edge) ws w is = in-at ws 0 w is

trigger-at : (c : Control) (ws : List ℕ) (w : ℕ) → trigger_among c ws ≡ Some w → Contains ws w
trigger-at Plain ws w is = absurd (cc)
trigger-at (Enabled reset) ws w is = absurd (cc)
trigger-at (Triggered edge) ws w is = in-at ws 0 w is
trigger-at (Both reset edge) ws w is = in-at ws 1 w is

module _ (rows : List Row) (wired : IsWired rows) (s : Option ℕ) (e : ℕ) (row : IsRowOf rows s e)
    (subsystem : is_subsystem (row_at rows e).kind ≡ true) where
  controls-wired : AllByRecursion (IsWireIn rows s) (row_at rows e).inputs
  controls-wired =
      subst (λ (o : Option ℕ). AllByRecursion (IsWireIn rows o) (row_at rows e).inputs)
      (child-reading rows (row_at rows e).kind (row_at rows e).owner subsystem ∙ row.own) (wired.wires e row.in_table)

  inport-wired : (i c : ℕ) → Contains (inports_of rows (Some e)) i → slice_get (row_at rows i).inputs 0 ≡ Some c → IsWireIn rows s c
  inport-wired i c here at =
      let (below, own, is) = of-ports rows (Some e) is_inport i here in
      let system : reading_system rows (row_at rows i).kind (row_at rows i).owner ≡ s =
      outer-reading rows (row_at rows i).kind (row_at rows i).owner e is own ∙ row.own in
      subst (λ (o : Option ℕ). IsWireIn rows o c) system
      (all-member (IsWireIn rows (reading_system rows (row_at rows i).kind (row_at rows i).owner)) (row_at rows i).inputs
      (wired.wires i below) c (in-at (row_at rows i).inputs 0 c at))

  pub entering-wired : (p : Port) (c : ℕ) → entering_wire rows e p ≡ Some c → IsWireIn rows s c
  entering-wired (Number zero) c is = absurd (cc)
  entering-wired (Number (suc k)) c is = by (slice_get (inports_of rows (Some e)) k) refl is
    where
      by : (o : Option ℕ) → slice_get (inports_of rows (Some e)) k ≡ o →
          option_and_then (λ i. slice_get (row_at rows i).inputs 0) o ≡ Some c → IsWireIn rows s c
      by None at found = absurd (cc)
      by (Some i) at found = inport-wired i c (in-at (inports_of rows (Some e)) k i at) found
  entering-wired Enable c is =
      all-member (IsWireIn rows s) (row_at rows e).inputs controls-wired c
      (enable-at (control_at rows e) (row_at rows e).inputs c is)
  entering-wired Trigger c is =
      all-member (IsWireIn rows s) (row_at rows e).inputs controls-wired c
      (trigger-at (control_at rows e) (row_at rows e).inputs c is)

-- ---- The types of a node

abbrev outputs_in : Diagram → Option ℕ → List Declared
outputs_in d s = map (λ o. int_name (value_name o)) (outports_of d.rows s)

node-inputs : (callees : List (List ℕ)) (d : Diagram) (s : Option ℕ) →
    input_types (placed_node callees (system_node d s)) ≡ types_of (system_inputs d s)
node-inputs callees d s =
    let xs = system_inputs d s in
    let ys = outputs_in d s in
    let zs = system_names d s in
    ap (λ (ns : List Declared). take (length xs) (types_of ns)) (append_assoc xs ys zs) ∙ first-types xs (ys ++ zs)

node-outputs : (callees : List (List ℕ)) (d : Diagram) (s : Option ℕ) →
    output_types (placed_node callees (system_node d s)) ≡ types_of (outputs_in d s)
node-outputs callees d s =
    let xs = system_inputs d s in
    let ys = outputs_in d s in
    let zs = system_names d s in
    ap (λ (ns : List Declared). take (length ys) (drop (length xs) (types_of ns))) (append_assoc xs ys zs)
    ∙ ap (take (length ys)) (later-types xs (ys ++ zs)) ∙ first-types ys zs

-- ---- The call

module _ (r : ResolvedTree) (resolved : IsResolvedTree r) (s : Option ℕ) (distinct : AreDistinct (system_texts (diagram_of r) s)) where
  abbrev d : Diagram
  d = diagram_of r

  abbrev place : List ℕ → ℕ
  place = place_in d s

  named : (text : List ℕ) (t : ValueType) → Holds d s text t → Fits d s (name text) t 100
  named text t holds = deeper (types d s) place (name text) t 1 100 (omega arith) (name-typed (types d s) place text t holds)

  read-typed : (o : Option ℕ) → ((c : ℕ) → o ≡ Some c → IsWireIn d.rows s c) → Fits d s (wire_read d s o) int 100
  read-typed None wire = deeper (types d s) place (number (pos 0)) int 1 100 (omega arith) (number-typed (types d s) place 0 (omega arith))
  read-typed (Some c) wire = named (value_name c) int (wire-is r resolved s distinct c (wire c refl))

  wires-typed : (enters : Port → Option ℕ) → ((p : Port) (c : ℕ) → enters p ≡ Some c → IsWireIn d.rows s c) →
      (c : Control) (ps : List Port) →
      AreTyped (types d s) place (map (λ p. wire_read d s (enters p)) ps) (types_of (map int_name (map (port_name c) ps)))
  wires-typed enters wire c [] = tt
  wires-typed enters wire c (p ∷ ps) = (read-typed (enters p) (wire p), wires-typed enters wire c ps)

  values-have : (os : List ℕ) → AllByRecursion (λ o. Holds d s (value_name o) int) os →
      HaveTypes (types d s) place (map value_name os) (types_of (map (λ o. int_name (value_name o)) os))
  values-have [] all = tt
  values-have (o ∷ os) all = (all.0, values-have os all.1)

  pub child-sound : (callees : List (List ℕ)) (callee : List ℕ → ℕ) (earlier : List NodeTree) (e : ℕ) → IsRowOf d.rows s e →
      is_subsystem (row_at d.rows e).kind ≡ true →
      slice_get earlier (callee (system_name (Some e))) ≡ Some (placed_node callees (system_node d (Some e))) →
      AllByRecursion (IsSound (types d s) place callee earlier) (child_equations d s e)
  child-sound callees callee earlier e row subsystem there =
      let arguments = map (λ p. wire_read d s (entering_wire d.rows e p)) (input_ports d.rows (Some e)) in (
        (
          placed_node callees (system_node d (Some e)),
          there,
          subst (λ (ts : List ValueType). HaveTypes (types d s) place (map value_name (outports_of d.rows (Some e))) ts)
              (sym (node-outputs callees d (Some e)))
              (values-have (outports_of d.rows (Some e))
              (all-members (λ o. Holds d s (value_name o) int) (outports_of d.rows (Some e))
              (λ o here. outport-holds d s distinct e row subsystem o here))),
          subst (λ (ts : List ValueType). AreTyped (types d s) place (name now_name ∷ name active_name ∷ name reset_name ∷ arguments) ts)
              (sym (node-inputs callees d (Some e))) (
                named now_name int (now-holds d s distinct),
                (
                  named active_name bool (active-holds d s distinct),
                  (
                    named reset_name bool (reset-holds d s distinct),
                    wires-typed (entering_wire d.rows e) (entering-wired d.rows resolved.tree.table.wired s e row subsystem)
                        (system_control d.rows (Some e)) (input_ports d.rows (Some e)),
                  ),
                ),
              ),
        ),
        tt,
      )
