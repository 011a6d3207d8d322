-- The input of an Inport is known: at the root by the trace, elsewhere by the wire that enters.
use Rattle.std.proofs.Common.{◌≡◌, refl, sym, ap, ap₂, ◌∙◌, subst, ℕ, zero, suc, ◌+◌, ◌-◌, ◌<◌, Bool, true, ◌&&◌, if◌then◌else◌, List, [], ◌∷◌, map, length, slice_get, slice_index_or, Contains, Option, None, Some, ℤ, pos, arith}
use Rattle.std.specs.List.{AllByRecursion, range_with_len}
use Rattle.std.specs.Option.{option_and_then}
use Rattle.std.proofs.lemmas.List.{length-map}
use Rattle.std.proofs.lemmas.List.FromFn.{get_or-map-range_with_len}
use Rattle.base_core.specs.Numbers.{int_at}
use Rattle.base_core.specs.Ports.{control_ports}
use Rattle.base_core.specs.declared.Port.TheVariants.{Number}
use Rattle.diagram_blocks.specs.Kinds.{is_subsystem, is_inport, port_of}
use Rattle.diagram_meaning.specs.Rows.{row_at, system_control, same_system, is_inport_of, inports_of, column}
use Rattle.diagram_meaning.specs.Inputs.{entering_wires}
use Rattle.diagram_meaning.specs.Needs.{IsInputRow}
use Rattle.diagram_meaning.specs.Run.{value_at as run_value}
use Rattle.diagram_meaning.specs.SystemRuns.{IsRowOf}
use Rattle.diagram_meaning.specs.Traces.{IsTraceRow}
use Rattle.diagram_meaning.specs.WellFormed.{IsWireIn, HasPorts}
use Rattle.diagram_meaning.proofs.lemmas.EnteringWires.{entering-at}
use Rattle.diagram_meaning.proofs.lemmas.Ports.{IsPorted, at-own-port, has-port}
use Rattle.diagram_meaning.proofs.lemmas.Resolving.{all-at}
use Rattle.diagram_meaning.proofs.lemmas.RestsOnNeeds.{is_inport-equal}
use Rattle.diagram_meaning.proofs.lemmas.Traces.{row-has}
use Rattle.diagram_typed_runs.specs.TypedRuns.{IsSystem}
use Rattle.modules_profile.specs.Systems.{entering_wire}
use Rattle.c_syntax.specs.declared.Leaf.{Leaf}
use Rattle.c_syntax.specs.declared.Leaf.TheVariants.{Param, Own}
use Rattle.emit_shape.specs.Names.{value_name}
use Rattle.lustre_flows.specs.Values.{value_at}
use Rattle.lustre_system.specs.Functions.{int_name}
use Rattle.lustre_system.specs.Names.{port_names, leaf_name}
use Rattle.lustre_rows.specs.NamesOfTick.{leaf_value}
use Rattle.modules_profile.proofs.lemmas.Members.{in-first}
use Rattle.modules_profile.proofs.lemmas.PortRows.{same-self}
use Rattle.lustre_rows.proofs.lemmas.Lists.{all-member}
use Rattle.lustre_rows.proofs.lemmas.Systems.{system-below}
use Rattle.lustre_rows.proofs.lemmas.Wires.{outer-reading}
use Rattle.lustre_ticks.proofs.Lists.{number-at}
use Rattle.lustre_ticks.proofs.Setting.{Setting, d, rows, tick_of, solved, place, IsKnown, names, known-value, known-by}
use Rattle.lustre_ticks.proofs.Inputs.{number-port, port-total, param-place, wire-input}
use Rattle.lustre_ticks.proofs.Around.{root-input}
use Rattle.lustre_ticks.proofs.Wires.{KnownRow, known-wire, owner-system}

some-at : (vs : List ℤ) (k : ℕ) → k < length vs → value_at (map Some vs) k ≡ Some (run_value vs k)
some-at [] k below = absurd (omega (arith, below))
some-at (v ∷ vs) zero below = refl
some-at (v ∷ vs) (suc k) below = some-at vs k (omega (arith, below))

module _ (g : Setting) (s : Option ℕ) (system : IsSystem (rows g) s) (b : ℕ) (row : IsRowOf (rows g) s b)
    (is : is_inport (row_at (rows g) b).kind ≡ true) where
  abbrev own_port : ℕ
  own_port = port_of (row_at (rows g) b).kind

  abbrev ports : HasPorts (rows g) is_inport s
  ports = g.tick.resolved.tree.table.inports s

  ported : IsPorted (rows g) is_inport s ports b
  ported = record { in_table = row.in_table; is_own = row.own; passing = is }

  port-there : slice_get (inports_of (rows g) s) (own_port - 1) ≡ Some b
  port-there = at-own-port (rows g) is_inport s ports b ported

  port-below : own_port - 1 < length (inports_of (rows g) s)
  port-below = let has = has-port (rows g) is_inport s ports b ported in let low = has.0 in let high = has.1 in omega (arith, low, high)

  name-below : own_port - 1 < length (port_names (rows g) s)
  name-below = let total = port-total (rows g) s in omega (arith, port-below, total)

  pub is-inport-of : is_inport_of (rows g) s b ≡ true
  is-inport-of = ap₂ (λ (p q : Bool). p && q) is (ap (λ o. same_system o s) row.own ∙ same-self s)

  -- what is expected of its input
  input-expected : value_at (g.expected s) (place g s (leaf_name (rows g) s (Param (own_port - 1))))
      ≡ Some (int_at (tick_of g s).inputs (own_port - 1))
  input-expected =
      (subst (λ p. AllByRecursion (λ (l : Leaf). value_at (g.expected s) (place g s (leaf_name (rows g) s l))
      ≡ Some (leaf_value (tick_of g s) l))
      (if p then Param (own_port - 1) ∷ [] else map Own (row_at (rows g) b).inputs)) is-inport-of ((names g s system).leaves b row)).0

-- ---- At the root

root-inport : (g : Setting) (b : ℕ) → IsRowOf (rows g) None b → is_inport (row_at (rows g) b).kind ≡ true →
    IsKnown g None (leaf_name (rows g) None (Param (port_of (row_at (rows g) b).kind - 1)))
root-inport g b row is =
    let port = port_of (row_at (rows g) b).kind in
    let k = port - 1 in
    let x = slice_index_or g.xs g.t [] in
    let many = length (inports_of (rows g) None) in
    let f : ℕ → ℤ = λ j. run_value x (column (rows g) None (Number j)) in
    let below = port-below g None tt b row is in
    let named = name-below g None tt b row is in
    let count = length-map (port_names (rows g) None) int_name in
    let input : IsInputRow (rows g) None port b = record {
      in_table = row.in_table;
      is_inport = is_inport-equal (row_at (rows g) b).kind is;
      is_own = row.own;
    } in
    let traced : IsTraceRow (d g) None x = all-at (IsTraceRow (d g) None) g.xs g.t [] g.tick.trace g.tick.within in
    let long = (row-has (d g) None (g.tick.resolved.tree.table.inports None) x traced port b input).0 in
    let less : suc k - 1 ≡ k = omega arith in
    let number : 1 + k ≡ suc k = omega arith in
    let column_is : int_at (map f (range_with_len 1 many)) k ≡ run_value x k =
    get_or-map-range_with_len f 1 many k (suc k) (pos 0) below number ∙ ap (run_value x) less in
    let bound : suc (suc (suc k)) < suc (suc (suc (length (map int_name (port_names (rows g) None))))) = omega (arith, named, count) in
    known-by g None (leaf_name (rows g) None (Param k)) (suc (suc (suc k))) (run_value x k) (param-place g None tt k named)
    (root-input g (suc (suc (suc k))) bound ∙ some-at x k long)
    (input-expected g None tt b row is ∙ ap Some column_is)

-- ---- Elsewhere

inner-inport : (g : Setting) (e b : ℕ) → is_subsystem (row_at (rows g) e).kind ≡ true → IsRowOf (rows g) (Some e) b →
    is_inport (row_at (rows g) b).kind ≡ true → ((c : ℕ) → Contains (row_at (rows g) b).inputs c → KnownRow g c) →
    IsKnown g (Some e) (leaf_name (rows g) (Some e) (Param (port_of (row_at (rows g) b).kind - 1)))
inner-inport g e b system row is wires =
    let wired = g.tick.resolved.tree.table.wired in
    let o = (row_at (rows g) e).owner in
    let own = (row_at (rows g) b).inputs in
    let k = port_of (row_at (rows g) b).kind - 1 in
    let in_table = system-below (rows g) e system in
    let outer : IsRowOf (rows g) o e = record { in_table = in_table; own = refl } in
    let outside = owner-system (rows g) e o (g.tick.resolved.tree.table.nested.owned e in_table) in
    let below = port-below g (Some e) system b row is in
    let there = port-there g (Some e) system b row is in
    let (c, one, entering) = entering-at (rows g) wired e (g.tick.resolved.tree.table.inports (Some e)) k b there in
    let member : Contains own c = subst (λ (cs : List ℕ). Contains cs c) (sym one) (in-first c []) in
    let wire : IsWireIn (rows g) o c =
    all-member (IsWireIn (rows g) o) own
    (subst (λ (q : Option ℕ). AllByRecursion (IsWireIn (rows g) q) own)
    (outer-reading (rows g) (row_at (rows g) b).kind (row_at (rows g) b).owner e is row.own) (wired.wires b row.in_table)) c member in
    let w = (tick_of g o).value c in
    let here : value_at (solved g o) (place g o (value_name c)) ≡ Some w =
    known-value g o (place g o (value_name c)) w (known-wire g o c (wires c member) wire) ((names g o outside).wires c wire) in
    let enters : entering_wire (rows g) e (Number (1 + k)) ≡ Some c =
    subst (λ n. entering_wire (rows g) e (Number n) ≡ Some c) (let number : suc k ≡ 1 + k = omega arith in number)
    (ap (option_and_then (λ i. slice_get (row_at (rows g) i).inputs 0)) there ∙ ap (λ (cs : List ℕ). slice_get cs 0) one) in
    known-by g (Some e) (leaf_name (rows g) (Some e) (Param k)) (suc (suc (suc k))) w
    (param-place g (Some e) system k (name-below g (Some e) system b row is))
    (wire-input g o outside e outer system k c (Number (1 + k)) w
    (number-port 1 (length (inports_of (rows g) (Some e))) k (control_ports (system_control (rows g) (Some e))) below) enters here)
    (input-expected g (Some e) system b row is ∙ ap Some (number-at (tick_of g o).value (entering_wires (rows g) (Some e)) k c entering))

pub inport-known : (g : Setting) (s : Option ℕ) → IsSystem (rows g) s → (b : ℕ) → IsRowOf (rows g) s b →
    is_inport (row_at (rows g) b).kind ≡ true → ((c : ℕ) → Contains (row_at (rows g) b).inputs c → KnownRow g c) →
    IsKnown g s (leaf_name (rows g) s (Param (port_of (row_at (rows g) b).kind - 1)))
inport-known g None system b row is wires = root-inport g b row is
inport-known g (Some e) system b row is wires = inner-inport g e b system row is wires
