-- Each system of a resolved model has what its code needs.
use Rattle.std.specs.Prelude.{◌≡◌, ℕ, ◌+◌, ◌-◌, ◌^◌, ◌<◌, ◌≤◌, nat_lt, Bool, true, false, not, ◌&&◌, if◌then◌else◌, List, [], ◌∷◌, ◌++◌, map, flat_map, length, slice_get, slice_index_or, Contains, Option, Some, None, ℤ, pos, neg_ℤ, ◌≤ℤ◌, unsigned_abs, refl}
use Rattle.std.specs.List.{enumerate_from}
use Rattle.std.proofs.Common.{sym, ap, subst, ◌∙◌, arith, lit<, inl, inr, true≢false}
use Rattle.std.proofs.Math.ListN.{get_or-eq_default}
use Rattle.std.proofs.Math.Nat.{pow-le-pow_right}
use Rattle.std.proofs.lemmas.Bool.{eq-eqb}
use Rattle.std.proofs.lemmas.Bool.Decides.{nat_tests}
use Rattle.std.proofs.lemmas.Int.{ints}
use Rattle.std.proofs.lemmas.List.{length-map}
use Rattle.std.proofs.lemmas.List.Sums.{length-filter}
use Rattle.std.proofs.lemmas.List.Elements.{All-from_recursion, Contains-append_cases, Contains-append_left, Contains-append_right}
use Rattle.base_core.specs.declared.base.Control.{Control}
use Rattle.base_core.specs.declared.base.Control.TheVariants.{Plain, Enabled, Triggered, Both}
use Rattle.base_core.specs.declared.base.Decimal.{Decimal}
use Rattle.base_fixed_point.specs.declared.types.FixType.{FixType}
use Rattle.base_fixed_point.specs.Conversion.{InType, quantize}
use Rattle.diagram_blocks.specs.declared.kind.Kind.{Kind}
use Rattle.diagram_blocks.specs.declared.kind.Kind.TheVariants.{Inport, Outport, SubSystem, Constant, UnitDelay, Delay, RateTransition}
use Rattle.diagram_blocks.specs.declared.op.Op.{Op}
use Rattle.diagram_blocks.specs.declared.op.Op.TheVariants.{Nothing}
use Rattle.diagram_blocks.specs.Meaning.{has_value, op_of}
use Rattle.diagram_blocks.proofs.lemmas.InType.{values_stay_in_type}
use Rattle.diagram_meaning.specs.declared.table.Row.{Row as TableRow}
use Rattle.diagram_meaning.specs.Diagram.{Diagram, type_at, op_at, op_in}
use Rattle.diagram_meaning.specs.Inputs.{entering_wires, control_wires_of}
use Rattle.base_core.specs.Ports.{control_ports}
use Rattle.diagram_meaning.specs.ResolvedTree.{ResolvedTree, IsResolvedTree, diagram_of}
use Rattle.diagram_meaning.specs.Rows.{row_at, no_row, rows_of, row_numbers, same_system, subsystems_of, inports_of, outports_of, system_control}
use Rattle.diagram_blocks.specs.Kinds.{control_of, is_inport, is_outport, is_subsystem, port_of, is_delay, is_reset_outport}
use Rattle.diagram_meaning.specs.Run.{start_by}
use Rattle.diagram_meaning.specs.WellFormed.{IsOwner, IsWireIn, IsWellFormed, wires_wanted, reading_system}
use Rattle.diagram_meaning.proofs.lemmas.ByRow.{by_row-at}
use Rattle.diagram_meaning.proofs.lemmas.Ports.{at-own-port, has-port, length-by_port}
use Rattle.modules_profile.specs.declared.local.ChildUse.{ChildUse}
use Rattle.modules_profile.specs.declared.local.LocalRow.{LocalRow}
use Rattle.modules_profile.specs.LocalSystem.{LocalSystem}
use Rattle.modules_profile.specs.SystemHeader.{SystemHeader}
use Rattle.modules_profile.specs.SystemProfile.{SystemProfile}
use Rattle.modules_profile.specs.Locals.{local_row, child_use, local_of, inports, entering}
use Rattle.modules_profile.specs.NodeFacts.{AreHeaders}
use Rattle.modules_profile.proofs.lemmas.Members.{in-none, in-cases, in-map, of-map, in-filter, of-filter, in-range, at-in, at-map, in-enumerate}
use Rattle.modules_profile.proofs.lemmas.OwnRows.{of-flat_map, by_port_mapped, of-rows, of-ports}
use Rattle.modules_schedule.specs.SystemSchedule.{SystemSchedule}
use Rattle.emit_shape.specs.RowStarts.{row_start}
use Rattle.right_relation.specs.SoundLocals.{LocalsAreSound}
use Rattle.emit_system_spec.specs.Emitted.{IsEmitted}
use Rattle.emit_system_spec.specs.Fields.{value_rows, child_field}
use Rattle.emit_system_spec.specs.Sources.{output_source, child_sources, value_source}
use Rattle.right_system_nodes.proofs.Facts.{IsSourced, IsSettled}

-- ---- Kinds of rows

-- a delay is no port, and reads one wire
delay-wire : (kind : Kind) (ts : List FixType) (out : FixType) (delays : Bool) (o : Option ℕ) →
    is_delay (op_of kind ts out delays) ≡ true →
    (is_inport kind ≡ false) × (is_reset_outport kind ≡ false) × (wires_wanted kind o ≡ 1)
delay-wire (UnitDelay initial) ts out delays o h = (refl, refl, refl)
delay-wire (Delay length initial) ts out delays o h = (refl, refl, refl)
delay-wire (RateTransition initial out_time) ts out true o h = (refl, refl, refl)
delay-wire (RateTransition initial out_time) ts out false o h = absurd (true≢false (sym h))
delay-wire _ ts out delays o h = absurd (true≢false (sym h))

-- a subsystem has a wire for each of its controls, and no other row has controls
control-wires : (kind : Kind) (o : Option ℕ) → length (control_ports (control_of kind)) ≤ wires_wanted kind o
control-wires (SubSystem Plain) o = omega arith
control-wires (SubSystem (Enabled reset)) o = omega arith
control-wires (SubSystem (Triggered edge)) o = omega arith
control-wires (SubSystem (Both reset edge)) o = omega arith
control-wires _ o = omega arith

-- ---- Starts

quantized : (value : Decimal) (out : FixType) → InType out (quantize value out)
quantized value out = values_stay_in_type (Constant value) [] out false [] (pos 0) tt

-- a number of a type is small
small : (t : FixType) (v : ℤ) → InType t v → unsigned_abs v < 2 ^ 63
small t v within = by t.signed refl
  where
    bits_fit : t.bits ≤ 32
    bits_fit = t.in_profile.1

    two : 0 < 2
    two = lit< tt

    by : (s : Bool) → t.signed ≡ s → unsigned_abs v < 2 ^ 63
    by true is =
        let fewer : t.bits - 1 ≤ 32 = (let h = bits_fit in omega (arith, h)) in
        let p : 2 ^ (t.bits - 1) ≤ 2 ^ 32 = pow-le-pow_right two fewer in
        let low : neg_ℤ (pos (2 ^ (t.bits - 1))) ≤ℤ v =
        subst (λ s. (if s then neg_ℤ (pos (2 ^ (t.bits - 1))) else pos 0) ≤ℤ v) is within.0 in
        let high : v ≤ℤ pos (2 ^ (t.bits - 1) - 1) =
        subst (λ s. v ≤ℤ (if s then pos (2 ^ (t.bits - 1) - 1) else pos (2 ^ t.bits - 1))) is within.1 in
        under v (2 ^ (t.bits - 1)) low high p
      where
        under : (v : ℤ) (n : ℕ) → neg_ℤ (pos n) ≤ℤ v → v ≤ℤ pos (n - 1) → n ≤ 2 ^ 32 → unsigned_abs v < 2 ^ 63
        under v n low high p = omega (arith, ints, low, high, p)
    by false is =
        let p : 2 ^ t.bits ≤ 2 ^ 32 = pow-le-pow_right two bits_fit in
        let low : pos 0 ≤ℤ v = subst (λ s. (if s then neg_ℤ (pos (2 ^ (t.bits - 1))) else pos 0) ≤ℤ v) is within.0 in
        let high : v ≤ℤ pos (2 ^ t.bits - 1) = subst
        (λ s. v ≤ℤ (if s then pos (2 ^ (t.bits - 1) - 1) else pos (2 ^ t.bits - 1))) is within.1 in
        under v (2 ^ t.bits) low high p
      where
        under : (v : ℤ) (n : ℕ) → pos 0 ≤ℤ v → v ≤ℤ pos (n - 1) → n ≤ 2 ^ 32 → unsigned_abs v < 2 ^ 63
        under v n low high p = omega (arith, ints, low, high, p)

small-quantized : (value : Decimal) (out : FixType) → unsigned_abs (quantize value out) < 2 ^ 63
small-quantized value out = small out (quantize value out) (quantized value out)

no-start : unsigned_abs (pos 0) < 2 ^ 63
no-start = lit< tt

start-small : (kind : Kind) (ts : List FixType) (out : FixType) (delays : Bool) (around_it : Control) →
    unsigned_abs (start_by (op_of kind ts out delays) kind around_it out) < 2 ^ 63
start-small (Outport port reset initial) ts out delays Plain = no-start
start-small (Outport port reset initial) ts out delays (Enabled resets) = small-quantized initial out
start-small (Outport port reset initial) ts out delays (Triggered edge) = small-quantized initial out
start-small (Outport port reset initial) ts out delays (Both resets edge) = small-quantized initial out
start-small (UnitDelay initial) ts out delays around_it = small-quantized initial out
start-small (Delay length initial) ts out delays around_it = small-quantized initial out
start-small (RateTransition initial out_time) ts out true around_it = small-quantized initial out
start-small (RateTransition initial out_time) ts out false around_it = no-start
start-small _ ts out delays around_it = no-start

no-inport : (kind : Kind) → is_subsystem kind ≡ true → is_inport kind ≡ false
no-inport (Inport port) h = absurd (true≢false (sym h))
no-inport _ h = refl

reads-own : (rows : List TableRow) (kind : Kind) (o : Option ℕ) → is_inport kind ≡ false → reading_system rows kind o ≡ o
reads-own rows (Inport port) o h = absurd (true≢false h)
reads-own rows _ o h = refl

reads-around : (rows : List TableRow) (kind : Kind) (e : ℕ) → is_inport kind ≡ true →
    reading_system rows kind (Some e) ≡ (row_at rows e).owner
reads-around rows (Inport port) e h = refl
reads-around rows _ e h = absurd (true≢false (sym h))

first-of-both : (a b : Bool) → (a && b) ≡ true → a ≡ true
first-of-both true b is = refl
first-of-both false b is = absurd (true≢false (sym is))

system-same : (o : Option ℕ) → same_system o o ≡ true
system-same None = refl
system-same (Some e) = eq-eqb e e refl

in-flat_map : {A B : Type 0} (f : A → List B) (xs : List A) (x : A) (y : B) → Contains xs x → Contains (f x) y →
    Contains (flat_map f xs) y
in-flat_map f [] x y h k = absurd (in-none x h)
in-flat_map f (z ∷ xs) x y h k = elim (in-cases z x xs h) [
  | inl same ↦ Contains-append_left (f z) (flat_map f xs) y (subst (λ w. Contains (f w) y) (sym same) k)
  | inr more ↦ Contains-append_right (f z) (flat_map f xs) y (in-flat_map f xs x y more k)
]

module _ (r : ResolvedTree) (resolved : IsResolvedTree r) (s : Option ℕ) (headers : List SystemHeader)
    (are : AreHeaders (diagram_of r) s headers) where
  abbrev d : Diagram
  d = diagram_of r

  abbrev local : LocalSystem
  local = local_of d r.times.delays s headers

  abbrev row : ℕ → LocalRow
  row = local_row d r.times.delays

  table : IsWellFormed r.tree.table
  table = resolved.tree.table

  own-row : (q : LocalRow) → Contains local.rows q → (b : ℕ) × (b < length d.rows) × ((row_at d.rows b).owner ≡ s) × (row b ≡ q)
  own-row q h = let m = of-map row (rows_of d.rows s) q h in let at = of-rows d.rows s m.0 m.1 in (m.0, at.0, at.1, m.2)

  in-rows : (b : ℕ) → b < length d.rows → (row_at d.rows b).owner ≡ s → Contains (rows_of d.rows s) b
  in-rows b below own = in-filter (λ c. same_system (row_at d.rows c).owner s) (row_numbers d.rows) b
      (in-range 0 (length d.rows) b (omega arith) (omega (arith, below))) (ap (λ o. same_system o s) own ∙ system-same s)

  -- ---- Wires

  read : (b c : ℕ) → b < length d.rows → Contains (row_at d.rows b).inputs c →
      IsWireIn d.rows (reading_system d.rows (row_at d.rows b).kind (row_at d.rows b).owner) c
  read b c below (k, low, is) =
      subst (IsWireIn d.rows (reading_system d.rows (row_at d.rows b).kind (row_at d.rows b).owner)) is
      (All-from_recursion (IsWireIn d.rows (reading_system d.rows (row_at d.rows b).kind (row_at d.rows b).owner))
      (row_at d.rows b).inputs (table.wired.wires b below) k c low)

  -- a wire of the system has a source
  wire-sourced : (c : ℕ) → IsWireIn d.rows s c → IsSourced local c
  wire-sourced c (below, inl (own, output)) =
      let has = first-of-both (has_value (row_at d.rows c).kind) (not (is_outport (row_at d.rows c).kind)) output in
      let here : Contains local.rows (row c) = in-map row (rows_of d.rows s) c (in-rows c below own) in (
        value_source local (row c),
        Contains-append_right (flat_map (child_sources local) (enumerate_from 0 local.children))
            (map (value_source local) (value_rows local)) (value_source local (row c))
            (in-map (value_source local) (value_rows local) (row c)
            (in-filter (λ (q : LocalRow). has_value q.kind) local.rows (row c) here has)),
        refl,
      )
  wire-sourced c (below, inr (out, (e, inside, outside))) =
      let owner = subst (IsOwner d.rows c) inside (table.nested.owned c below) in
      let before = owner.0 in
      let listed : Contains (subsystems_of d.rows s) e =
      in-filter (λ b. is_subsystem (row_at d.rows b).kind) (rows_of d.rows s) e
      (in-rows e (omega (arith, before, below)) outside) owner.1 in
      let header = of-map (λ (h : SystemHeader). h.row) headers (Some e)
      (subst (λ os. Contains os (Some e)) (sym are.rows) (in-map Some (subsystems_of d.rows s) e listed)) in
      let h = header.0 in
      let place = at-in headers h header.1 in
      let port = port_of (row_at d.rows c).kind - 1 in
      let outputs : slice_get h.outputs port ≡ Some (c, type_at d.types c) =
      ap (λ (g : SystemHeader). slice_get g.outputs port) (are.each h header.1).0
      ∙ ap (λ o. slice_get (map (λ b. (b, type_at d.types b)) (outports_of d.rows o)) port) header.2
      ∙ at-map (λ b. (b, type_at d.types b)) (outports_of d.rows (Some e)) port c
      (at-own-port d.rows is_outport (Some e) (table.outports (Some e)) c
      (record { in_table = below; is_own = inside; passing = out })) in
      let child : slice_get local.children place.0 ≡ Some (child_use d h) = at-map (child_use d) headers place.0 h place.1 in
      let pair : ℕ × ChildUse = (0 + place.0, child_use d h) in
      let source = output_source (child_field local pair.0) (0 + port, (c, type_at d.types c)) in (
        source,
        Contains-append_left (flat_map (child_sources local) (enumerate_from 0 local.children))
            (map (value_source local) (value_rows local)) source
            (in-flat_map (child_sources local) (enumerate_from 0 local.children) pair source
            (in-enumerate 0 local.children place.0 (child_use d h) child)
            (in-map (output_source (child_field local pair.0)) (enumerate_from 0 h.outputs) (0 + port, (c, type_at d.types c))
            (in-enumerate 0 h.outputs port (c, type_at d.types c) outputs))),
        refl,
      )

  wired : (q : LocalRow) (c : ℕ) → Contains local.rows q → Contains q.inputs c → IsSourced local c
  wired q c own reads =
      let at = own-row q own in
      by at.0 at.1 at.2 (is_inport (row_at d.rows at.0).kind) refl (subst (λ (q : LocalRow). Contains q.inputs c) (sym at.3) reads)
    where
      by : (b : ℕ) → b < length d.rows → (row_at d.rows b).owner ≡ s → (t : Bool) → is_inport (row_at d.rows b).kind ≡ t →
          Contains (if t then [] else (row_at d.rows b).inputs) c → IsSourced local c
      by b below owned true e h = absurd (in-none c h)
      by b below owned false e h =
          wire-sourced c (subst (λ n. IsWireIn d.rows n c)
          (reads-own d.rows (row_at d.rows b).kind (row_at d.rows b).owner e ∙ owned) (read b c below h))

  entered : (u : ChildUse) (c : ℕ) → Contains local.children u → Contains (entering u) c → IsSourced local c
  entered u c child reads =
      let m = of-map (child_use d) headers u child in
      let at = of-map Some (subsystems_of d.rows s) m.0.row
      (subst (λ rows. Contains rows m.0.row) are.rows (in-map (λ (g : SystemHeader). g.row) headers m.0 m.1)) in
      let passes = of-filter (λ b. is_subsystem (row_at d.rows b).kind) (rows_of d.rows s) at.0 at.1 in
      let own = of-rows d.rows s at.0 passes.0 in
      by at.0 own.0 own.1 passes.1
      (subst (λ n. Contains (entering_wires d.rows n ++ control_wires_of d.rows n) c) (sym at.2)
      (subst (λ (v : ChildUse). Contains (entering v) c) (sym m.2) reads))
    where
      by : (e : ℕ) → e < length d.rows → (row_at d.rows e).owner ≡ s → is_subsystem (row_at d.rows e).kind ≡ true →
          Contains (entering_wires d.rows (Some e) ++ (row_at d.rows e).inputs) c → IsSourced local c
      by e below owned subsystem h = elim (Contains-append_cases (entering_wires d.rows (Some e)) (row_at d.rows e).inputs c h) [
        | inl enters ↦
            let i = of-flat_map (λ b. (row_at d.rows b).inputs) (inports_of d.rows (Some e)) c enters in
            let at = of-ports d.rows (Some e) is_inport i.0 i.1 in
            wire-sourced c
            (subst (λ n. IsWireIn d.rows n c)
            (ap (reading_system d.rows (row_at d.rows i.0).kind) at.1 ∙ reads-around d.rows (row_at d.rows i.0).kind e at.2 ∙ owned)
            (read i.0 c at.0 i.2))
        | inr controls ↦
            wire-sourced c
            (subst (λ n. IsWireIn d.rows n c)
            (reads-own d.rows (row_at d.rows e).kind (row_at d.rows e).owner (no-inport (row_at d.rows e).kind subsystem) ∙ owned)
            (read e c below controls))
      ]

  -- ---- Ports and wires of rows

  no_wires : (q : LocalRow) → Contains local.rows q → is_inport q.kind ≡ true → q.inputs ≡ []
  no_wires q own =
      let at = own-row q own in
      subst (λ (q : LocalRow). is_inport q.kind ≡ true → q.inputs ≡ []) at.3
      (λ is. ap (λ t. if t then [] else (row_at d.rows at.0).inputs) is)

  ported : (q : LocalRow) → Contains local.rows q → is_inport q.kind ≡ true →
      (0 < port_of q.kind) × (port_of q.kind ≤ length (inports local))
  ported q own =
      let at = own-row q own in
      subst (λ (q : LocalRow). is_inport q.kind ≡ true → (0 < port_of q.kind) × (port_of q.kind ≤ length (inports local))) at.3
      (λ is.
      let p = has-port d.rows is_inport s (table.inports s) at.0 (record { in_table = at.1; is_own = at.2; passing = is }) in
      let long = ap length (by_port_mapped d r.times.delays s headers is_inport) in
      let size = length-map (inports_of d.rows s) row in
      let high = p.1 in
      (p.0, omega (arith, long, size, high)))

  op-is : (b : ℕ) → b < length d.rows →
      op_at d b ≡ op_of (row_at d.rows b).kind (map (type_at r.types) (row_at d.rows b).inputs) (type_at r.types b)
      (slice_index_or r.times.delays b false)
  op-is b below =
      ap (λ (ops : List Op). slice_index_or ops b Nothing) resolved.resolved.are_ops
      ∙ by_row-at d.rows (op_in d.rows r.types r.times.delays) b Nothing below

  starts : (q : LocalRow) → Contains local.rows q → unsigned_abs (row_start local q) < 2 ^ 63
  starts q own =
      let at = own-row q own in
      subst (λ (q : LocalRow). unsigned_abs (row_start local q) < 2 ^ 63) at.3 (by at.0 at.1)
    where
      by : (b : ℕ) → b < length d.rows → unsigned_abs (row_start local (row b)) < 2 ^ 63
      by b below =
          subst (λ op. unsigned_abs (start_by op (row_at d.rows b).kind local.control (type_at d.types b)) < 2 ^ 63)
          (sym (op-is b below))
          (start-small (row_at d.rows b).kind (map (type_at r.types) (row_at d.rows b).inputs) (type_at r.types b)
          (slice_index_or r.times.delays b false) local.control)

  few : length (inports local) ≤ 32
  few =
      let long = ap length (by_port_mapped d r.times.delays s headers is_inport) in
      let size = length-map (inports_of d.rows s) row in
      let ports = length-by_port d.rows is_inport s (table.inports s) in
      let kept = length-filter (λ b. is_inport (row_at d.rows b).kind) (rows_of d.rows s) in
      let most = (table.inports s).at_most in
      omega (arith, long, size, ports, kept, most)

  delays : (q : LocalRow) → Contains local.rows q → is_delay q.op ≡ true →
      (is_inport q.kind ≡ false) × (is_reset_outport q.kind ≡ false) × (0 < length q.inputs)
  delays q own =
      let at = own-row q own in
      subst (λ (q : LocalRow). is_delay q.op ≡ true →
      (is_inport q.kind ≡ false) × (is_reset_outport q.kind ≡ false) × (0 < length q.inputs)) at.3
      (λ delay. by at.0 at.1 delay)
    where
      by : (b : ℕ) → b < length d.rows → is_delay (op_at d b) ≡ true →
          (is_inport (row b).kind ≡ false) × (is_reset_outport (row b).kind ≡ false) × (0 < length (row b).inputs)
      by b below delay =
          let ts = map (type_at r.types) (row_at d.rows b).inputs in
          let late = slice_index_or r.times.delays b false in
          let w = delay-wire (row_at d.rows b).kind ts (type_at r.types b) late (row_at d.rows b).owner
          (ap is_delay (sym (op-is b below)) ∙ delay) in
          let count = table.wired.counts b below in
          let one = w.2 in
          let all = ap (λ t. length (if t then [] else (row_at d.rows b).inputs)) w.0 in
          (w.0, w.1, omega (arith, count, one, all))

  controls : length (control_ports local.control) ≤ length local.controls
  controls = let size = length-map (control_wires_of d.rows s) (type_at d.types) in let most = by s in omega (arith, size, most)
    where
      by : (o : Option ℕ) → length (control_ports (system_control d.rows o)) ≤ length (control_wires_of d.rows o)
      by None = omega arith
      by (Some e) = inside (nat_lt e (length d.rows)) refl
        where
          inside : (t : Bool) → nat_lt e (length d.rows) ≡ t →
              length (control_ports (control_of (row_at d.rows e).kind)) ≤ length (row_at d.rows e).inputs
          inside true is =
              let below : e < length d.rows = grind (arith, nat_tests) in
              let count = table.wired.counts e below in
              let most = control-wires (row_at d.rows e).kind (row_at d.rows e).owner in
              omega (arith, count, most)
          inside false is =
              let past : length d.rows ≤ e = grind (arith, nat_tests) in
              let none : row_at d.rows e ≡ no_row = get_or-eq_default d.rows no_row past in
              subst (λ (w : TableRow). length (control_ports (control_of w.kind)) ≤ length w.inputs) (sym none) (omega arith)

pub settled : LocalsAreSound → (local : LocalSystem) (profile : SystemProfile) (schedule : SystemSchedule) →
    IsEmitted local profile schedule → IsSettled local
settled sound local profile schedule is =
    let r = is.resolved in
    let of = is.is_local in
    let same = of.is_local in
    let s = local.row in
    let resolved = is.is_resolved in
    record {
      sound = sound r s local resolved of;
      starts = subst (λ (l : LocalSystem). (q : LocalRow) → Contains l.rows q → unsigned_abs (row_start l q) < 2 ^ 63) (sym same)
          (starts r resolved s of.headers of.are_headers);
      few = subst (λ (l : LocalSystem). length (inports l) ≤ 32) (sym same) (few r resolved s of.headers of.are_headers);
      no_wires = subst (λ (l : LocalSystem). (q : LocalRow) → Contains l.rows q → is_inport q.kind ≡ true → q.inputs ≡ [])
          (sym same)
          (no_wires r resolved s of.headers of.are_headers);
      ported = subst (λ (l : LocalSystem). (q : LocalRow) → Contains l.rows q → is_inport q.kind ≡ true →
          (0 < port_of q.kind) × (port_of q.kind ≤ length (inports l)))
          (sym same) (ported r resolved s of.headers of.are_headers);
      wired = subst (λ (l : LocalSystem). (q : LocalRow) (c : ℕ) → Contains l.rows q → Contains q.inputs c → IsSourced l c)
          (sym same)
          (wired r resolved s of.headers of.are_headers);
      entered = subst (λ (l : LocalSystem). (u : ChildUse) (c : ℕ) → Contains l.children u → Contains (entering u) c →
          IsSourced l c) (sym same)
          (entered r resolved s of.headers of.are_headers);
      delays = subst (λ (l : LocalSystem). (q : LocalRow) → Contains l.rows q → is_delay q.op ≡ true →
          (is_inport q.kind ≡ false) × (is_reset_outport q.kind ≡ false) × (0 < length q.inputs)) (sym same)
          (delays r resolved s of.headers of.are_headers);
      controls = subst (λ (l : LocalSystem). length (control_ports l.control) ≤ length l.controls) (sym same)
          (controls r resolved s of.headers of.are_headers);
    }
