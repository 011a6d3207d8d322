-- Each procedure of a system has the parameters that its pieces read, and so each piece is right where it is.
use Rattle.std.specs.Prelude.{◌≡◌, ◌⊎◌, ℕ, ◌+◌, ◌-◌, ◌<◌, ◌≤◌, Bool, true, false, MatchBool, ◌||◌, ◌==◌, if◌then◌else◌, List, [], ◌∷◌, ◌++◌, map, flat_map, filter, filter_map, length, slice_get, Contains, Option, Some, None, refl}
use Rattle.std.specs.List.{cons_option, list_any, range_with_len, enumerate_from}
use Rattle.std.specs.Option.{option_map_or, option_and_then}
use Rattle.std.proofs.Common.{sym, ap, subst, ◌∙◌, arith, inl, inr, true≢false}
use Rattle.std.proofs.lemmas.Bool.{eq-eqb}
use Rattle.std.proofs.lemmas.List.{length-append, length-map}
use Rattle.std.proofs.lemmas.List.FromFn.{length-range_with_len}
use Rattle.std.proofs.lemmas.List.Elements.{Contains-append_cases}
use Rattle.std.proofs.lemmas.Option.{same_Some, none-some}
use Rattle.base_core.specs.declared.base.Control.{Control}
use Rattle.base_core.specs.declared.base.Control.TheVariants.{Plain, Enabled, Triggered, Both}
use Rattle.base_core.specs.declared.base.Port.{Port}
use Rattle.base_core.specs.declared.base.Port.TheVariants.{Number, Enable, Trigger}
use Rattle.base_fixed_point.specs.declared.types.FixType.{FixType}
use Rattle.diagram_blocks.specs.Meaning.{has_value}
use Rattle.base_core.specs.Ports.{control_ports}
use Rattle.diagram_meaning.specs.Rows.{is_enabled, is_triggered}
use Rattle.diagram_blocks.specs.Kinds.{is_inport, port_of, is_delay}
use Rattle.modules_profile.specs.declared.local.ChildUse.{ChildUse}
use Rattle.modules_profile.specs.declared.local.LocalRow.{LocalRow}
use Rattle.modules_profile.specs.LocalSystem.{LocalSystem}
use Rattle.modules_profile.specs.SystemHeader.{SystemHeader}
use Rattle.modules_profile.specs.SystemProfile.{SystemProfile}
use Rattle.modules_profile.specs.LawfulLocals.{IsLocal}
use Rattle.modules_profile.specs.Headers.{header_functions, ports_of_header}
use Rattle.modules_profile.specs.Locals.{inports, own_header}
use Rattle.modules_profile.proofs.lemmas.Members.{in-none, in-first, in-rest, in-cases, in-map, of-map, in-filter, in-at, at-in, at-map, at-below, below-at, at-range, of-range, in-zip}
use Rattle.modules_profile.proofs.lemmas.OwnRows.{of-flat_map}
use Rattle.modules_schedule.specs.SystemSchedule.{SystemSchedule}
use Rattle.c_syntax.specs.Tree.{StmtTrees, no_stmts, stmts_append, ParamTree}
use Rattle.emit_shape.specs.Delays.{is_line}
use Rattle.emit_shape.specs.Heads.{now_param, input_params, update_head}
use Rattle.emit_shape.specs.Names.{container, input_name, port_name}
use Rattle.emit_shape.specs.Slots.{instance}
use Rattle.right_relation.specs.NodeCode.{IsValueCode, IsMemoryCode, IsRingCode, IsCallCode}
use Rattle.right_relation.specs.SoundLocals.{LocalsAreSound}
use Rattle.emit_system_spec.specs.declared.node.Place.{Place}
use Rattle.emit_system_spec.specs.declared.node.Place.TheVariants.{Row, Call}
use Rattle.emit_system_spec.specs.Emitted.{IsEmitted}
use Rattle.emit_system_spec.specs.EmittedCode.{group_params}
use Rattle.emit_system_spec.specs.Fields.{code_slots}
use Rattle.emit_system_spec.specs.Groups.{group_nodes, own_count}
use Rattle.emit_system_spec.specs.Heads.{port_types, port_param, params_where, inport_of, inport_at, inports_among, takes}
use Rattle.emit_system_spec.specs.NodeCode.{output_reset, value_store, value_code, memory_code, call_code, node_code}
use Rattle.emit_system_spec.specs.Places.{call_places, node_places}
use Rattle.right_system_nodes.specs.Pieces.{IsNodeCode, AreNodeCodes, AreUpdateCodes, EmittedPiecesAreRight}
use Rattle.right_system_nodes.specs.PieceLaws.{HasParam, HasParams, ValuesAreGiven, MemoriesAreGiven, RingsAreGiven, TriggersAreRemembered, CallsAreActs, UpdatesAreActs, ResetsAreActs}
use Rattle.right_system_nodes.proofs.Facts.{IsSettled}
use Rattle.right_system_nodes.proofs.lemmas.SlotLists.{left-at, right-at, at-enumerate}
use Rattle.right_system_nodes.proofs.Params.{trigger_place}
use Rattle.right_system_nodes.proofs.Settled.{settled}
use Rattle.right_system_nodes.proofs.lemmas.SlotPlaces.{stands}
use Rattle.right_system_nodes.proofs.Ticks.{one-kind}

-- ---- Lists

in-filter_map : {A B : Type 0} (f : A → Option B) (xs : List A) (x : A) (y : B) → Contains xs x → f x ≡ Some y →
    Contains (filter_map f xs) y
in-filter_map f [] x y h is = absurd (in-none x h)
in-filter_map {A} {B} f (z ∷ xs) x y h is = by (f z) refl (in-cases z x xs h) (λ more. in-filter_map f xs x y more is)
  where
    by : (o : Option B) → f z ≡ o → (z ≡ x) ⊎ Contains xs x → (Contains xs x → Contains (filter_map f xs) y) →
        Contains (cons_option o (filter_map f xs)) y
    by None e (inl same) later = absurd (none-some y (sym e ∙ ap f same ∙ is))
    by None e (inr more) later = later more
    by (Some w) e (inl same) later =
        subst (Contains (w ∷ filter_map f xs)) (same_Some w y (sym e ∙ ap f same ∙ is)) (in-first w (filter_map f xs))
    by (Some w) e (inr more) later = in-rest w y (filter_map f xs) (later more)

any-of : (xs : List ℕ) (k : ℕ) → Contains xs k → list_any (λ p. p == k) xs ≡ true
any-of [] k h = absurd (in-none k h)
any-of (x ∷ xs) k h = by (in-cases x k xs h) (λ more. any-of xs k more)
  where
    or-right : (a b : Bool) → b ≡ true → (a || b) ≡ true
    or-right true b is = refl
    or-right false b is = is

    by : (x ≡ k) ⊎ Contains xs k → (Contains xs k → list_any (λ p. p == k) xs ≡ true) →
        ((x == k) || list_any (λ p. p == k) xs) ≡ true
    by (inl same) later = ap (λ t. t || list_any (λ p. p == k) xs) (eq-eqb x k same)
    by (inr more) later = or-right (x == k) (list_any (λ p. p == k) xs) (later more)

-- ---- Ports and their parameters

enable-there : (control : Control) → is_enabled control ≡ true → slice_get (control_ports control) 0 ≡ Some Enable
enable-there Plain is = absurd (true≢false (sym is))
enable-there (Enabled reset) is = refl
enable-there (Triggered edge) is = absurd (true≢false (sym is))
enable-there (Both reset edge) is = refl

trigger-there : (control : Control) → is_triggered control ≡ true →
    slice_get (control_ports control) (trigger_place control) ≡ Some Trigger
trigger-there Plain is = absurd (true≢false (sym is))
trigger-there (Enabled reset) is = absurd (true≢false (sym is))
trigger-there (Triggered edge) is = refl
trigger-there (Both reset edge) is = refl

module _ (local : LocalSystem) (profile : SystemProfile) (schedule : SystemSchedule) (ready : IsSettled local) where
  abbrev header : SystemHeader
  header = own_header local profile

  abbrev inputs : ℕ
  inputs = length header.inputs

  -- a port of the system has a type
  abbrev HasPort : Port → Type 0
  HasPort p = (t : FixType) × Contains (port_types header) (p, t)

  typed-port : (k : ℕ) (p : Port) → slice_get (ports_of_header header) k ≡ Some p →
      k < inputs + length (control_ports local.control) → HasPort p
  typed-port k p at below =
      let most = ready.controls in
      let long = length-append header.inputs header.controls in
      let t = below-at (header.inputs ++ header.controls) k
      (let less : k < length (header.inputs ++ header.controls) = omega (arith, below, most, long) in less) in
      (t.0, in-zip (ports_of_header header) (header.inputs ++ header.controls) k p t.0 at t.1)

  numbers-long : length (map Number (range_with_len 1 inputs)) ≡ inputs
  numbers-long = length-map (range_with_len 1 inputs) Number ∙ length-range_with_len 1 inputs

  control-port : (i : ℕ) (p : Port) → slice_get (control_ports local.control) i ≡ Some p → HasPort p
  control-port i p at =
      let long = numbers-long in
      let inside = at-below (control_ports local.control) i p at in
      typed-port (length (map Number (range_with_len 1 inputs)) + i) p
      (right-at (map Number (range_with_len 1 inputs)) (control_ports local.control) i p at)
      (omega (arith, long, inside))

  enable-port : is_enabled local.control ≡ true → HasPort Enable
  enable-port is = control-port 0 Enable (enable-there local.control is)

  trigger-port : is_triggered local.control ≡ true → HasPort Trigger
  trigger-port is = control-port (trigger_place local.control) Trigger (trigger-there local.control is)

  input-port : (r : LocalRow) → Contains local.rows r → is_inport r.kind ≡ true → HasPort (Number (port_of r.kind))
  input-port r own is =
      let port = ready.ported r own is in
      let low = port.0 in let high = port.1 in
      let size = length-map (inports local) (λ (q : LocalRow). q.out) in
      let k = port_of r.kind - 1 in
      let number : 1 + k ≡ port_of r.kind = omega (arith, low) in
      let below : k < inputs = omega (arith, low, high, size) in
      typed-port k (Number (port_of r.kind))
      (left-at (map Number (range_with_len 1 inputs)) (control_ports local.control) k (Number (port_of r.kind))
      (at-map Number (range_with_len 1 inputs) k (1 + k) (at-range 1 inputs k below) ∙ ap (λ n. Some (Number n)) number))
      (omega (arith, below))

  -- ---- The parameters of an update

  abbrev update_params : List ParamTree
  update_params = (update_head header).params

  update-has : (p : Port) → HasPort p → HasParam update_params (port_name local.control p)
  update-has p (t, has) =
      let make : Port × FixType → ParamTree = λ (e : Port × FixType). record
      { name = port_name header.control e.0; type = container e.1 } in
      (make (p, t), in-rest now_param (make (p, t)) (input_params header) (in-map make (port_types header) (p, t) has), refl)

  update-params : HasParams local update_params
  update-params = record {
    now = (now_param, in-first now_param (input_params header), refl);
    enable = λ is. update-has Enable (enable-port is);
    trigger = λ is. update-has Trigger (trigger-port is);
  }

  -- ---- The parameters of a group

  module _ (g : ℕ) where
    abbrev nodes : List ℕ
    nodes = group_nodes schedule g

    abbrev params : List ParamTree
    params = group_params local profile schedule g

    group-has : (p : Port) → takes (inports_among local nodes) p ≡ true → HasPort p → HasParam params (port_name local.control p)
    group-has p taken (t, has) =
        let test : Port × FixType → Bool = λ (e : Port × FixType). takes (inports_among local nodes) e.0 in (
          port_param local.control (p, t),
          in-rest now_param (port_param local.control (p, t))
              (params_where local.control (takes (inports_among local nodes)) (port_types header))
              (in-map (port_param local.control) (filter test (port_types header)) (p, t)
              (in-filter test (port_types header) (p, t) has taken)),
          refl,
        )

    group-params : HasParams local params
    group-params = record {
      now = (
        now_param,
        in-first now_param (params_where local.control (takes (inports_among local nodes))
            (port_types header)),
        refl,
      );
      enable = λ is. group-has Enable refl (enable-port is);
      trigger = λ is. group-has Trigger refl (trigger-port is);
    }

    -- that of an Inport among its nodes
    group-input : (n p : ℕ) (r : LocalRow) → Contains nodes n → slice_get (node_places local) n ≡ Some (Row p) →
        slice_get local.rows p ≡ Some r → is_inport r.kind ≡ true →
        HasParam params (input_name (port_of r.kind))
    group-input n p r among place row is =
        let found : option_and_then (inport_at local) (slice_get (node_places local) n) ≡ Some (port_of r.kind) =
        ap (option_and_then (inport_at local)) place ∙ ap (option_and_then inport_of) row
        ∙ ap (λ t. if t then Some (port_of r.kind) else None) is in
        group-has (Number (port_of r.kind))
        (any-of (inports_among local nodes) (port_of r.kind)
        (in-filter_map (λ n. option_and_then (inport_at local) (slice_get (node_places local) n)) nodes n
        (port_of r.kind) among found))
        (input-port r (in-at local.rows p r row) is)

-- ---- The pieces

-- the call of a child's function that is a node
module _ (local : LocalSystem) where
  abbrev OnCall : Place → Type 0
  OnCall (Row p) = Unit {0}
  OnCall (Call k j) = (u : ChildUse) × (slice_get local.children k ≡ Some u) × (0 < j) × (j ≤ length (header_functions u.header))

  on-call : (x : Place) → Contains (node_places local) x → OnCall x
  on-call x h = elim (Contains-append_cases (map Row (range_with_len 0 (length local.rows)))
      (flat_map call_places (enumerate_from 0 local.children)) x h) [
        | inl row ↦ let m = of-map Row (range_with_len 0 (length local.rows)) x row in subst OnCall m.2 tt
        | inr call ↦
            let m = of-flat_map call_places (enumerate_from 0 local.children) x call in
            let at = at-in (enumerate_from 0 local.children) m.0 m.1 in
            let e = at-enumerate 0 local.children at.0 m.0 at.1 in
            let child : slice_get local.children m.0.0 ≡ Some m.0.1 =
            subst (λ k. slice_get local.children k ≡ Some m.0.1) ((let same : at.0 ≡ 0 + at.0 = omega arith in same) ∙ e.0) e.1 in
            by m.0 child m.0.1.header.row m.2
      ]
    where
      by : (e : ℕ × ChildUse) → slice_get local.children e.0 ≡ Some e.1 → (o : Option ℕ) →
          Contains (option_map_or (λ (row : ℕ). map (Call e.0) (range_with_len 1 (length (header_functions e.1.header)))) o []) x →
          OnCall x
      by e child None h = absurd (in-none x h)
      by e child (Some row) h =
          let m = of-map (Call e.0) (range_with_len 1 (length (header_functions e.1.header))) x h in
          let r = of-range 1 (length (header_functions e.1.header)) m.0 m.1 in
          let low = r.0 in let high = r.1 in
          subst OnCall m.2 (e.1, child, omega (arith, low), omega (arith, high))

-- the laws of pieces
pub record PieceLaws : Type 0 where
  pub values : ValuesAreGiven
  pub memories : MemoriesAreGiven
  pub rings : RingsAreGiven
  pub triggers : TriggersAreRemembered
  pub calls : CallsAreActs
  pub updates : UpdatesAreActs
  pub resets : ResetsAreActs

module _ (laws : PieceLaws) (local : LocalSystem) (profile : SystemProfile) (schedule : SystemSchedule)
    (emitted : IsEmitted local profile schedule) (lawful : IsLocal local) (params : List ParamTree)
    (has : HasParams local params) where
  node-code : (x : Place) → OnCall local x → ((p : ℕ) (r : LocalRow) → x ≡ Row p → slice_get local.rows p ≡ Some r →
      is_inport r.kind ≡ true → HasParam params (input_name (port_of r.kind))) →
      IsNodeCode local schedule params x (node_code local (own_count schedule) params x)
  node-code (Row p) on input = λ r at.
      subst (λ (code : StmtTrees). MatchBool (has_value r.kind)
      (IsValueCode local (code_slots local schedule) (own_count schedule) params r code) (code ≡ no_stmts))
      (ap (λ o. option_map_or (value_code local params) o no_stmts) (sym at)) (by r at (has_value r.kind) refl)
    where
      by : (r : LocalRow) → slice_get local.rows p ≡ Some r → (t : Bool) → has_value r.kind ≡ t →
          MatchBool t (IsValueCode local (code_slots local schedule) (own_count schedule) params r (value_code local params r))
          (value_code local params r ≡ no_stmts)
      by r at true is = laws.values local profile schedule params emitted has r (in-at local.rows p r at) is
          (λ inport. input p r refl at inport)
      by r at false is = ap (λ t. if t then stmts_append (output_reset local params r) (value_store local params r)
          else no_stmts) is
  node-code (Call k j) on input = λ f u slot.
      let s = stands local schedule lawful f (instance k u) slot in
      let same : on.0 ≡ u = same_Some on.0 u (sym on.1 ∙ s.0) in
      subst (IsCallCode local (code_slots local schedule) (own_count schedule) params f k u j)
      (ap (λ o. option_map_or (λ (w : ChildUse). call_code local (own_count schedule) params k w j) o no_stmts) (sym s.0))
      (laws.calls local profile schedule params emitted has f k j u slot on.2
      (subst (λ (w : ChildUse). j ≤ length (header_functions w.header)) same on.3))

  node-codes : (nodes : List ℕ) →
      ((n p : ℕ) (r : LocalRow) → Contains nodes n → slice_get (node_places local) n ≡ Some (Row p) →
      slice_get local.rows p ≡ Some r → is_inport r.kind ≡ true → HasParam params (input_name (port_of r.kind))) →
      AreNodeCodes local schedule params nodes
  node-codes nodes input n x among place =
      subst (IsNodeCode local schedule params x) (ap (λ o. option_map_or (node_code local (own_count schedule) params) o no_stmts)
      (sym place))
      (node-code x (on-call local x (in-at (node_places local) n x place)) (λ p r same. input n p r among (place ∙ ap Some same)))

  update-codes : AreUpdateCodes local schedule params
  update-codes = record {
    memories = λ r own delay. by r own delay (is_line r.op) refl;
    trigger = laws.triggers local profile schedule params emitted has;
    updates = laws.updates local profile schedule params emitted has;
    resets = laws.resets local profile schedule params emitted has;
  }
    where
      by : (r : LocalRow) → Contains local.rows r → is_delay r.op ≡ true → (t : Bool) → is_line r.op ≡ t →
          MatchBool t (IsRingCode local (code_slots local schedule) (own_count schedule) params r (memory_code local params r))
          (IsMemoryCode local (code_slots local schedule) (own_count schedule) params r (memory_code local params r))
      by r own delay true line = laws.rings local profile schedule params emitted has r own line
      by r own delay false line = laws.memories local profile schedule params emitted has r own (one-kind r.op delay line)

pub pieces_are_right : LocalsAreSound → PieceLaws → EmittedPiecesAreRight
pieces_are_right sound laws local profile schedule emitted =
    let ready = settled sound local profile schedule emitted in
    let lawful = ready.sound.lawful in
    let update = update-params local profile schedule ready in
    let head = (update_head (own_header local profile)).params in
    record {
      groups = λ g code_group. node-codes laws local profile schedule emitted lawful (group_params local profile schedule g)
          (group-params local profile schedule ready g)
          (group_nodes schedule g) (group-input local profile schedule ready g);
      nodes = node-codes laws local profile schedule emitted lawful head update schedule.update
          (λ n p r among place row is. update-has local profile schedule ready (Number (port_of r.kind))
          (input-port local profile schedule ready r (in-at local.rows p r row) is));
      update = update-codes laws local profile schedule emitted lawful head update;
    }
