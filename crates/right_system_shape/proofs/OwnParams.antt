-- The parameters of groups and of the update: the tick, the inputs, and the controls.
use Rattle.std.specs.Prelude.{◌≡◌, refl, ℕ, ◌<◌, ◌≤◌, Bool, true, if◌then◌else◌, List, [], ◌∷◌, ◌++◌, map, filter, length, slice_get, Contains, Some, None, option_and_then}
use Rattle.std.specs.List.{AllByRecursion, range_with_len}
use Rattle.std.proofs.Common.{ap, subst, ◌∙◌, arith, inl, inr, length-append}
use Rattle.std.proofs.lemmas.List.{length-map}
use Rattle.base_core.specs.declared.base.Control.{Control}
use Rattle.base_core.specs.declared.base.Control.TheVariants.{Plain, Enabled, Triggered, Both}
use Rattle.base_core.specs.declared.base.Port.{Port}
use Rattle.base_core.specs.declared.base.Port.TheVariants.{Number, Enable, Trigger}
use Rattle.base_fixed_point.specs.declared.types.FixType.{FixType}
use Rattle.base_core.specs.Ports.{control_ports}
use Rattle.diagram_blocks.specs.Kinds.{is_inport, port_of}
use Rattle.modules_profile.specs.declared.local.LocalRow.{LocalRow}
use Rattle.modules_profile.specs.LocalSystem.{LocalSystem}
use Rattle.modules_profile.specs.SystemProfile.{SystemProfile}
use Rattle.modules_profile.specs.SystemHeader.{SystemHeader}
use Rattle.modules_profile.specs.Headers.{ports_of_header}
use Rattle.modules_profile.specs.Locals.{own_header, bare_header, inports}
use Rattle.modules_profile.proofs.lemmas.Members.{in-none, in-cases, in-first, in-rest, in-map, of-map, in-filter, of-filter, in-at, in-range}
use Rattle.modules_schedule.specs.SystemSchedule.{SystemSchedule}
use Rattle.c_syntax.specs.Tree.{ParamTree}
use Rattle.emit_shape.specs.Heads.{now_param, input_params}
use Rattle.emit_shape.specs.Names.{now_name, input_name, port_name}
use Rattle.emit_shape.specs.Rules.{parameter_names}
use Rattle.emit_system_spec.specs.declared.node.Place.TheVariants.{Row}
use Rattle.emit_system_spec.specs.EmittedCode.{group_params}
use Rattle.emit_system_spec.specs.Groups.{group_nodes}
use Rattle.emit_system_spec.specs.Heads.{port_types, port_param, params_where, inport_of, inport_at, inports_among, takes}
use Rattle.emit_system_spec.specs.Places.{node_places}
use Rattle.right_system_shape.proofs.AllOf.{all-of, in-left, in-right, in-filter_map, any-in}
use Rattle.right_system_shape.proofs.Callees.{many-ports, zip-has}
use Rattle.right_system_shape.proofs.Params.{HasParam}
use Rattle.right_system_shape.proofs.Readable.{IsReadable}

abbrev param_name : ParamTree → List ℕ
param_name p = p.name

-- a port with a type has its parameter, where the test passes
pub where-param : (control : Control) (test : Port → Bool) (types : List (Port × FixType)) (p : Port) (t : FixType) →
    Contains types (p, t) → test p ≡ true →
    HasParam (params_where control test types) (port_name control p)
where-param control test types p t h passes =
    in-map param_name (params_where control test types) (port_param control (p, t))
    (in-map (port_param control) (filter (λ (e : Port × FixType). test e.0) types) (p, t)
    (in-filter (λ (e : Port × FixType). test e.0) types (p, t) h passes))

pub has-later : (q : ParamTree) (params : List ParamTree) (name : List ℕ) → HasParam params name → HasParam (q ∷ params) name
has-later q params name h = in-rest q.name name (map param_name params) h

module _ (local : LocalSystem) (profile : SystemProfile) (readable : IsReadable local) where
  abbrev header : SystemHeader
  header = own_header local profile

  many-inputs : length header.inputs ≡ length (inports local)
  many-inputs = length-map (inports local) (λ (r : LocalRow). r.out)

  -- each port has a type
  pub port-typed : (p : Port) → Contains (ports_of_header header) p → (t : FixType) × Contains (port_types header) (p, t)
  port-typed p h =
      let ports = many-ports header in
      let types = length-append header.inputs header.controls in
      let controls = readable.controls in
      zip-has (ports_of_header header) (header.inputs ++ header.controls) p (omega (arith, ports, types, controls)) h

  pub number-port : (k : ℕ) → 0 < k → k ≤ length (inports local) → Contains (ports_of_header header) (Number k)
  number-port k some most =
      let many = many-inputs in
      in-left (map Number (range_with_len 1 (length header.inputs))) (control_ports local.control) (Number k)
      (in-map Number (range_with_len 1 (length header.inputs)) k
      (in-range 1 (length header.inputs) k (omega arith) (omega (arith, many, most))))

  pub control-port : (p : Port) → Contains (control_ports local.control) p → Contains (ports_of_header header) p
  control-port p h = in-right (map Number (range_with_len 1 (length header.inputs))) (control_ports local.control) p h

  -- ---- The update

  pub update-param : (p : Port) → Contains (ports_of_header header) p → HasParam (now_param ∷ input_params header)
      (port_name local.control p)
  update-param p h =
      let typed = port-typed p h in
      has-later now_param (input_params header) (port_name local.control p)
      (in-map param_name (input_params header) (port_param local.control (p, typed.0))
      (in-map (port_param local.control) (port_types header) (p, typed.0) typed.1))

  -- ---- A group

  module _ (schedule : SystemSchedule) (g : ℕ) where
    abbrev among : List ℕ
    among = inports_among local (group_nodes schedule g)

    pub group-param : (p : Port) → Contains (ports_of_header header) p → takes among p ≡ true →
        HasParam (group_params local profile schedule g) (port_name local.control p)
    group-param p h passes =
        let typed = port-typed p h in
        has-later now_param (params_where local.control (takes among) (port_types header)) (port_name local.control p)
        (where-param local.control (takes among) (port_types header) p typed.0 typed.1 passes)

    takes-control : (control : Control) (p : Port) → Contains (control_ports control) p → takes among p ≡ true
    takes-control Plain p h = absurd (in-none p h)
    takes-control (Enabled reset) p h =
        elim (in-cases Enable p [] h) [ inl same ↦ subst (λ p. takes among p ≡ true) same refl | inr none ↦ absurd (in-none p none) ]
    takes-control (Triggered edge) p h =
        elim (in-cases Trigger p [] h) [ inl same ↦ subst (λ p. takes among p ≡ true) same refl | inr none ↦ absurd (in-none p none) ]
    takes-control (Both reset edge) p h = elim (in-cases Enable p (Trigger ∷ []) h) [
      | inl same ↦ subst (λ p. takes among p ≡ true) same refl
      | inr more ↦ elim (in-cases Trigger p [] more) [
        | inl same ↦ subst (λ p. takes among p ≡ true) same refl
        | inr none ↦ absurd
            (in-none p none)
      ]
    ]

    pub group-control : (p : Port) → Contains (control_ports local.control) p → HasParam (group_params local profile schedule g)
        (port_name local.control p)
    group-control p h = group-param p (control-port p h) (takes-control local.control p h)

    -- a group has the parameter of each Inport among its nodes
    pub group-input : (nth p : ℕ) (r : LocalRow) → Contains (group_nodes schedule g) nth → slice_get (node_places local) nth
        ≡ Some (Row p) →
        slice_get local.rows p ≡ Some r → is_inport r.kind ≡ true → HasParam (group_params local profile schedule g)
        (input_name (port_of r.kind))
    group-input nth p r h place at is =
        let k = port_of r.kind in
        let range = readable.inport_port r (in-at local.rows p r at) is in
        let found : option_and_then (inport_at local) (slice_get (node_places local) nth) ≡ Some k =
        ap (option_and_then (inport_at local)) place ∙ ap (option_and_then inport_of) at
        ∙ ap (λ (t : Bool). if t then Some k else None) is in
        let listed : Contains among k = in-filter_map (λ m. option_and_then (inport_at local) (slice_get (node_places local) m))
        (group_nodes schedule g) nth k h found in
        group-param (Number k) (number-port k range.0 range.1) (any-in among k listed)

    -- the names of its parameters are among those of the update
    pub group-names : AllByRecursion (λ (p : ParamTree). Contains (parameter_names local) p.name) (group_params local profile schedule g)
    group-names = all-of (λ (p : ParamTree). Contains (parameter_names local) p.name) (group_params local profile schedule g) each
      where
        each : (p : ParamTree) → Contains (group_params local profile schedule g) p → Contains (parameter_names local) p.name
        each p h = elim (in-cases now_param p (params_where local.control (takes among) (port_types header)) h) [
          | inl same ↦ subst (λ (p : ParamTree). Contains (parameter_names local) p.name) same
              (in-first now_name (map param_name (input_params (bare_header local))))
          | inr more ↦
              let m = of-map (port_param local.control) (filter (λ (e : Port × FixType). takes among e.0) (port_types header)) p more in
              let e = of-filter (λ (e : Port × FixType). takes among e.0) (port_types header) m.0 m.1 in
              subst (λ (p : ParamTree). Contains (parameter_names local) p.name) m.2
              (has-later now_param (input_params (bare_header local)) (port_param local.control m.0).name
              (in-map param_name (input_params (bare_header local)) (port_param local.control m.0)
              (in-map (port_param local.control) (port_types header) m.0 e.0)))
        ]
