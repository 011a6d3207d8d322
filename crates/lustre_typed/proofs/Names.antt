-- The names of the node of a system have the types that they are declared with.
use Rattle.std.proofs.Common.{◌≡◌, subst, ℕ, ◌-◌, ◌<◌, ◌≤◌, true, not, List, [], ◌∷◌, ◌++◌, map, Option, Some, arith, inl, inr}
use Rattle.std.specs.Prelude.{Contains}
use Rattle.std.specs.List.{range_with_len}
use Rattle.std.proofs.lemmas.List.{length-map}
use Rattle.std.proofs.lemmas.List.Elements.{Contains-append_left}
use Rattle.diagram_blocks.specs.Kinds.{is_subsystem, is_outport, is_delay, port_of}
use Rattle.diagram_blocks.specs.Meaning.{has_value, delay_length}
use Rattle.diagram_meaning.specs.Rows.{row_at, outports_of, system_control}
use Rattle.diagram_meaning.specs.Inputs.{input_ports}
use Rattle.diagram_meaning.specs.WellFormed.{HasPorts, IsWireIn, IsNested, IsOwner}
use Rattle.diagram_meaning.specs.Diagram.{Diagram, op_at}
use Rattle.diagram_meaning.specs.SystemRuns.{IsRowOf}
use Rattle.diagram_meaning.proofs.lemmas.Tests.{and-left}
use Rattle.modules_profile.proofs.lemmas.Members.{in-first, in-rest, in-map, in-at, in-range, at-map}
use Rattle.modules_profile.proofs.lemmas.PortRows.{port-place}
use Rattle.c_syntax.specs.declared.Leaf.TheVariants.{Param}
use Rattle.emit_shape.specs.Names.{value_name, now_name, trigger_name, port_name}
use Rattle.lustre_syntax.specs.Tree.{ValueType, int, bool, Declared, types_of}
use Rattle.lustre_syntax.specs.Named.{NamedExpr, all_names}
use Rattle.lustre_syntax.specs.Lawful.{AreDistinct}
use Rattle.lustre_system.specs.FromC.{call_count}
use Rattle.lustre_system.specs.Functions.{int_name}
use Rattle.lustre_system.specs.Names.{around_active, around_off, active_name, reset_name, takes_name, sample_name, part_name, port_names, leaf_name, port_count}
use Rattle.lustre_system.specs.RowEquations.{bool_name, row_code, samples}
use Rattle.lustre_system.specs.SystemNodes.{has_trigger, system_node}
use Rattle.lustre_rows.proofs.lemmas.Lists.{in-only}
use Rattle.lustre_rows.proofs.lemmas.NamePlaces.{at-name}
use Rattle.lustre_rows.proofs.lemmas.SystemMembers.{trigger, rows, parts, value, of-inputs, of-others, of-later, of-memories, of-own, of-child, of-value}
use Rattle.lustre_right.specs.Systems.{system_texts, place_in}
use Rattle.lustre_typed.proofs.Lists.{first-item}
use Rattle.lustre_typed.proofs.Typed.{Has, IsTyped}

module _ (d : Diagram) (s : Option ℕ) where
  abbrev pub types : List ValueType
  types = types_of (all_names (system_node d s))

  -- the type of a name in the node of the system
  abbrev pub Holds : List ℕ → ValueType → Type 0
  Holds text t = Has types (place_in d s) text t

  -- the type of an expression there
  abbrev pub Fits : NamedExpr → ValueType → ℕ → Type 0
  Fits e t deep = IsTyped types (place_in d s) e t deep

module _ (d : Diagram) (s : Option ℕ) (distinct : AreDistinct (system_texts d s)) where
  abbrev Held : List ℕ → ValueType → Type 0
  Held text t = Holds d s text t

  declared : (x : Declared) → Contains (all_names (system_node d s)) x → Held x.text x.type
  declared x here =
      let names = all_names (system_node d s) in
      at-map (λ (n : Declared). n.type) names (place_in d s x.text) x (at-name (λ (n : Declared). n.text) names x distinct here)

  -- ---- Inputs and activity

  abbrev ports : List Declared
  ports = map int_name (port_names d.rows s)

  pub now-holds : Held now_name int
  now-holds =
      declared (int_name now_name) (of-inputs d s (int_name now_name)
      (in-first (int_name now_name) (bool_name around_active ∷ bool_name around_off ∷ ports)))

  pub on-holds : Held around_active bool
  on-holds =
      declared (bool_name around_active) (of-inputs d s (bool_name around_active)
      (in-rest (int_name now_name) (bool_name around_active) (bool_name around_active ∷ bool_name around_off ∷ ports)
      (in-first (bool_name around_active) (bool_name around_off ∷ ports))))

  pub off-holds : Held around_off bool
  off-holds =
      declared (bool_name around_off) (of-inputs d s (bool_name around_off)
      (in-rest (int_name now_name) (bool_name around_off) (bool_name around_active ∷ bool_name around_off ∷ ports)
      (in-rest (bool_name around_active) (bool_name around_off) (bool_name around_off ∷ ports) (in-first (bool_name around_off) ports))))

  pub port-holds : (text : List ℕ) → Contains (port_names d.rows s) text → Held text int
  port-holds text here =
      declared (int_name text) (of-inputs d s (int_name text)
      (in-rest (int_name now_name) (int_name text) (bool_name around_active ∷ bool_name around_off ∷ ports)
      (in-rest (bool_name around_active) (int_name text) (bool_name around_off ∷ ports)
      (in-rest (bool_name around_off) (int_name text) ports (in-map int_name (port_names d.rows s) text here)))))

  pub active-holds : Held active_name bool
  active-holds =
      declared (bool_name active_name) (of-others d s (bool_name active_name)
      (in-first (bool_name active_name) (bool_name reset_name ∷ trigger d s ++ rows d s)))

  pub reset-holds : Held reset_name bool
  reset-holds =
      declared (bool_name reset_name) (of-others d s (bool_name reset_name)
      (in-rest (bool_name active_name) (bool_name reset_name) (bool_name reset_name ∷ trigger d s ++ rows d s)
      (in-first (bool_name reset_name) (trigger d s ++ rows d s))))

  pub trigger-holds : has_trigger d s ≡ true → Held trigger_name int
  trigger-holds is =
      declared (int_name trigger_name) (of-later d s (int_name trigger_name)
      (Contains-append_left (trigger d s) (rows d s) (int_name trigger_name)
      (in-only (has_trigger d s) (int_name trigger_name ∷ []) (int_name trigger_name) is (in-first (int_name trigger_name) []))))

  -- a parameter that is an input
  pub param-holds : (k : ℕ) → k < port_count d.rows s → Held (leaf_name d.rows s (Param k)) int
  param-holds k below =
      port-holds (leaf_name d.rows s (Param k)) (first-item (port_names d.rows s) (trigger_name ∷ now_name ∷ []) k []
      (let many = length-map (input_ports d.rows s) (port_name (system_control d.rows s)) in omega (arith, below, many)))

  -- ---- Rows

  module _ (b : ℕ) (row : IsRowOf d.rows s b) where
    pub takes-holds : is_delay (op_at d b) ≡ true → Held (takes_name b) bool
    takes-holds is =
        declared (bool_name (takes_name b)) (of-memories d s b row (bool_name (takes_name b)) is
        (in-first (bool_name (takes_name b)) (map int_name (samples d s b))))

    pub sample-holds : is_delay (op_at d b) ≡ true → (text : List ℕ) → Contains (samples d s b) text → Held text int
    sample-holds is text here =
        declared (int_name text) (of-memories d s b row (int_name text) is
        (in-rest (bool_name (takes_name b)) (int_name text) (map int_name (samples d s b)) (in-map int_name (samples d s b) text here)))

    pub oldest-holds : is_delay (op_at d b) ≡ true → 0 < delay_length (op_at d b) → Held (sample_name b 0) int
    oldest-holds is some =
        sample-holds is (sample_name b 0) (in-map (sample_name b) (range_with_len 0 (delay_length (op_at d b))) 0
        (in-range 0 (delay_length (op_at d b)) 0 (omega arith) (omega (arith, some))))

    pub part-holds : has_value (row_at d.rows b).kind ≡ true → (k : ℕ) → 0 < k → k ≤ call_count (row_code d s b) →
        Held (part_name b k) int
    part-holds is k low high =
        let n = call_count (row_code d s b) in
        declared (int_name (part_name b k)) (of-own d s b row (int_name (part_name b k)) is
        (Contains-append_left (parts d s b row) (value d s b row) (int_name (part_name b k))
        (in-map (λ n. int_name (part_name b n)) (range_with_len 1 n) k (in-range 1 n k (omega (arith, low)) (omega (arith, high))))))

    pub value-holds : HasPorts d.rows is_outport s → has_value (row_at d.rows b).kind ≡ true → Held (value_name b) int
    value-holds has is = declared (int_name (value_name b)) (of-value d s b row has is)

    -- the Outports of a child
    pub outport-holds : is_subsystem (row_at d.rows b).kind ≡ true → (o : ℕ) → Contains (outports_of d.rows (Some b)) o →
        Held (value_name o) int
    outport-holds is o here =
        declared (int_name (value_name o)) (of-child d s b row (int_name (value_name o)) is
        (in-map (λ o. int_name (value_name o)) (outports_of d.rows (Some b)) o here))

  -- a wire
  pub wire-holds : IsNested d.rows → ((o : Option ℕ) → HasPorts d.rows is_outport o) → (c : ℕ) → IsWireIn d.rows s c →
      Held (value_name c) int
  wire-holds nested has c (below, inl own) =
      value-holds c (record { in_table = below; own = own.0 }) (has s)
      (and-left (has_value (row_at d.rows c).kind) (not (is_outport (row_at d.rows c).kind)) own.1)
  wire-holds nested has c (below, inr (outport, (e, inside, parent))) =
      let owner = subst (λ (o : Option ℕ). IsOwner d.rows c o) inside (nested.owned c below) in
      outport-holds e (record { in_table = (let first = owner.0 in omega (arith, below, first)); own = parent }) owner.1 c
      (in-at (outports_of d.rows (Some e)) (port_of (row_at d.rows c).kind - 1) c
      (port-place d.rows (Some e) is_outport (has (Some e)) c below inside outport))
