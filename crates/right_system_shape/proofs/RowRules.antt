-- The code of a row, and that of what it remembers, touches what the rules allow.
use Rattle.std.specs.Prelude.{◌≡◌, refl, ℕ, ◌+◌, Bool, true, false, if◌then◌else◌, List, [], ◌∷◌, ◌++◌, map, flat_map, get_or, Contains, Option, ℤ, pos, neg_ℤ, int_lt, bytes_eq}
use Rattle.std.specs.List.{AllByRecursion}
use Rattle.std.proofs.Common.{sym, ap, subst, arith, inl, inr, true≢false}
use Rattle.std.proofs.lemmas.List.Elements.{Contains-append_cases}
use Rattle.base_core.specs.declared.base.Control.{Control}
use Rattle.base_core.specs.declared.base.Control.TheVariants.{Plain, Enabled, Triggered, Both}
use Rattle.base_core.specs.declared.base.Port.{Port}
use Rattle.base_core.specs.declared.base.Port.TheVariants.{Enable, Trigger}
use Rattle.base_fixed_point.specs.declared.types.FixType.{FixType}
use Rattle.diagram_blocks.specs.declared.op.Op.{Op}
use Rattle.diagram_blocks.specs.declared.op.Op.TheVariants.{Delay, Line}
use Rattle.diagram_blocks.specs.Meaning.{has_value, delay_length}
use Rattle.base_core.specs.Ports.{control_ports}
use Rattle.diagram_meaning.specs.Rows.{is_triggered}
use Rattle.diagram_blocks.specs.Kinds.{is_delay, is_reset_outport}
use Rattle.modules_profile.specs.declared.local.LocalRow.{LocalRow}
use Rattle.modules_profile.specs.LocalSystem.{LocalSystem}
use Rattle.modules_profile.specs.LawfulLocals.{IsLocal}
use Rattle.modules_profile.proofs.lemmas.Members.{in-none, in-first, in-rest, in-cases, in-map}
use Rattle.modules_schedule.specs.SystemSchedule.{SystemSchedule}
use Rattle.c_syntax.specs.declared.code.Leaf.{Leaf}
use Rattle.c_syntax.specs.declared.code.Leaf.TheVariants.{Own}
use Rattle.c_syntax.specs.Tree.{ExprTree, literal, neg, read, pick, item, CondTree, StmtTrees, no_stmts, stmts_append, ProcedureTree}
use Rattle.emit_row_code.specs.Laws.{RowsReadTheirLeaves}
use Rattle.emit_row_code.specs.Reading.{ReadsOnly}
use Rattle.emit_row_code.specs.RingCode.{place_read, is_filling_code, oldest_code, taken_in, emptied}
use Rattle.emit_row_code.specs.RowCode.{written, nought, rhs_code}
use Rattle.emit_row_code.specs.StatementCode.{only_if, store_code, value_reset_statements, memory_statements, ring_statements}
use Rattle.emit_row_code.specs.TestCode.{disabled_by, level_code}
use Rattle.emit_row_code.specs.TestLaws as laws
use Rattle.emit_row_code.specs.TestLaws.{OnTest}
use Rattle.emit_shape.specs.CodeNames.{CodeNames, named_leaf}
use Rattle.emit_shape.specs.Delays.{is_single, is_line}
use Rattle.emit_shape.specs.NamedLeaf.{NamedLeaf, param, own}
use Rattle.emit_shape.specs.Names.{value_name, memory_name, place_name, taken_name, trigger_name, is_counter_name, now_name, control_name, second_control_name, trigger_param, port_name}
use Rattle.emit_shape.specs.Reads.{expr_leaves, expr_indices}
use Rattle.emit_shape.specs.RowStarts.{row_start}
use Rattle.emit_shape.specs.Rules.{input_reads, row_reads, store_reads, index_reads, test_reads}
use Rattle.emit_shape.specs.Slots.{counters_in}
use Rattle.emit_shape.specs.SystemTree.{SystemTree}
use Rattle.emit_system_spec.specs.Fields.{value_field, memory_field, ring_field, trigger_field, code_slots}
use Rattle.emit_system_spec.specs.NodeCode as node
use Rattle.emit_system_spec.specs.NodeCode.{ring_fields, memory_read, active_test, off_test, runs_test, input_leaves, first_input, output_reset, value_store, value_code, memory_code, trigger_code}
use Rattle.emit_system_spec.specs.Places.{param_leaf, now_leaf}
use Rattle.emit_system_spec.specs.Sources.{wire_types}
use Rattle.right_system_shape.proofs.AllOf.{all-append, all-sent, in-left, in-right, in-flat_map}
use Rattle.right_system_shape.proofs.FieldNames.{names, own-value, own-memory, own-items, own-place, own-taken, own-trigger}
use Rattle.right_system_shape.proofs.Items.{ItemsOnly, expr-items, row-items}
use Rattle.right_system_shape.proofs.Params.{HasParam, param-named, bytes-same}
use Rattle.right_system_shape.proofs.Touching as touching

-- ---- What a row without memory computes reads none

pub no-memory : (op : Op) (leaves : List Leaf) (types : List FixType) (memory : ExprTree) → is_single op ≡ false → is_line op ≡ false →
    rhs_code op leaves types memory ≡ rhs_code op leaves types nought
no-memory (Delay initial) leaves types memory s l = absurd (true≢false s)
no-memory (Line samples start) leaves types memory s l = absurd (true≢false l)
no-memory _ leaves types memory s l = refl

-- what is a delay and no ring is one of a single sample
pub delay-single : (op : Op) → is_delay op ≡ true → is_line op ≡ false → is_single op ≡ true
delay-single (Delay initial) d l = refl
delay-single (Line samples start) d l = absurd (true≢false l)
delay-single _ d l = absurd (true≢false (sym d))

-- ---- What the rules allow a field of a row

chosen : {A : Type 0} (t : Bool) (xs : List A) (x : A) → t ≡ true → Contains xs x → Contains (if t then xs else []) x
chosen true xs x e h = h
chosen false xs x e h = absurd (true≢false (sym e))

module _ (local : LocalSystem) (counters : List (List ℕ)) (r : LocalRow) (is_own : Contains local.rows r) where
  reads-in : (name : List ℕ) (x : NamedLeaf) → Contains (row_reads local name r) x → Contains (store_reads local counters name) x
  reads-in name x h =
      let rows : List NamedLeaf = flat_map (row_reads local name) local.rows in
      let second : List NamedLeaf = if bytes_eq name trigger_name then param
      (trigger_param local.control) ∷ own trigger_name ∷ [] else [] in
      let third : List NamedLeaf = if is_counter_name name then map own counters else [] in
      in-left (rows ++ second) third x (in-left rows second x (in-flat_map (row_reads local name) local.rows r x is_own h))

  abbrev of_value : List ℕ → List NamedLeaf
  of_value name = if bytes_eq name (value_name r.row) then own (memory_name r.row) ∷ own (place_name r.row) ∷ own
      (taken_name r.row) ∷ input_reads local r else []

  abbrev of_memory : List ℕ → List NamedLeaf
  of_memory name = if bytes_eq name (memory_name r.row) then input_reads local r else []

  abbrev of_place : List ℕ → List NamedLeaf
  of_place name = if bytes_eq name (place_name r.row) then own name ∷ [] else []

  abbrev of_taken : List ℕ → List NamedLeaf
  of_taken name = if bytes_eq name (taken_name r.row) then own name ∷ [] else []

  pub value-reads : (x : NamedLeaf) →
      Contains (own (memory_name r.row) ∷ own (place_name r.row) ∷ own (taken_name r.row) ∷ input_reads local r) x →
      Contains (store_reads local counters (value_name r.row)) x
  value-reads x h =
      let name = value_name r.row in
      reads-in name x (in-left (of_value name ++ of_memory name ++ of_place name) (of_taken name) x
      (in-left (of_value name ++ of_memory name) (of_place name) x (in-left (of_value name) (of_memory name) x
      (chosen (bytes_eq name (value_name r.row)) (own (memory_name r.row) ∷ own (place_name r.row) ∷ own
      (taken_name r.row) ∷ input_reads local r) x (bytes-same name name refl) h))))

  pub memory-reads : (x : NamedLeaf) → Contains (input_reads local r) x → Contains (store_reads local counters (memory_name r.row)) x
  memory-reads x h =
      let name = memory_name r.row in
      reads-in name x (in-left (of_value name ++ of_memory name ++ of_place name) (of_taken name) x
      (in-left (of_value name ++ of_memory name) (of_place name) x (in-right (of_value name) (of_memory name) x
      (chosen (bytes_eq name (memory_name r.row)) (input_reads local r) x (bytes-same name name refl) h))))

  pub place-reads : Contains (store_reads local counters (place_name r.row)) (own (place_name r.row))
  place-reads =
      let name = place_name r.row in
      reads-in name (own name) (in-left (of_value name ++ of_memory name ++ of_place name) (of_taken name) (own name)
      (in-right (of_value name ++ of_memory name) (of_place name) (own name)
      (chosen (bytes_eq name (place_name r.row)) (own name ∷ []) (own name) (bytes-same name name refl) (in-first (own name) []))))

  pub taken-reads : Contains (store_reads local counters (taken_name r.row)) (own (taken_name r.row))
  taken-reads =
      let name = taken_name r.row in
      reads-in name (own name) (in-right (of_value name ++ of_memory name ++ of_place name) (of_taken name) (own name)
      (chosen (bytes_eq name (taken_name r.row)) (own name ∷ []) (own name) (bytes-same name name refl) (in-first (own name) [])))

  pub items-read : Contains (index_reads local (memory_name r.row)) (own (place_name r.row))
  items-read =
      let name = memory_name r.row in
      let read_of : LocalRow → List NamedLeaf = λ (q : LocalRow). if bytes_eq name (memory_name q.row) then own
      (place_name q.row) ∷ [] else [] in
      in-flat_map read_of local.rows r (own (place_name r.row)) is_own
      (chosen (bytes_eq name (memory_name r.row)) (own (place_name r.row) ∷ []) (own (place_name r.row)) (bytes-same name name refl)
      (in-first (own (place_name r.row)) []))

-- ---- In a procedure of the system

module _ (local : LocalSystem) (schedule : SystemSchedule) (code : SystemTree) (lawful : IsLocal local) (q : ProcedureTree) where
  abbrev n : CodeNames
  n = names local schedule code

  abbrev counters : List (List ℕ)
  counters = counters_in (code_slots local schedule)

  abbrev pub Touches : StmtTrees → Type 0
  Touches c = touching.Touches n local counters q c

  abbrev Tested : Leaf → Type 0
  Tested l = touching.Tested n local counters q l

  abbrev TestOk : Option CondTree → Type 0
  TestOk t = OnTest (touching.TestOk n local counters q) t

  -- ---- Stores

  pub touches-store : (f : ℕ) (e : ExprTree) → touching.MayStore n local counters q (record { field = f; value = e }) →
      AllByRecursion (touching.MayIndex n local counters q) (expr_indices e) → Touches (store_code f e)
  touches-store f e stored indexed = record {
    calls = tt;
    stores = (stored, tt);
    indices = all-append (touching.MayIndex n local counters q) (expr_indices e) [] indexed tt;
    tests = tt;
  }

  pub touches-written : (f : ℕ) (v : ℤ) → Touches (store_code f (written v))
  touches-written f v = by (int_lt v (pos 0))
    where
      by : (t : Bool) → Touches (store_code f (if t then neg (literal (neg_ℤ v)) else literal v))
      by true = record { calls = tt; stores = (tt, tt); indices = tt; tests = tt }
      by false = record { calls = tt; stores = (tt, tt); indices = tt; tests = tt }

  -- ---- Tests

  -- it has a parameter for the tick, and one for each control
  pub record HasTestParams : Type 0 where
    pub now : HasParam q.params now_name
    pub controls : (p : Port) → Contains (control_ports local.control) p → HasParam q.params (port_name local.control p)

  tested-param : (name : List ℕ) → HasParam q.params name → Contains (test_reads counters) (param name) → Tested (param_leaf q.params name)
  tested-param name has is = subst (Contains (test_reads counters)) (sym (param-named n q.params name has)) is

  now-read : Contains (test_reads counters) (param now_name)
  now-read = (0, omega arith, refl)

  first-read : Contains (test_reads counters) (param control_name)
  first-read = (1, omega arith, refl)

  second-read : Contains (test_reads counters) (param second_control_name)
  second-read = (2, omega arith, refl)

  remembered-read : Contains (test_reads counters) (own trigger_name)
  remembered-read = (3, omega arith, refl)

  tested-by : (control : Control) → ((p : Port) → Contains (control_ports control) p → HasParam q.params (port_name control p)) →
      (is_triggered control ≡ true → n.own (trigger_field local) ≡ trigger_name) →
      AllByRecursion Tested (laws.control_leaves control
      (record {
        enable = param_leaf q.params control_name;
        trigger = param_leaf q.params (trigger_param control);
        remembers =
            Own (trigger_field local);
      }))
  tested-by Plain has named = tt
  tested-by (Enabled reset) has named = (tested-param control_name (has Enable (in-first Enable [])) first-read, tt)
  tested-by (Triggered edge) has named = (
    tested-param control_name (has Trigger (in-first Trigger [])) first-read,
    (subst (Contains (test_reads counters)) (sym (ap own (named refl))) remembered-read, tt),
  )
  tested-by (Both reset edge) has named = (
    tested-param control_name (has Enable (in-first Enable (Trigger ∷ []))) first-read,
    (
      tested-param second_control_name (has Trigger (in-rest Enable Trigger (Trigger ∷ []) (in-first Trigger []))) second-read,
      (subst (Contains (test_reads counters)) (sym (ap own (named refl))) remembered-read, tt),
    ),
  )

  module _ (has : HasTestParams) where
    tested : AllByRecursion Tested (laws.control_leaves local.control (node.control_leaves local q.params))
    tested = tested-by local.control has.controls (own-trigger local schedule code)

    pub active-ok : TestOk (active_test local q.params)
    active-ok = touching.active-ok n local counters q (node.control_leaves local q.params) local.control tested

    pub off-ok : TestOk (off_test local q.params)
    off-ok = touching.off-ok n local counters q (node.control_leaves local q.params) local.control tested

    disabled-ok : TestOk (disabled_by local.control (node.control_leaves local q.params))
    disabled-ok = touching.disabled-ok n local counters q (node.control_leaves local q.params) local.control tested

    runs-ok : (r : LocalRow) → TestOk (runs_test local q.params r)
    runs-ok r = touching.both-ok n local counters q (active_test local q.params) _ active-ok
        (touching.hit-ok n local counters q r.time (now_leaf q.params) (tested-param now_name has.now now-read))

    -- ---- What the trigger remembers

    trigger-port : (control : Control) → is_triggered control ≡ true → (Contains (control_ports control) Trigger) ×
        (port_name control Trigger ≡ trigger_param control)
    trigger-port Plain is = absurd (true≢false (sym is))
    trigger-port (Enabled reset) is = absurd (true≢false (sym is))
    trigger-port (Triggered edge) is = (in-first Trigger [], refl)
    trigger-port (Both reset edge) is = (in-rest Enable Trigger (Trigger ∷ []) (in-first Trigger []), refl)

    pub trigger-touches : is_triggered local.control ≡ true → Touches (trigger_code local q.params)
    trigger-touches is =
        let port = trigger-port local.control is in
        let name = trigger_param local.control in
        let there : HasParam q.params name = subst (HasParam q.params) port.1 (has.controls Trigger port.0) in
        let rows : List NamedLeaf = flat_map (row_reads local trigger_name) local.rows in
        let second : List NamedLeaf = if bytes_eq trigger_name trigger_name then param name ∷ own trigger_name ∷ [] else [] in
        let third : List NamedLeaf = if is_counter_name trigger_name then map own counters else [] in
        let is-allowed : Contains (store_reads local counters trigger_name) (param name) =
        in-left (rows ++ second) third (param name) (in-right rows second (param name)
        (chosen (bytes_eq trigger_name trigger_name) (param name ∷ own trigger_name ∷ []) (param name)
        (bytes-same trigger_name trigger_name refl) (in-first (param name) (own trigger_name ∷ [])))) in
        touches-store (trigger_field local) (level_code (param_leaf q.params name)) (
          subst (λ field. Contains (store_reads local counters field) (named_leaf n q.params (param_leaf q.params name)))
              (sym (own-trigger local schedule code is))
              (subst (Contains (store_reads local counters trigger_name)) (sym (param-named n q.params name there)) is-allowed),
          tt,
        )
        tt

    module _ (reads_leaves : RowsReadTheirLeaves) (r : LocalRow) (is_own : Contains local.rows r)
        (inputs : map (named_leaf n q.params) (input_leaves local q.params r) ≡ input_reads local r) where
      abbrev Allowed : NamedLeaf → Type 0
      Allowed x = Contains (store_reads local counters (value_name r.row)) x

      input-allowed : (l : Leaf) → Contains (input_leaves local q.params r) l → Contains (input_reads local r) (named_leaf n q.params l)
      input-allowed l h = subst (λ xs. Contains xs (named_leaf n q.params l)) inputs
          (in-map (named_leaf n q.params) (input_leaves local q.params r) l h)

      value-input : (x : NamedLeaf) → Contains (input_reads local r) x → Allowed x
      value-input x h =
          value-reads local counters r is_own x (in-right (own (memory_name r.row) ∷ own (place_name r.row) ∷ own (taken_name r.row) ∷ [])
          (input_reads local r) x h)

      -- a value that reads its inputs, and besides only what is allowed
      touches-value : (memory : ExprTree) (others : List Leaf) → ReadsOnly (Contains others) memory →
          ((l : Leaf) → Contains others l → Allowed (named_leaf n q.params l)) → ItemsOnly (touching.MayIndex n local counters q) memory →
          has_value r.kind ≡ true →
          Touches (store_code (value_field local r.row) (rhs_code r.op (input_leaves local q.params r) (wire_types local r.inputs) memory))
      touches-value memory others only allowed indexed valued =
          let leaves = input_leaves local q.params r in
          let types = wire_types local r.inputs in
          let value = rhs_code r.op leaves types memory in
          let field = own-value local schedule code lawful r is_own valued in
          let each : (l : Leaf) → Contains (leaves ++ others) l → Allowed (named_leaf n q.params l) =
          λ l h. elim (Contains-append_cases leaves others l h) [
            | inl here ↦ value-input (named_leaf n q.params l) (input-allowed l here)
            | inr there ↦ allowed l there
          ] in
          let stored : AllByRecursion Allowed (map (named_leaf n q.params) (expr_leaves value)) =
          all-sent (Contains (leaves ++ others)) Allowed (named_leaf n q.params) (expr_leaves value) each
          (touching.expr-read (Contains (leaves ++ others)) value (reads_leaves r.op leaves others types memory only)) in
          touches-store (value_field local r.row) value
          (subst (λ name. AllByRecursion (Contains (store_reads local counters name)) (map (named_leaf n q.params) (expr_leaves value)))
          (sym field) stored)
          (expr-items (touching.MayIndex n local counters q) value
          (row-items (touching.MayIndex n local counters q) leaves r.op types memory indexed))

      module _ (valued : has_value r.kind ≡ true) where
        abbrev Stored : ExprTree → Type 0
        Stored memory = Touches (store_code (value_field local r.row)
            (rhs_code r.op (input_leaves local q.params r) (wire_types local r.inputs) memory))

        abbrev ring_leaves : List Leaf
        ring_leaves = Own (ring_field local r.row) ∷ Own (ring_field local r.row + 1) ∷ Own (ring_field local r.row + 2) ∷ []

        value-of-ring : is_line r.op ≡ true → Stored (oldest_code (ring_fields local r.row) (delay_length r.op) (row_start local r))
        value-of-ring line =
            let f = ring_field local r.row in
            let others : List Leaf = Own f ∷ Own (f + 1) ∷ Own (f + 2) ∷ [] in
            let items : n.own f ≡ memory_name r.row = own-items local schedule code lawful r is_own line in
            let place : n.own (f + 1) ≡ place_name r.row = own-place local schedule code lawful r is_own line in
            let taken : n.own (f + 2) ≡ taken_name r.row = own-taken local schedule code lawful r is_own line in
            let first : Contains others (Own f) = (0, omega arith, refl) in
            let second : Contains others (Own (f + 1)) = (1, omega arith, refl) in
            let third : Contains others (Own (f + 2)) = (2, omega arith, refl) in
            let is-allowed : (l : Leaf) → Contains others l → Allowed (named_leaf n q.params l) =
            λ l h. elim (in-cases (Own f) l (Own (f + 1) ∷ Own (f + 2) ∷ []) h) [
              | inl same ↦ subst (λ l. Allowed (named_leaf n q.params l)) same
                  (subst Allowed (sym (ap own items)) (value-reads local counters r is_own (own (memory_name r.row))
                  (0, omega arith, refl)))
              | inr more ↦ elim (in-cases (Own (f + 1)) l (Own (f + 2) ∷ []) more) [
                | inl same ↦ subst (λ l. Allowed (named_leaf n q.params l)) same
                    (subst Allowed (sym (ap own place)) (value-reads local counters r is_own (own (place_name r.row))
                    (1, omega arith, refl)))
                | inr last ↦ elim (in-cases (Own (f + 2)) l [] last) [
                  | inl same ↦ subst (λ l. Allowed (named_leaf n q.params l)) same
                      (subst Allowed (sym (ap own taken)) (value-reads local counters r is_own (own (taken_name r.row))
                      (2, omega arith, refl)))
                  | inr none ↦ absurd (in-none l none)
                ]
              ]
            ] in
            let index : AllByRecursion (Contains (index_reads local (n.own f))) (own (n.own (f + 1)) ∷ []) = (
              subst (λ name. Contains (index_reads local name) (own (n.own (f + 1)))) (sym items)
                  (subst (λ name. Contains (index_reads local (memory_name r.row)) (own name)) (sym place)
                  (items-read local counters r is_own)),
              tt,
            ) in
            touches-value (oldest_code (ring_fields local r.row) (delay_length r.op) (row_start local r)) others
            (by (int_lt (row_start local r) (pos 0)) third first second) is-allowed
            (shape (int_lt (row_start local r) (pos 0)) index) valued
          where
            by : (t : Bool) → Contains (ring_leaves) (Own (ring_field local r.row + 2)) →
                Contains (ring_leaves) (Own (ring_field local r.row)) →
                Contains (ring_leaves) (Own (ring_field local r.row + 1)) →
                ReadsOnly (Contains (ring_leaves)) (pick (is_filling_code (ring_fields local r.row) (delay_length r.op))
                (if t then neg (literal (neg_ℤ (row_start local r))) else literal (row_start local r))
                (item (ring_field local r.row) (place_read (ring_fields local r.row))))
            by true t i p = ((t, tt), tt, (i, p))
            by false t i p = ((t, tt), tt, (i, p))

            shape : (t : Bool) → AllByRecursion (Contains (index_reads local (n.own (ring_field local r.row))))
                (own (n.own (ring_field local r.row + 1)) ∷ []) →
                ItemsOnly (touching.MayIndex n local counters q) (pick (is_filling_code (ring_fields local r.row) (delay_length r.op))
                (if t then neg (literal (neg_ℤ (row_start local r))) else literal (row_start local r))
                (item (ring_field local r.row) (place_read (ring_fields local r.row))))
            shape true index = ((tt, tt), tt, (index, tt))
            shape false index = ((tt, tt), tt, (index, tt))

        value-of-single : is_single r.op ≡ true → Stored (read (Own (memory_field local r.row)))
        value-of-single single =
            let l : Leaf = Own (memory_field local r.row) in
            touches-value (read l) (l ∷ []) (in-first l []) is-allowed tt valued
          where
            here : Allowed (named_leaf n q.params (Own (memory_field local r.row)))
            here = subst Allowed (sym (ap own (own-memory local schedule code lawful r is_own single)))
                (value-reads local counters r is_own (own (memory_name r.row)) (0, omega arith, refl))

            is-allowed : (l : Leaf) → Contains (Own (memory_field local r.row) ∷ []) l → Allowed (named_leaf n q.params l)
            is-allowed l h = elim (in-cases (Own (memory_field local r.row)) l [] h) [
              | inl same ↦ subst (λ l. Allowed (named_leaf n q.params l)) same here
              | inr none ↦ absurd (in-none l none)
            ]

        value-of-none : (memory : ExprTree) → is_single r.op ≡ false → is_line r.op ≡ false → Stored memory
        value-of-none memory single line =
            subst (λ e. Touches (store_code (value_field local r.row) e))
            (sym (no-memory r.op (input_leaves local q.params r) (wire_types local r.inputs) memory single line))
            (touches-value nought [] tt (λ l h. absurd (in-none l h)) tt valued)

        value-stored : Stored (memory_read local r)
        value-stored = by (is_line r.op) refl (is_single r.op) refl
          where
            by : (line : Bool) → is_line r.op ≡ line → (single : Bool) → is_single r.op ≡ single →
                Stored (if line then oldest_code (ring_fields local r.row) (delay_length r.op) (row_start local r) else read
                (Own (memory_field local r.row)))
            by true line single s = value-of-ring line
            by false line true s = value-of-single s
            by false line false s = value-of-none (read (Own (memory_field local r.row))) s line

      pub value-touches : Touches (value_code local q.params r)
      value-touches = by (has_value r.kind) refl
        where
          reset : (t : Bool) → Touches (if t then value_reset_statements (value_field local r.row)
              (disabled_by local.control (node.control_leaves local q.params)) (row_start local r) else no_stmts)
          reset true = touching.touches-only n local counters q (disabled_by local.control (node.control_leaves local q.params))
              (store_code (value_field local r.row) (written (row_start local r))) disabled-ok
              (touches-written (value_field local r.row) (row_start local r))
          reset false = touching.touches-none n local counters q

          by : (t : Bool) → has_value r.kind ≡ t →
              Touches (if t then stmts_append (output_reset local q.params r) (value_store local q.params r) else no_stmts)
          by true valued = touching.touches-append n local counters q (output_reset local q.params r) (value_store local q.params r)
              (reset (is_reset_outport r.kind))
              (touching.touches-guarded n local counters q (runs_test local q.params r)
              (store_code (value_field local r.row) (rhs_code r.op (input_leaves local q.params r) (wire_types local r.inputs)
              (memory_read local r))) no_stmts
              (runs-ok r) (value-stored valued) (touching.touches-none n local counters q))
          by false none = touching.touches-none n local counters q

      -- ---- Memories

      module _ (l : Leaf) (ls : List Leaf) (some : input_leaves local q.params r ≡ l ∷ ls) where
        first-is : first_input local q.params r ≡ l
        first-is = ap (λ xs. get_or xs 0 (Own 0)) some

        first-allowed : Contains (store_reads local counters (memory_name r.row)) (named_leaf n q.params (first_input local q.params r))
        first-allowed =
            memory-reads local counters r is_own (named_leaf n q.params (first_input local q.params r))
            (input-allowed (first_input local q.params r) (subst (Contains (input_leaves local q.params r)) (sym first-is)
            (subst (λ xs. Contains xs l) (sym some) (in-first l ls))))

        emptied-touches : Touches (emptied (ring_fields local r.row))
        emptied-touches = record { calls = tt; stores = (tt, (tt, tt)); indices = tt; tests = tt }

        taken-touches : is_line r.op ≡ true →
            Touches (taken_in (ring_fields local r.row) (delay_length r.op) (first_input local q.params r))
        taken-touches line =
            let f = ring_field local r.row in
            let items : n.own f ≡ memory_name r.row = own-items local schedule code lawful r is_own line in
            let place : n.own (f + 1) ≡ place_name r.row = own-place local schedule code lawful r is_own line in
            let taken : n.own (f + 2) ≡ taken_name r.row = own-taken local schedule code lawful r is_own line in
            let one : Contains (store_reads local counters (n.own (f + 2))) (own (n.own (f + 2))) =
            subst (λ name. Contains (store_reads local counters name) (own name)) (sym taken) (taken-reads local counters r is_own) in
            let at : Contains (store_reads local counters (n.own (f + 1))) (own (n.own (f + 1))) =
            subst (λ name. Contains (store_reads local counters name) (own name)) (sym place) (place-reads local counters r is_own) in
            let index : Contains (index_reads local (n.own f)) (own (n.own (f + 1))) =
            subst (λ name. Contains (index_reads local name) (own (n.own (f + 1)))) (sym items)
            (subst (λ name. Contains (index_reads local (memory_name r.row)) (own name)) (sym place)
            (items-read local counters r is_own)) in
            record {
              calls = tt;
              stores = (
                (
                  subst (λ name. Contains (store_reads local counters name) (named_leaf n q.params (first_input local q.params r)))
                      (sym items) first-allowed,
                  tt,
                ),
                ((one, (one, (one, tt))), ((at, tt), tt)),
              );
              indices = ((index, tt), tt);
              tests = tt;
            }

        pub memory-touches : is_delay r.op ≡ true → Touches (memory_code local q.params r)
        memory-touches delay = by (is_line r.op) refl
          where
            by : (t : Bool) → is_line r.op ≡ t → Touches (if t then ring_statements (ring_fields local r.row) (delay_length r.op)
                (runs_test local q.params r) (first_input local q.params r) (off_test local q.params)
                else memory_statements (memory_field local r.row) (runs_test local q.params r) (first_input local q.params r)
                (off_test local q.params) (row_start local r))
            by true line = touching.touches-guarded n local counters q (runs_test local q.params r)
                (taken_in (ring_fields local r.row) (delay_length r.op) (first_input local q.params r))
                (only_if (off_test local q.params) (emptied (ring_fields local r.row)))
                (runs-ok r) (taken-touches line) (touching.touches-only n local counters q (off_test local q.params)
                (emptied (ring_fields local r.row)) off-ok emptied-touches)
            by false line =
                let single = own-memory local schedule code lawful r is_own (delay-single r.op delay line) in
                touching.touches-guarded n local counters q (runs_test local q.params r)
                (store_code (memory_field local r.row) (read (first_input local q.params r)))
                (only_if (off_test local q.params) (store_code (memory_field local r.row) (written (row_start local r))))
                (runs-ok r)
                (touches-store (memory_field local r.row) (read (first_input local q.params r)) (
                  subst (λ name. Contains (store_reads local counters name) (named_leaf n q.params (first_input local q.params r)))
                      (sym single) first-allowed,
                  tt,
                ) tt)
                (touching.touches-only n local counters q (off_test local q.params)
                (store_code (memory_field local r.row) (written (row_start local r))) off-ok
                (touches-written (memory_field local r.row) (row_start local r)))
