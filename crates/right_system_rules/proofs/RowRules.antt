-- The code of rows, of memories and of the trigger keeps the rules of C.
use Rattle.std.specs.Prelude.{◌≡◌, ℕ, ◌^◌, ◌<◌, ◌≤◌, Bool, true, false, if◌then◌else◌, List, length, Contains, unsigned_abs}
use Rattle.std.proofs.Common.{refl, sym, subst, arith, true≢false, lit<, lit≤}
use Rattle.std.proofs.lemmas.List.Elements.{All-contains}
use Rattle.base_fixed_point.specs.declared.types.FixType.{FixType}
use Rattle.diagram_blocks.specs.declared.Op.{Op}
use Rattle.diagram_blocks.specs.declared.Op.TheVariants.{Delay, Line}
use Rattle.diagram_blocks.specs.Meaning.{has_value, delay_length}
use Rattle.diagram_meaning.specs.Rows.{is_triggered}
use Rattle.diagram_blocks.specs.Kinds.{is_delay, is_reset_outport}
use Rattle.modules_profile.specs.declared.local.LocalRow.{LocalRow}
use Rattle.modules_profile.specs.LocalSystem.{LocalSystem}
use Rattle.modules_profile.specs.SystemProfile.{SystemProfile}
use Rattle.modules_profile.proofs.lemmas.Members.{in-filter}
use Rattle.modules_schedule.specs.SystemSchedule.{SystemSchedule}
use Rattle.c_syntax.specs.declared.Leaf.{Leaf}
use Rattle.c_syntax.specs.declared.Leaf.TheVariants.{Own}
use Rattle.c_syntax.specs.Tree.{ExprTree, read, StmtTrees, no_stmts, stmts_append, PureTree, ParamTree, ProcedureTree}
use Rattle.c_syntax.specs.Lawful.{Reach, IsNumberAt, IsLawfulExpr, AreLawfulStmts}
use Rattle.c_syntax.specs.Limits.{expr_depth}
use Rattle.emit_prelude.specs.Rules.{IsPrelude}
use Rattle.emit_row_code.specs.LawfulStatements.{AreShallow, IsRingIn, RowStatementsAreLawful, StatementsAreShallow}
use Rattle.emit_row_code.specs.Resolved.{IsRowOp}
use Rattle.emit_row_code.specs.RingCode.{oldest_code}
use Rattle.emit_row_code.specs.StatementCode.{value_reset_statements, memory_statements, ring_statements}
use Rattle.emit_row_code.specs.RowCode.{rhs_code, nought}
use Rattle.emit_row_code.specs.TestCode.{disabled_by}
use Rattle.emit_shape.specs.Delays.{is_single, is_line}
use Rattle.emit_shape.specs.Names.{trigger_param}
use Rattle.emit_shape.specs.Relocation.{Relocation}
use Rattle.emit_shape.specs.RowStarts.{row_start}
use Rattle.emit_system_spec.specs.Fields.{value_field, memory_field, trigger_field}
use Rattle.emit_system_spec.specs.Emittable.{IsWritableRow}
use Rattle.emit_system_spec.specs.NodeCode.{ring_fields, memory_read, off_test, runs_test, input_leaves, first_input, output_reset, value_store, value_code, memory_code, trigger_code}
use Rattle.emit_system_spec.specs.NodeCode.{control_leaves}
use Rattle.emit_system_spec.specs.Places.{param_leaf}
use Rattle.emit_system_spec.specs.Sources.{wire_types}
use Rattle.right_system_rules.proofs.SystemFacts.{SystemFacts}
use Rattle.right_system_rules.proofs.Structs.{line-delays}
use Rattle.right_system_rules.proofs.FieldPlaces.{fields, value-number, memory-number, items-array, place-number, taken-number, trigger-number}
use Rattle.right_system_rules.proofs.Moves.{CallsNothing, value-calls, value_reset-calls, memory-calls, ring-calls, trigger-calls}
use Rattle.right_system_rules.proofs.Reaches.{relocation, bare, reach}
use Rattle.right_system_rules.proofs.GoodCode.{IsGood, good-none, good-append, good-still}
use Rattle.right_system_rules.proofs.LeafRules.{BlockLaws, LeafRules}

pub writable : (local : LocalSystem) (profile : SystemProfile) (schedule : SystemSchedule) → SystemFacts local profile schedule →
    (r : LocalRow) → Contains local.rows r → unsigned_abs (row_start local r) < 2 ^ 63
writable local profile schedule facts r h = (All-contains (IsWritableRow local) local.rows r facts.emittable.rows h).start

-- ---- Delays

delay-single : (op : Op) → is_delay op ≡ true → is_line op ≡ false → is_single op ≡ true
delay-single (Delay initial) delay line = refl
delay-single (Line samples start) delay line = absurd (true≢false line)
delay-single _ delay line = absurd (true≢false (sym delay))

-- only delays read what they remember
no-memory : (op : Op) (leaves : List Leaf) (types : List FixType) (memory other : ExprTree) → is_delay op ≡ false →
    rhs_code op leaves types memory ≡ rhs_code op leaves types other
no-memory (Delay initial) leaves types memory other delay = absurd (true≢false delay)
no-memory (Line samples start) leaves types memory other delay = absurd (true≢false delay)
no-memory _ leaves types memory other delay = refl

-- ---- A system

module _ (local : LocalSystem) (profile : SystemProfile) (schedule : SystemSchedule) (facts : SystemFacts local profile schedule)
    (laws : BlockLaws)
    (pures : List PureTree) (later : List ProcedureTree) (params : List ParamTree)
    (rules : LeafRules local profile schedule pures later params) where
  abbrev m : Relocation
  m = relocation local profile schedule

  abbrev here : Reach
  here = reach local profile schedule pures later (length params)

  abbrev limit : ℕ
  limit = bare local profile schedule

  abbrev Good : StmtTrees → Type 0
  Good = IsGood m here limit

  abbrev depths : StatementsAreShallow 40
  depths = laws.shallow 40 (lit≤ tt)

  abbrev row_laws : RowStatementsAreLawful here
  row_laws = (laws.statements here).0

  still : (code : StmtTrees) → CallsNothing code → (IsPrelude pures → AreLawfulStmts here code) → AreShallow 40 code → Good code
  still code none lawful shallow = good-still m here limit (λ f o. refl) code none lawful shallow

  value-of : (r : LocalRow) → Contains local.rows r → has_value r.kind ≡ true → IsNumberAt (fields local schedule) (value_field local r.row)
  value-of r h has = value-number local schedule r (in-filter (λ (q : LocalRow). has_value q.kind) local.rows r h has)

  ring-in : (r : LocalRow) → Contains local.rows r → is_line r.op ≡ true → IsRingIn here (ring_fields local r.row)
  ring-in r h line =
      let m = in-filter (λ (q : LocalRow). is_line q.op) local.rows r h line in
      record { items = items-array local schedule r m; place = place-number local schedule r m; taken = taken-number local schedule r m }

  samples : (r : LocalRow) → Contains local.rows r → is_line r.op ≡ true → delay_length r.op < 2 ^ 63
  samples r h line = let few = ((facts.rows r h).samples (line-delays r.op line)).1 in omega (arith, few)

  single-of : (r : LocalRow) → Contains local.rows r → is_delay r.op ≡ true → is_line r.op ≡ false →
      IsNumberAt (fields local schedule) (memory_field local r.row)
  single-of r h delay line =
      memory-number local schedule r (in-filter (λ (q : LocalRow). is_single q.op) local.rows r h (delay-single r.op delay line))

  memory-lawful : (r : LocalRow) → Contains local.rows r → is_delay r.op ≡ true → IsLawfulExpr here (memory_read local r)
  memory-lawful r h delay = by (is_line r.op) refl
    where
      by : (t : Bool) → is_line r.op ≡ t →
          IsLawfulExpr here (if t then oldest_code (ring_fields local r.row) (delay_length r.op) (row_start local r) else read
          (Own (memory_field local r.row)))
      by true line =
          row_laws.oldest (ring_fields local r.row) (delay_length r.op) (row_start local r) (ring-in r h line) (samples r h line)
          (writable local profile schedule facts r h)
      by false single = single-of r h delay single

  memory-shallow : (r : LocalRow) → expr_depth (memory_read local r) ≤ 40
  memory-shallow r = by (is_line r.op)
    where
      by : (t : Bool) →
          expr_depth
          (if t then oldest_code (ring_fields local r.row) (delay_length r.op) (row_start local r)
          else read (Own (memory_field local r.row)))
          ≤ 40
      by true = depths.oldest (ring_fields local r.row) (delay_length r.op) (row_start local r)
      by false = omega arith

  abbrev value_expr : LocalRow → ExprTree
  value_expr r = rhs_code r.op (input_leaves local params r) (wire_types local r.inputs) (memory_read local r)

  value-lawful : IsPrelude pures → (r : LocalRow) → Contains local.rows r → IsLawfulExpr here (value_expr r)
  value-lawful prelude r h =
      let op = (All-contains (IsWritableRow local) local.rows r facts.emittable.rows h).op in
      by op (is_delay r.op) refl
    where
      by : IsRowOp r.op → (t : Bool) → is_delay r.op ≡ t → IsLawfulExpr here (value_expr r)
      by op true delay =
          laws.rows here r.op (input_leaves local params r) (wire_types local r.inputs) (memory_read local r) prelude op
          (rules.inputs r h) (memory-lawful r h delay)
      by op false none =
          subst (IsLawfulExpr here) (sym
          (no-memory r.op (input_leaves local params r) (wire_types local r.inputs) (memory_read local r) nought none))
          (laws.rows here r.op (input_leaves local params r) (wire_types local r.inputs) nought prelude op (rules.inputs r h)
          (0, refl, lit< tt))

  value-store : (r : LocalRow) → Contains local.rows r → has_value r.kind ≡ true → Good (value_store local params r)
  value-store r h has =
      let f = value_field local r.row in
      let runs = runs_test local params r in
      let low = memory-shallow r in
      let deep = laws.depth r.op (input_leaves local params r) (wire_types local r.inputs) (memory_read local r) in
      still (value_store local params r) (value-calls f runs (value_expr r))
      (λ prelude. row_laws.value f runs (value_expr r) (value-of r h has) (rules.runs r h) (value-lawful prelude r h))
      (depths.value f runs (value_expr r) (rules.shallow_runs r) (omega (arith, low, deep)))

  output-good : (r : LocalRow) → Contains local.rows r → has_value r.kind ≡ true → Good (output_reset local params r)
  output-good r h has = by (is_reset_outport r.kind)
    where
      by : (t : Bool) →
          Good
          (if t then
          value_reset_statements (value_field local r.row) (disabled_by local.control (control_leaves local params)) (row_start local r)
          else no_stmts)
      by true =
          let f = value_field local r.row in
          let disabled = disabled_by local.control (control_leaves local params) in
          still (value_reset_statements f disabled (row_start local r)) (value_reset-calls f disabled (row_start local r))
          (λ prelude. row_laws.value_reset f disabled (row_start local r) (value-of r h has) rules.disabled
          (writable local profile schedule facts r h))
          (depths.value_reset f disabled (row_start local r) rules.shallow_disabled)
      by false = good-none m here limit

  pub value-good : (r : LocalRow) → Contains local.rows r → Good (value_code local params r)
  value-good r h = by (has_value r.kind) refl
    where
      by : (t : Bool) → has_value r.kind ≡ t →
          Good (if t then stmts_append (output_reset local params r) (value_store local params r) else no_stmts)
      by true has =
          good-append m here limit (output_reset local params r) (value_store local params r) (output-good r h has) (value-store r h has)
      by false none = good-none m here limit

  pub memory-good : (r : LocalRow) → Contains local.rows r → is_delay r.op ≡ true → Good (memory_code local params r)
  memory-good r h delay = by (is_line r.op) refl
    where
      by : (t : Bool) → is_line r.op ≡ t →
          Good (if t then ring_statements (ring_fields local r.row) (delay_length r.op) (runs_test local params r)
          (first_input local params r) (off_test local params)
          else memory_statements (memory_field local r.row) (runs_test local params r) (first_input local params r)
          (off_test local params) (row_start local r))
      by true line =
          let ring = ring_fields local r.row in
          let runs = runs_test local params r in
          let off = off_test local params in
          let input = first_input local params r in
          still (ring_statements ring (delay_length r.op) runs input off) (ring-calls ring (delay_length r.op) runs off input)
          (λ prelude. row_laws.ring ring (delay_length r.op) runs off input (ring-in r h line) (samples r h line)
          (rules.runs r h) rules.off (rules.delay_input r h delay))
          (depths.ring ring (delay_length r.op) runs off input (rules.shallow_runs r) rules.shallow_off)
      by false single =
          let f = memory_field local r.row in
          let runs = runs_test local params r in
          let off = off_test local params in
          let input = first_input local params r in
          still (memory_statements f runs input off (row_start local r)) (memory-calls f runs off input (row_start local r))
          (λ prelude. row_laws.memory f runs off input (row_start local r) (single-of r h delay single) (rules.runs r h) rules.off
          (rules.delay_input r h delay) (writable local profile schedule facts r h))
          (depths.memory f runs off input (row_start local r) (rules.shallow_runs r) rules.shallow_off)

  pub trigger-good : is_triggered local.control ≡ true → Good (trigger_code local params)
  trigger-good is =
      let leaf = param_leaf params (trigger_param local.control) in
      still (trigger_code local params) (trigger-calls (trigger_field local) leaf)
      (λ prelude. row_laws.trigger (trigger_field local) leaf (trigger-number local schedule is)
      (rules.param (trigger_param local.control))) (depths.trigger (trigger_field local) leaf)
