-- A row has its value where it runs, else that of the tick before.
use Rattle.std.proofs.Common.{◌≡◌, refl, sym, ap, ◌∙◌, subst, ℕ, ◌+◌, ◌-◌, Bool, true, false, not, ◌&&◌, if◌then◌else◌, List, [], ◌∷◌, map, length, Option, Some, None, ℤ, pos, arith, eq-eqb}
use Rattle.base_core.specs.Numbers.{int_at}
use Rattle.base_core.specs.declared.Control.{Control}
use Rattle.base_core.specs.declared.Control.TheVariants.{Plain, Enabled, Triggered, Both}
use Rattle.diagram_activity.specs.Activity.{is_high}
use Rattle.diagram_blocks.specs.Kinds.{is_inport, port_of, is_reset_outport}
use Rattle.diagram_blocks.specs.Meaning.{has_value}
use Rattle.diagram_blocks.specs.Value.{rhs}
use Rattle.diagram_blocks.specs.Evaluation.{IsEvaluable}
use Rattle.diagram_meaning.specs.ControlValues.{is_disabled_by}
use Rattle.diagram_meaning.specs.Rows.{row_at, system_control, same_system, inports_of}
use Rattle.diagram_meaning.specs.Diagram.{Diagram, type_at, op_at}
use Rattle.diagram_meaning.specs.Run.{start_of, first_of}
use Rattle.diagram_meaning.specs.SystemRuns.{SystemTick, IsRowOf, system_is_disabled, own_runs, own_inputs, IsSystemTick}
use Rattle.c_syntax.specs.declared.Leaf.TheVariants.{Param, Own, Child}
use Rattle.c_syntax.specs.Tree.{read}
use Rattle.c_semantics.specs.Values.{eval}
use Rattle.c_semantics.specs.Values as c
use Rattle.emit_prelude.specs.Bodies.{function_trees}
use Rattle.emit_prelude.proofs.lemmas.PreludeLaws.{prelude_is}
use Rattle.emit_row_code.specs.Computed.{returns}
use Rattle.emit_row_code.specs.KnownTypes.{AreTypesOf}
use Rattle.emit_row_code.specs.Laws.{RowsAreComputed}
use Rattle.emit_row_code.specs.TestCode.{disabled_by}
use Rattle.lustre_syntax.specs.declared.LusOp.TheVariants as op
use Rattle.lustre_syntax.specs.Tree.{number, name, negation, two, choice}
use Rattle.lustre_syntax.specs.Named.{NamedExpr, renamed}
use Rattle.lustre_flows.specs.Values.{Outcome, gives, value_at, evaluate}
use Rattle.lustre_flows.specs.Values as flow
use Rattle.lustre_system.specs.FromC.{value_of}
use Rattle.lustre_system.specs.Functions.{function_name}
use Rattle.lustre_system.specs.Names.{around_active, part_name, leaf_name, leaves_of, control_leaves}
use Rattle.lustre_system.specs.RowEquations.{test_in, row_code, runs, signed_number, kept, value_or_kept, or_reset, row_value}
use Rattle.lustre_functions.proofs.lemmas.Operators.{choice-is}
use Rattle.lustre_functions.specs.FromCLaws.{HasNames}
use Rattle.lustre_functions.proofs.lemmas.FromC.{number-is}
use Rattle.lustre_rows.specs.NamesOfTick.{leaf_value, tick_reads, c_functions, IsAfter}
use Rattle.lustre_rows.specs.EquationLaws.{IsNamedTick, IsTimedRow, IsComputedRow}
use Rattle.lustre_rows.proofs.Tests.{ControlsRead, low-inside}
use Rattle.lustre_rows.proofs.Activity.{controls-read}
use Rattle.lustre_rows.proofs.Samples.{signed-given}
use Rattle.lustre_rows.proofs.Memories.{runs-given, and-true}
use Rattle.lustre_rows.proofs.RowNames.{code-names}

-- ---- What a row reads

same-self : (s : Option ℕ) → same_system s s ≡ true
same-self None = refl
same-self (Some e) = eq-eqb e e refl

first-is : (xs : List ℤ) → int_at xs 0 ≡ first_of xs
first-is [] = refl
first-is (x ∷ xs) = refl

module _ (m : SystemTick) where
  own-read : (cs : List ℕ) → map (leaf_value m) (map Own cs) ≡ map m.value cs
  own-read [] = refl
  own-read (c ∷ cs) = ap (λ (vs : List ℤ). m.value c ∷ vs) (own-read cs)

  leaves-by : (i : Bool) (k : ℕ) (cs : List ℕ) →
      map (leaf_value m) (if i then Param k ∷ [] else map Own cs) ≡ (if i then int_at m.inputs k ∷ [] else map m.value cs)
  leaves-by true k cs = refl
  leaves-by false k cs = own-read cs

pub own-leaves : (d : Diagram) (s : Option ℕ) (m : SystemTick) (b : ℕ) → IsRowOf d.rows s b →
    map (leaf_value m) (leaves_of d.rows s b) ≡ own_inputs d s m b
own-leaves d s m b row =
    let r = row_at d.rows b in
    let i = is_inport r.kind in
    let k = port_of r.kind - 1 in
    leaves-by m (i && same_system r.owner s) k r.inputs
    ∙ ap (λ (o : Option ℕ). if i && same_system o s then int_at m.inputs k ∷ [] else map m.value r.inputs) row.own
    ∙ ap (λ t. if i && t then int_at m.inputs k ∷ [] else map m.value r.inputs) (same-self s)
    ∙ ap (λ t. if t then int_at m.inputs k ∷ [] else map m.value r.inputs) (and-true i)

-- the row's code gives what the row computes
module _ (law : RowsAreComputed) (d : Diagram) (s : Option ℕ) (m : SystemTick) (b : ℕ) (row : IsRowOf d.rows s b)
    (computed : IsComputedRow d s m b) where
  abbrev pub code_end : ℕ
  code_end = 0 + returns (op_at d b) (map (type_at d.types) (row_at d.rows b).inputs) (map (leaf_value m) (leaves_of d.rows s b))

  pub code-comes : eval c_functions (tick_reads m) 0 (row_code d s b) 0
      ≡ c.gives (rhs (op_at d b) (own_inputs d s m b) (first_of (m.memory b))) code_end
  code-comes =
      let o = op_at d b in
      let leaves = leaves_of d.rows s b in
      let types = map (type_at d.types) (row_at d.rows b).inputs in
      let memory = first_of (m.memory b) in
      let same = own-leaves d s m b row in
      law o leaves types (read (Child b 0)) memory function_trees (tick_reads m) 0 0 prelude_is
      (subst (λ (vs : List ℤ). IsEvaluable o vs memory) (sym same) computed.evaluable)
      (subst (λ (vs : List ℤ). AreTypesOf o types vs) (sym same) computed.typed) (omega arith)
      (λ n. ap (λ v. c.gives v n) (first-is (m.memory b)))
      ∙ ap (λ (vs : List ℤ). c.gives (rhs o vs memory) code_end) same

-- its names have what its parts give
pub names-given : (d : Diagram) (hyper : ℕ) (s : Option ℕ) (m : SystemTick) (before : Option (List (Option ℤ)))
    (values : List (Option ℤ)) (place : List ℕ → ℕ) (b : ℕ) → IsNamedTick d hyper s m before values place → IsRowOf d.rows s b →
    IsComputedRow d s m b →
    HasNames c_functions (tick_reads m) 0 values (leaf_name d.rows s) (part_name b) place 0 (row_code d s b)
names-given d hyper s m before values place b tick row computed =
    code-names c_functions (tick_reads m) values (leaf_name d.rows s) (part_name b) place (leaves_of d.rows s b)
    (map (type_at d.types) (row_at d.rows b).inputs) (Child b 0) (tick.names.leaves b row) (op_at d b)
    (λ delay. tick.names.samples b 0 row delay (computed.remembers delay)) (tick.names.parts b row computed.valued)

-- ---- Its value

picked : (p : Bool) (a b : Outcome) (v w : ℤ) → a ≡ gives v → b ≡ gives w → (if p then a else b) ≡ gives (if p then v else w)
picked true a b v w first second = first
picked false a b v w first second = second

module _ (law : RowsAreComputed) (d : Diagram) (hyper : ℕ) (s : Option ℕ) (m : SystemTick) (before : Option (List (Option ℤ)))
    (values : List (Option ℤ)) (place : List ℕ → ℕ) (b : ℕ) (tick : IsNamedTick d hyper s m before values place)
    (row : IsTimedRow d hyper s m.t b) (computed : IsComputedRow d s m b) where
  abbrev given : NamedExpr → Outcome
  given e = evaluate before values (renamed place e)

  abbrev new : ℤ
  new = rhs (op_at d b) (own_inputs d s m b) (first_of (m.memory b))

  code-given : given (value_of (leaf_name d.rows s) function_name (part_name b) (row_code d s b)) ≡ gives new
  code-given =
      number-is c_functions (tick_reads m) 0 before values (leaf_name d.rows s) function_name (part_name b) place 0 (row_code d s b)
      (names-given d hyper s m before values place b tick row.row computed) 0 (code_end law d s m b row.row computed) new
      (code-comes law d s m b row.row computed)

  running-given : (kept_is : given (kept d s b) ≡ gives (m.before b)) →
      given (value_or_kept d s b) ≡ gives (if own_runs d s m b then new else m.before b)
  running-given kept_is =
      let code = value_of (leaf_name d.rows s) function_name (part_name b) (row_code d s b) in
      choice-is (own_runs d s m b) (given (runs d s b)) (given code) (given (kept d s b))
      (runs-given d hyper s m before values place b tick row)
      ∙ picked (own_runs d s m b) (given code) (given (kept d s b)) new (m.before b) code-given kept_is

  abbrev enable : List ℕ
  enable = leaf_name d.rows s (control_leaves d.rows s).enable

  low-reset : (x : ℤ) → value_at values (place enable) ≡ Some (int_at m.controls 0) → given (value_or_kept d s b) ≡ gives x →
      given (choice (two op.And (name around_active) (negation (two op.Gt (name enable) (number (pos 0))))) (signed_number (start_of d b))
      (value_or_kept d s b))
      ≡ gives (if m.parent && not (is_high (int_at m.controls 0)) then start_of d b else x)
  low-reset x has is =
      let q = m.parent && not (is_high (int_at m.controls 0)) in
      let start = given (signed_number (start_of d b)) in
      choice-is q (given (two op.And (name around_active) (negation (two op.Gt (name enable) (number (pos 0)))))) start
      (given (value_or_kept d s b))
      (low-inside before values place d s (control_leaves d.rows s) m.trigger m.controls m.parent tick.names.on has)
      ∙ picked q start (given (value_or_kept d s b)) (start_of d b) x (signed-given before values place (start_of d b) row.start) is

  -- an output that is reset while the system is disabled
  reset-by : (r : Bool) (control : Control) (x : ℤ) →
      ControlsRead before values place enable (leaf_name d.rows s (control_leaves d.rows s).trigger)
      (leaf_name d.rows s (control_leaves d.rows s).remembers) m.trigger m.controls control →
      given (value_or_kept d s b) ≡ gives x →
      given (or_reset d s b (if r then test_in d s (disabled_by control (control_leaves d.rows s)) else None))
      ≡ gives (if r && is_disabled_by m.parent control m.controls then start_of d b else x)
  reset-by false control x has is = is
  reset-by true Plain x has is = is
  reset-by true (Enabled reset) x has is = low-reset x has is
  reset-by true (Triggered edge) x has is = is
  reset-by true (Both reset edge) x has is = low-reset x has.0 is

  value-from : IsSystemTick d s m → given (kept d s b) ≡ gives (m.before b) → given (row_value d s b) ≡ gives (m.value b)
  value-from system kept_is =
      let kind = (row_at d.rows b).kind in
      let control = system_control d.rows s in
      let x = if own_runs d s m b then new else m.before b in
      let held = if is_reset_outport kind && system_is_disabled d s m then start_of d b else x in
      reset-by (is_reset_outport kind) control x
      (controls-read d hyper s m values place before control (length (inports_of d.rows s)) tick.names.controls) (running-given kept_is)
      ∙ ap gives (sym (system.values b row.row ∙ ap (λ h. if not h then pos 0 else held) computed.valued))

-- the value at the tick before
module _ (d : Diagram) (hyper : ℕ) (s : Option ℕ) (m : SystemTick) (values : List (Option ℤ)) (place : List ℕ → ℕ) (b : ℕ)
    (row : IsTimedRow d hyper s m.t b) (valued : has_value (row_at d.rows b).kind ≡ true) where
  kept-given : (before : Option (List (Option ℤ))) → IsAfter d hyper s m place before →
      evaluate before values (renamed place (kept d s b)) ≡ gives (m.before b)
  kept-given None first =
      signed-given None values place (start_of d b) row.start ∙ ap gives (sym (first.starts b row.row))
  kept-given (Some olds) (earlier, had, tick, follows) =
      ap flow.read (had.rows b row.row valued) ∙ ap (λ (f : ℕ → ℤ). gives (f b)) (sym follows.values)

pub value-given : (law : RowsAreComputed) (d : Diagram) (hyper : ℕ) (s : Option ℕ) (m : SystemTick)
    (before : Option (List (Option ℤ))) (values : List (Option ℤ)) (place : List ℕ → ℕ) (b : ℕ) →
    IsNamedTick d hyper s m before values place → IsSystemTick d s m → IsTimedRow d hyper s m.t b → IsComputedRow d s m b →
    evaluate before values (renamed place (row_value d s b)) ≡ gives (m.value b)
value-given law d hyper s m before values place b tick system row computed =
    value-from law d hyper s m before values place b tick row computed system
    (kept-given d hyper s m values place b row computed.valued before tick.after)
