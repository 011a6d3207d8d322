-- A run over a trace stays in its types.
use Rattle.std.specs.Prelude.{◌≡◌, ℕ, zero, suc, ◌+◌, ◌-◌, ◌<◌, ◌≤◌, Bool, true, false, if◌then◌else◌, List, [], ◌∷◌, ◌++◌, map, length, slice_get, slice_index_or, Option, Some, None, unwrap_or, ℤ}
use Rattle.std.specs.List.{range_with_len, AllZip}
use Rattle.std.proofs.Common.{refl, sym, ◌∙◌, ap, subst, arith, true≢false}
use Rattle.std.proofs.lemmas.List.{length-map}
use Rattle.std.proofs.lemmas.List.FromFn.{length-map-range_with_len}
use native.Mathlib.Decide.{dec_lt}
use Rattle.std.proofs.lemmas.List.{get_or_past}
use Rattle.base_core.specs.declared.Control.{Control}
use Rattle.base_core.specs.declared.Control.TheVariants.{Plain, Enabled, Triggered, Both}
use Rattle.base_core.specs.declared.Port.{Port}
use Rattle.base_core.specs.declared.Port.TheVariants.{Number, Enable, Trigger}
use Rattle.base_fixed_point.specs.declared.FixType.{FixType}
use Rattle.base_fixed_point.specs.Conversion.{InType}
use Rattle.diagram_activity.specs.declared.TrigMem.{TrigMem}
use Rattle.diagram_blocks.specs.declared.Kind.{Kind}
use Rattle.diagram_blocks.specs.declared.Kind.TheVariants.{SubSystem}
use Rattle.diagram_blocks.specs.Evaluation.{IsEvaluable}
use Rattle.diagram_blocks.specs.Value.{input}
use Rattle.diagram_meaning.specs.declared.table.Row.{Row}
use Rattle.diagram_meaning.specs.Rows.{row_at, no_row, control_at, is_enabled, is_triggered, is_inside, same_system, inports_of, enable_count, column, enable_among, trigger_among, system_control}
use Rattle.diagram_blocks.specs.Kinds.{control_of, is_inport, is_subsystem, port_of}
use Rattle.diagram_meaning.specs.Inputs.{control_wires_of, entering_wires}
use Rattle.base_core.specs.Ports.{control_ports}
use Rattle.base_core.specs.Numbers.{int_at}
use Rattle.diagram_meaning.specs.WellFormed.{wires_wanted}
use Rattle.diagram_meaning.specs.Diagram.{Diagram, type_at, op_at}
use Rattle.diagram_meaning.specs.ResolvedTree.{ResolvedTree, IsResolvedTree, diagram_of}
use Rattle.diagram_meaning.specs.Needs.{needs_of, HasNoLoop}
use Rattle.diagram_meaning.specs.Run.{value_at, first_of, input_values, IsTick}
use Rattle.diagram_meaning.specs.Laws.{Run, IsRunOver}
use Rattle.diagram_meaning.specs.RunLaws.{values_before, IsSystemWithin}
use Rattle.diagram_meaning.specs.SystemRuns.{SystemTick, IsRowOf, own_inputs, inputs_at, controls_at, system_tick}
use Rattle.diagram_meaning.specs.Traces.{input_type_of, IsTraceRow, IsTrace}
use Rattle.diagram_meaning.proofs.lemmas.ByRow.{length-by_row}
use Rattle.diagram_meaning.proofs.lemmas.Ports.{IsPorted, ported-at}
use Rattle.diagram_meaning.proofs.lemmas.EnteringWires.{as-many}
use Rattle.diagram_meaning.proofs.lemmas.RestsOnNeeds.{is_inport-equal, same_system-equal}
use Rattle.diagram_meaning.proofs.lemmas.FullMemories.{first-memories}
use Rattle.diagram_meaning.proofs.lemmas.SystemRuns.{first-triggers, inputs-are}
use Rattle.diagram_meaning.proofs.lemmas.TickLaws.{runs_have_ticks, own_rows_stand_in}
use Rattle.diagram_meaning.proofs.lemmas.Tick.{solution, solution-only, solution-keeps}
use Rattle.diagram_meaning.proofs.lemmas.Traces.{row-has}
use Rattle.diagram_typed_runs.specs.Traces.{HasInputs}
use Rattle.diagram_typed_runs.specs.Fitting.{EachFits, AreFit, AreInTypes, IsFit}
use Rattle.diagram_typed_runs.specs.TypedRuns.{IsSystem, IsTypedTick, TicksAreTyped}
use Rattle.diagram_typed_runs.proofs.lemmas.Evaluable.{inport-in, computable}
use Rattle.diagram_typed_runs.proofs.lemmas.Kept.{zero-fits, first-fit, values-fit, memories-fit, oldest-in}
use Rattle.diagram_typed_runs.proofs.lemmas.TraceRows.{trace-at}

-- ---- Lists side by side

-- what holds at each place holds of both lists
zip-places : (P : ℕ → ℤ → Type 0) (is : List ℕ) (vs : List ℤ) → length vs ≡ length is →
    ((k b : ℕ) → slice_get is k ≡ Some b → P b (int_at vs k)) → AllZip P is vs
zip-places P [] [] long each = tt
zip-places P [] (v ∷ vs) long each = absurd (omega (arith, long))
zip-places P (i ∷ is) [] long each = absurd (omega (arith, long))
zip-places P (i ∷ is) (v ∷ vs) long each = (each 0 i refl, zip-places P is vs (omega (arith, long)) (λ k b at. each (suc k) b at))

get-below : (is : List ℕ) (k b : ℕ) → slice_get is k ≡ Some b → k < length is
get-below [] k b e = absurd (let wrong : ⊥ = cc e in wrong)
get-below (i ∷ is) zero b e = omega arith
get-below (i ∷ is) (suc k) b e = let rest = get-below is k b e in omega arith

-- what holds of each port and its number holds of those after the first ones
zip-behind : (P : Port → ℤ → Type 0) (a n : ℕ) (controls : List Port) (x : List ℤ) →
    AllZip P (map Number (range_with_len a n) ++ controls) x →
    (k : ℕ) (p : Port) → slice_get controls k ≡ Some p → P p (value_at x (n + k))
zip-behind P a zero [] x h k p at = absurd (let wrong : ⊥ = cc at in wrong)
zip-behind P a zero (q ∷ controls) [] h k p at = absurd h
zip-behind P a zero (q ∷ controls) (v ∷ x) h zero p at = let same : q ≡ p = cc at in subst (λ z. P z v) same h.0
zip-behind P a zero (q ∷ controls) (v ∷ x) h (suc k) p at =
    let same : suc (0 + k) ≡ 0 + suc k =
    omega arith in subst (λ j. P p (value_at (v ∷ x) j)) same (zip-behind P a zero controls x h.1 k p at)
zip-behind P a (suc n) controls [] h k p at = absurd h
zip-behind P a (suc n) controls (v ∷ x) h k p at =
    let same : suc (n + k) ≡ suc n + k =
    omega arith in subst (λ j. P p (value_at (v ∷ x) j)) same (zip-behind P (a + 1) n controls x h.1 k p at)

-- the controls of a system lie in the types of the wires that they have
controls-typed : (type : ℕ → FixType) (past : ℕ) (c : Control) (wires : List ℕ) (o : Option ℕ) (at : Port → ℤ) →
    length wires ≡ wires_wanted (SubSystem c) o →
    (is_enabled c ≡ true → InType (type (unwrap_or (enable_among c wires) past)) (at Enable)) →
    (is_triggered c ≡ true → InType (type (unwrap_or (trigger_among c wires) past)) (at Trigger)) →
    AllZip (λ w v. InType (type w) v) wires (map at (control_ports c))
controls-typed type past Plain [] o at long en ev = tt
controls-typed type past Plain (w ∷ wires) o at long en ev = absurd (omega (arith, long))
controls-typed type past (Enabled reset) [] o at long en ev = absurd (omega (arith, long))
controls-typed type past (Enabled reset) (w ∷ []) o at long en ev = (en refl, tt)
controls-typed type past (Enabled reset) (w ∷ u ∷ wires) o at long en ev = absurd (omega (arith, long))
controls-typed type past (Triggered edge) [] o at long en ev = absurd (omega (arith, long))
controls-typed type past (Triggered edge) (w ∷ []) o at long en ev = (ev refl, tt)
controls-typed type past (Triggered edge) (w ∷ u ∷ wires) o at long en ev = absurd (omega (arith, long))
controls-typed type past (Both reset edge) [] o at long en ev = absurd (omega (arith, long))
controls-typed type past (Both reset edge) (w ∷ []) o at long en ev = absurd (omega (arith, long))
controls-typed type past (Both reset edge) (w ∷ u ∷ []) o at long en ev = (en refl, (ev refl, tt))
controls-typed type past (Both reset edge) (w ∷ u ∷ z ∷ wires) o at long en ev = absurd (omega (arith, long))

-- what a list of numbers and controls gives for an enable and for a trigger
module _ (P : Port → ℤ → Type 0) (n : ℕ) (x : List ℤ) where
  enable-typed : (c : Control) → AllZip P (map Number (range_with_len 1 n) ++ control_ports c) x → is_enabled c ≡ true →
      P Enable (value_at x n)
  enable-typed Plain h en = absurd (true≢false (sym en))
  enable-typed (Enabled reset) h en = let same : n + 0 ≡ n = omega arith in
      subst (λ k. P Enable (value_at x k)) same (zip-behind P 1 n (Enable ∷ []) x h 0 Enable refl)
  enable-typed (Triggered edge) h en = absurd (true≢false (sym en))
  enable-typed (Both reset edge) h en = let same : n + 0 ≡ n = omega arith in
      subst (λ k. P Enable (value_at x k)) same (zip-behind P 1 n (Enable ∷ Trigger ∷ []) x h 0 Enable refl)

  trigger-typed : (c : Control) → AllZip P (map Number (range_with_len 1 n) ++ control_ports c) x →
      is_triggered c ≡ true → P Trigger (value_at x (n + enable_count c))
  trigger-typed Plain h tr = absurd (true≢false (sym tr))
  trigger-typed (Enabled reset) h tr = absurd (true≢false (sym tr))
  trigger-typed (Triggered edge) h tr = zip-behind P 1 n (Trigger ∷ []) x h 0 Trigger refl
  trigger-typed (Both reset edge) h tr = zip-behind P 1 n (Enable ∷ Trigger ∷ []) x h 1 Trigger refl

subsystem-kind : (kind : Kind) → is_subsystem kind ≡ true → kind ≡ SubSystem (control_of kind)
subsystem-kind (SubSystem control) e = refl
subsystem-kind _ e = absurd (true≢false (sym e))

subsystem-inside : (rows : List Row) (e : ℕ) → is_subsystem (row_at rows e).kind ≡ true → e < length rows
subsystem-inside rows e h = elim (dec_lt e (length rows)) [
  | yes inside ↦ inside
  | no past ↦ absurd (true≢false (sym h ∙ ap (λ (row : Row). is_subsystem row.kind) (get_or_past rows e no_row (omega arith))))
]

-- ---- Ticks of a run

module _ (r : ResolvedTree) (resolved : IsResolvedTree r) (s : Option ℕ) (xs : List (List ℤ)) (run : Run)
    (is : IsRunOver (diagram_of r) s xs run) (trace : IsTrace (diagram_of r) s xs) (none : HasNoLoop (needs_of (diagram_of r))) where
  abbrev d : Diagram
  d = diagram_of r

  abbrev rows : List Row
  rows = r.tree.table.rows

  has-inputs : (t : ℕ) → t < length xs → HasInputs d s (slice_index_or xs t [])
  has-inputs t below port b row =
      row-has d s (resolved.tree.table.inports s) (slice_index_or xs t []) (trace-at d s xs trace t below) port b row

  abbrev before_fits : ℕ → Type 0
  before_fits t = IsFit d (values_before d s run t) (slice_index_or run.memories t []) (slice_index_or run.triggers t [])

  tick-at : (t : ℕ) → t < length xs →
      IsTick d s t (slice_index_or xs t []) (values_before d s run t) (slice_index_or run.memories t [])
      (slice_index_or run.triggers t [])
      (slice_index_or run.values t []) (slice_index_or run.memories (suc t) []) (slice_index_or run.triggers (suc t) [])
  tick-at t below = runs_have_ticks d s xs run t is below

  -- the values of a tick fit where what is before it does
  values-at : (t : ℕ) (below : t < length xs) → before_fits t → AreFit d (slice_index_or run.values t [])
  values-at t below fit =
      let x = slice_index_or xs t [] in
      let before = values_before d s run t in
      let m = slice_index_or run.memories t [] in
      let g = slice_index_or run.triggers t [] in
      let v = slice_index_or run.values t [] in
      let tick = tick-at t below in
      let solves : v ≡ solution d s t x before m g = solution-only d s t x before m g none v tick.values in
      let fits : EachFits d (solution d s t x before m g) = solution-keeps d s t x before m g (EachFits d) (λ b. zero-fits d b)
      (λ w each. (values-fit r resolved s t x before m w g (has-inputs t below) fit each).each) in
      subst (AreFit d) (sym tick.values)
      (values-fit r resolved s t x before m v g (has-inputs t below) fit (subst (EachFits d) (sym solves) fits))

  memories-at : (t : ℕ) (below : t < length xs) → before_fits t → AreInTypes d (slice_index_or run.memories (suc t) [])
  memories-at t below fit =
      let tick = tick-at t below in
      subst (AreInTypes d) (sym tick.memories)
      (memories-fit r resolved s t (slice_index_or xs t []) (values_before d s run t) (slice_index_or run.memories t [])
      (slice_index_or run.values t [])
      (slice_index_or run.triggers t []) (has-inputs t below) fit (values-at t below fit).each)

  before-at : (t : ℕ) → t ≤ length xs → before_fits t
  before-at zero low =
      let first = first-fit r resolved s in record {
        values = first.values;
        memories = subst (AreInTypes d) (sym (first-memories d s xs run.values run.memories run.triggers is)) first.memories;
        triggers =
            ap (λ (l : List TrigMem). length l)
            (first-triggers r resolved s xs run is run.values run.memories run.triggers is) ∙ length-by_row rows _;
      }
  before-at (suc t) low =
      let fit = before-at t (omega arith) in record {
        values = values-at t (omega arith) fit;
        memories = memories-at t (omega arith) fit;
        triggers = ap (λ (l : List TrigMem). length l) (tick-at t (omega arith)).triggers ∙ length-by_row rows _;
      }

  -- ---- The rows of one system

  module _ (n : Option ℕ) (system : IsSystem rows n) (within : IsSystemWithin rows s n) (t : ℕ) (below : t < length xs) where
    abbrev x : List ℤ
    x = slice_index_or xs t []

    abbrev v : List ℤ
    v = slice_index_or run.values t []

    abbrev tick : SystemTick
    tick = system_tick d s xs run n t

    fit : before_fits t
    fit = before-at t (omega arith)

    now : AreFit d v
    now = values-at t below fit

    stands : (b : ℕ) → IsRowOf rows n b → is_inside rows s b ≡ true
    stands b row =
        (own_rows_stand_in rows s n b resolved.tree.table.nested
        (record { in_table = row.in_table; own = row.own; within = within })).is_inside

    read-is : (b : ℕ) → IsRowOf rows n b → input_values d s x v [] b ≡ own_inputs d n tick b
    read-is b row = inputs-are r resolved s xs run is n within t b row

    evaluable : (b : ℕ) → IsRowOf rows n b → IsEvaluable (op_at d b) (own_inputs d n tick b) (first_of (tick.memory b))
    evaluable b row =
        subst (λ vs. IsEvaluable (op_at d b) vs (first_of (tick.memory b))) (read-is b row)
        (computable r resolved b row.in_table s (stands b row) x v (has-inputs t below) now.each (first_of (tick.memory b))
        (oldest-in (type_at r.types b) (tick.memory b) (fit.memories.each b)))

    -- an own Inport has its number in its type
    input-typed : (k b : ℕ) → slice_get (inports_of rows n) k ≡ Some b → InType (type_at r.types b) (int_at (inputs_at d s xs run n t) k)
    input-typed k b at =
        let found = ported-at rows is_inport n (resolved.tree.table.inports n) k (get-below (inports_of rows n) k b at) in
        let same : found.0 ≡ b = cc (sym found.1 ∙ at) in
        by found.0 same found.2 found.3
      where
        by : (c : ℕ) → c ≡ b → IsPorted rows is_inport n (resolved.tree.table.inports n) c → port_of (row_at rows c).kind ≡ suc k →
            InType (type_at r.types b) (int_at (inputs_at d s xs run n t) k)
        by c same ported port_is =
            let row : IsRowOf rows n c = record { in_table = ported.in_table; own = ported.is_own } in
            let kind = is_inport-equal (row_at rows c).kind ported.passing in
            let first =
            (inport-in r resolved c row.in_table s (stands c row) x v (has-inputs t below) now.each
            (port_of (row_at rows c).kind) kind).1 in
            let place : port_of (row_at rows c).kind - 1 ≡ k = omega (arith, port_is) in
            let read : own_inputs d n tick c ≡ int_at (inputs_at d s xs run n t) k ∷ [] =
            ap (λ q. if q then int_at (inputs_at d s xs run n t) (port_of (row_at rows c).kind - 1) ∷ []
            else map (value_at v) (row_at rows c).inputs) ported.passing
            ∙ ap (λ j. int_at (inputs_at d s xs run n t) j ∷ []) place in
            subst (λ i. InType (type_at r.types i) (int_at (inputs_at d s xs run n t) k)) same
            (subst (λ vs. InType (type_at r.types c) (input vs 0)) (read-is c row ∙ read) first)

    inputs-long : length (inputs_at d s xs run n t) ≡ length (inports_of rows n)
    inputs-long = by (same_system s n) refl
      where
        entered : (o : Option ℕ) → IsSystemWithin rows s o → same_system s o ≡ false →
            length (entering_wires rows o) ≡ length (inports_of rows o)
        entered None inside other = absurd (true≢false (sym (ap (λ q. same_system q None) inside) ∙ other))
        entered (Some e) inside other = as-many rows resolved.tree.table.wired e (resolved.tree.table.inports (Some e))

        by : (here : Bool) → same_system s n ≡ here → length (if here
            then map (λ k. value_at x (column rows n (Number k))) (range_with_len 1 (length (inports_of rows n)))
            else map (value_at v) (entering_wires rows n)) ≡ length (inports_of rows n)
        by true h = length-map-range_with_len (λ k. value_at x (column rows n (Number k))) 1 (length (inports_of rows n))
        by false h = length-map (entering_wires rows n) (value_at v) ∙ entered n within h

    controls-in : AllZip (λ c w. InType (type_at r.types c) w) (control_wires_of rows n) (controls_at d s xs run n t)
    controls-in = by (same_system s n) refl
      where
        like-wires : (ws : List ℕ) → AllZip (λ c w. InType (type_at r.types c) w) ws (map (value_at v) ws)
        like-wires [] = tt
        like-wires (c ∷ ws) = ((now.each c).in_type, like-wires ws)

        of-trace : (o : Option ℕ) → IsSystem rows o → IsTraceRow d o x →
            AllZip (λ c w. InType (type_at r.types c) w) (control_wires_of rows o)
            (map (λ p. value_at x (column rows o p)) (control_ports (system_control rows o)))
        of-trace None system row = tt
        of-trace (Some e) system row =
            let count = resolved.tree.table.wired.counts e (subsystem-inside rows e system)
            ∙ ap (λ kind. wires_wanted kind (row_at rows e).owner) (subsystem-kind (row_at rows e).kind system) in
            controls-typed (type_at r.types) (length rows) (control_at rows e) (row_at rows e).inputs
            (row_at rows e).owner (λ p. value_at x (column rows (Some e) p)) count
            (λ en. enable-typed (λ p w. InType (input_type_of d (Some e) p) w) (length (inports_of rows (Some e))) x
            (control_at rows e) row en)
            (λ tr. trigger-typed (λ p w. InType (input_type_of d (Some e) p) w) (length (inports_of rows (Some e))) x
            (control_at rows e) row tr)

        by : (here : Bool) → same_system s n ≡ here → AllZip (λ c w. InType (type_at r.types c) w) (control_wires_of rows n)
            (if here then map (λ p. value_at x (column rows n p)) (control_ports (system_control rows n))
            else map (value_at v) (control_wires_of rows n))
        by true h = of-trace n system (subst (λ o. IsTraceRow d o x) (same_system-equal s n h) (trace-at d s xs trace t below))
        by false h = like-wires (control_wires_of rows n)

    pub typed : IsTypedTick d n tick
    typed = record {
      inputs = zip-places (λ i w. InType (type_at r.types i) w) (inports_of rows n) (inputs_at d s xs run n t) inputs-long input-typed;
      controls = controls-in;
      before = λ b row. (fit.values.each b).in_type;
      values = λ b row. (now.each b).in_type;
      memories = λ b row. fit.memories.each b;
      memories_after = λ b row. (memories-at t below fit).each b;
      evaluable = evaluable;
    }

pub ticks_are_typed : TicksAreTyped
ticks_are_typed r s n xs run t resolved system within is trace none below = typed r resolved s xs run is trace none n system within t below
