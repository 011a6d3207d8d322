-- Each row can be computed from values and a memory that fit, and what it computes fits.
use Rattle.std.specs.Prelude.{◌≡◌, ℕ, zero, suc, ◌-◌, ◌<◌, Bool, true, false, ◌&&◌, if◌then◌else◌, List, [], ◌∷◌, map, length, slice_index_or, Option, Some, None, ℤ}
use Rattle.std.specs.List.{AllZip, list_any}
use Rattle.std.proofs.Common.{refl, sym, ◌∙◌, ap, subst, arith, inl, inr, true≢false}
use Rattle.base_core.specs.declared.Decimal.{Decimal}
use Rattle.base_core.specs.declared.TimeText.{TimeText}
use Rattle.base_fixed_point.specs.declared.FixType.{FixType}
use Rattle.base_fixed_point.specs.Conversion.{InType}
use Rattle.diagram_blocks.specs.declared.Kind.{Kind}
use Rattle.diagram_blocks.specs.declared.Kind.TheVariants.{Inport, Outport, Gain, Sum, Product, UnitDelay, Delay, ZeroOrderHold, Switch, Relational, Logic, Convert, RateTransition}
use Rattle.diagram_blocks.specs.declared.Op.{Op}
use Rattle.diagram_blocks.specs.declared.Op.TheVariants.{Nothing}
use Rattle.diagram_blocks.specs.Value.{rhs, input}
use Rattle.diagram_blocks.specs.Meaning.{op_of}
use Rattle.diagram_blocks.specs.Evaluation.{PassesInType, ReadsInTypes, IsEvaluable}
use Rattle.diagram_blocks.proofs.lemmas.InType.{values_stay_in_type}
use Rattle.diagram_meaning.specs.declared.table.Row.{Row}
use Rattle.diagram_meaning.specs.Rows.{row_at, is_inside, is_system, same_system, outward, enclosing}
use Rattle.diagram_blocks.specs.Kinds.{is_inport, port_of, is_delay}
use Rattle.diagram_meaning.specs.ResolvedTree.{ResolvedTree, IsResolvedTree, diagram_of}
use Rattle.diagram_meaning.specs.WellFormed.{wires_wanted}
use Rattle.diagram_meaning.specs.Diagram.{Diagram, type_at, op_at, op_in}
use Rattle.diagram_meaning.specs.Run.{value_at, input_values}
use Rattle.diagram_meaning.proofs.lemmas.ByRow.{by_row-at}
use Rattle.diagram_meaning.proofs.lemmas.Resolving.{has_types, within_limits}
use Rattle.diagram_meaning.proofs.lemmas.Accepted.{rows_are_narrow}
use Rattle.diagram_meaning.proofs.lemmas.RestsOnNeeds.{same_system-equal}
use Rattle.diagram_typed_runs.specs.Traces.{HasInputs}
use Rattle.diagram_typed_runs.specs.Fitting.{FitsRow, EachFits}
use Rattle.diagram_typed_runs.proofs.lemmas.Copied.{PassesOn, passed, passes-on}

-- numbers that wires read lie in the wires' types
pub wires-in : (d : Diagram) (v : List ℤ) → EachFits d v → (ws : List ℕ) → AllZip InType (map (type_at d.types) ws) (map (value_at v) ws)
wires-in d v fit [] = tt
wires-in d v fit (c ∷ ws) = ((fit c).in_type, wires-in d v fit ws)

-- a row of the root is not inside another system
none-outward : (rows : List Row) (n : ℕ) → outward rows None n None ≡ []
none-outward rows zero = refl
none-outward rows (suc n) = refl

not-inside : (rows : List Row) (b : ℕ) → (row_at rows b).owner ≡ None → (s : Option ℕ) → same_system None s ≡ false →
    is_inside rows s b ≡ true → ⊥
not-inside rows b own None apart stands = true≢false apart
not-inside rows b own (Some k) apart stands =
    true≢false (sym stands ∙ ap (λ o. list_any (is_system (Some k)) (enclosing rows None o)) own
    ∙ ap (list_any (is_system (Some k))) (none-outward rows (length rows)))

-- over a row of a resolved tree
module _ (r : ResolvedTree) (is : IsResolvedTree r) (b : ℕ) (inside : b < length r.tree.table.rows) where
  abbrev own_kind : Kind
  own_kind = (row_at r.tree.table.rows b).kind

  abbrev own_types : List FixType
  own_types = map (type_at r.types) (row_at r.tree.table.rows b).inputs

  abbrev own_type : FixType
  own_type = type_at r.types b

  abbrev own_delays : Bool
  own_delays = slice_index_or r.times.delays b false

  pub op-is : op_at (diagram_of r) b ≡ op_of own_kind own_types own_type own_delays
  op-is = ap (λ (ops : List Op). slice_index_or ops b Nothing) is.resolved.are_ops
      ∙ by_row-at r.tree.table.rows (op_in r.tree.table.rows r.types r.times.delays) b Nothing inside

  module _ (s : Option ℕ) (stands : is_inside r.tree.table.rows s b ≡ true) (x v : List ℤ)
      (has : HasInputs (diagram_of r) s x) (fit : EachFits (diagram_of r) v) where
    abbrev own_inputs : List ℤ
    own_inputs = input_values (diagram_of r) s x v [] b

    abbrev wire_inputs : List ℤ
    wire_inputs = map (value_at v) (row_at r.tree.table.rows b).inputs

    -- all but an Inport of the system read their wires
    from-wires : is_inport own_kind ≡ false → own_inputs ≡ wire_inputs
    from-wires e i = if (e i && same_system (row_at r.tree.table.rows b).owner s) then value_at x (port_of own_kind - 1)
        ∷ [] else wire_inputs

    -- a row that reads one number, in its own type
    abbrev FirstIn : List ℤ → Type 0
    FirstIn vs = (0 < length vs) × InType own_type (input vs 0)

    from-wire : is_inport own_kind ≡ false → PassesOn r.tree.table.rows b → FirstIn own_inputs
    from-wire e on = subst FirstIn (sym (from-wires e)) (passed r is b inside on v fit)

    pub inport-in : (port : ℕ) → own_kind ≡ Inport port → FirstIn own_inputs
    inport-in port e = by (same_system (row_at r.tree.table.rows b).owner s) refl
      where
        from-owner : (o : Option ℕ) → (row_at r.tree.table.rows b).owner ≡ o → same_system o s ≡ false → FirstIn wire_inputs
        from-owner None own apart = absurd (not-inside r.tree.table.rows b own s apart stands)
        from-owner (Some f) own apart =
            passed r is b inside
            (passes-on r is b (Inport port) inside e refl refl (λ text. inr refl) (ap (wires_wanted (Inport port)) own))
            v fit

        by : (here : Bool) → same_system (row_at r.tree.table.rows b).owner s ≡ here → FirstIn own_inputs
        by true here =
            let given : own_inputs ≡ value_at x (port - 1) ∷ [] =
            λ i. if (is_inport (e i) && here i) then value_at x (port_of (e i) - 1) ∷ [] else wire_inputs in
            let own = same_system-equal (row_at r.tree.table.rows b).owner s here in
            subst FirstIn (sym given) (omega arith, (has port b (record { in_table = inside; is_inport = e; is_own = own })).1)
        by false here =
            let given : own_inputs ≡ wire_inputs =
            λ i. if (is_inport (e i) && here i) then value_at x (port_of own_kind - 1) ∷ [] else wire_inputs in
            subst FirstIn (sym given) (from-owner (row_at r.tree.table.rows b).owner refl here)

    own-in : (kind : Kind) → own_kind ≡ kind → is_inport kind ≡ false → PassesOn r.tree.table.rows b → FirstIn own_inputs
    own-in kind e out on = from-wire (ap is_inport e ∙ out) on

    outport-in : (port : ℕ) (reset : Bool) (initial : Decimal) → own_kind ≡ Outport port reset initial → FirstIn own_inputs
    outport-in port reset initial e =
        own-in (Outport port reset initial) e refl
        (passes-on r is b (Outport port reset initial) inside e refl refl (λ text. inr refl) refl)

    delay-in : (initial : Decimal) → own_kind ≡ UnitDelay initial → FirstIn own_inputs
    delay-in initial e = own-in (UnitDelay initial) e refl (passes-on r is b (UnitDelay initial) inside e refl refl (λ text. inl text) refl)

    line-in : (length : ℕ) (initial : Decimal) → own_kind ≡ Delay length initial → FirstIn own_inputs
    line-in length initial e =
        own-in (Delay length initial) e refl
        (passes-on r is b (Delay length initial) inside e refl refl (λ text. inl text) refl)

    hold-in : own_kind ≡ ZeroOrderHold → FirstIn own_inputs
    hold-in e = own-in ZeroOrderHold e refl (passes-on r is b ZeroOrderHold inside e refl refl (λ text. inl text) refl)

    transition-in : (initial : Decimal) (out : TimeText) → own_kind ≡ RateTransition initial out → FirstIn own_inputs
    transition-in initial out e =
        own-in (RateTransition initial out) e refl
        (passes-on r is b (RateTransition initial out) inside e refl refl (λ text. inl text) refl)

    -- what an operation passes on lies in the row's type
    passes : (kind : Kind) → own_kind ≡ kind → (delays : Bool) (memory : ℤ) → InType own_type memory →
        PassesInType (op_of kind own_types own_type delays) own_type own_inputs memory
    passes (Inport port) e delays memory h = inport-in port e
    passes (Outport port reset initial) e delays memory h = outport-in port reset initial e
    passes (UnitDelay initial) e delays memory h = h
    passes (Delay length initial) e delays memory h = h
    passes ZeroOrderHold e delays memory h = hold-in e
    passes (RateTransition initial out) e true memory h = h
    passes (RateTransition initial out) e false memory h = transition-in initial out e
    passes _ e delays memory h = tt

    -- what a delay takes lies in the row's type
    taken-in : (kind : Kind) → own_kind ≡ kind → (delays : Bool) →
        is_delay (op_of kind own_types own_type delays) ≡ true → InType own_type (input own_inputs 0)
    taken-in (UnitDelay initial) e delays h = (delay-in initial e).1
    taken-in (Delay length initial) e delays h = (line-in length initial e).1
    taken-in (RateTransition initial out) e true h = (transition-in initial out e).1
    taken-in (RateTransition initial out) e false h = absurd (true≢false (sym h))
    taken-in _ e delays h = absurd (true≢false (sym h))

    -- a row that is computed reads its wires
    all-in : (kind : Kind) → own_kind ≡ kind → is_inport kind ≡ false → AllZip InType own_types own_inputs
    all-in kind e out =
        subst (AllZip InType own_types) (sym (from-wires (ap is_inport e ∙ out)))
        (wires-in (diagram_of r) v fit (row_at r.tree.table.rows b).inputs)

    reads : (kind : Kind) → own_kind ≡ kind → ReadsInTypes kind own_types own_inputs
    reads (Gain gain how) e = all-in (Gain gain how) e refl
    reads (Sum count minus how) e = all-in (Sum count minus how) e refl
    reads (Product count how) e = all-in (Product count how) e refl
    reads (Switch criterion threshold how) e = all-in (Switch criterion threshold how) e refl
    reads (Relational compare) e = all-in (Relational compare) e refl
    reads (Logic op count) e = all-in (Logic op count) e refl
    reads (Convert how) e = all-in (Convert how) e refl
    reads _ e = tt

    -- the row can be computed
    pub computable : (memory : ℤ) → InType own_type memory → IsEvaluable (op_at (diagram_of r) b) own_inputs memory
    computable memory h = record {
      kind = own_kind;
      types = own_types;
      out = own_type;
      delays = own_delays;
      is_op = op-is;
      within_limits = within_limits r.tree.table b is.tree.table inside;
      has_types = has_types r.tree.table r.types b is.tree.table inside;
      narrow = rows_are_narrow r.tree.table r.types r.ops r.times b is.resolved inside;
      reads = reads own_kind refl;
      passes = subst (λ op. PassesInType op own_type own_inputs memory) (sym op-is) (passes own_kind refl own_delays memory h);
    }

    -- and what it computes fits
    pub computed-fits : (memory : ℤ) → InType own_type memory → FitsRow (diagram_of r) b (rhs (op_at (diagram_of r) b) own_inputs memory)
    computed-fits memory h = record {
      in_type =
          subst (λ op. InType own_type (rhs op own_inputs memory)) (sym op-is)
          (values_stay_in_type own_kind own_types own_type own_delays own_inputs memory
          (passes own_kind refl own_delays memory h));
      ground = λ e. ap (λ op. rhs op own_inputs memory) (op-is ∙ ap (λ kind. op_of kind own_types own_type own_delays) e);
    }

    -- what a delay takes can be its memory
    pub taken-fits : is_delay (op_at (diagram_of r) b) ≡ true → InType own_type (input own_inputs 0)
    taken-fits e = taken-in own_kind refl own_delays (ap is_delay (sym op-is) ∙ e)
