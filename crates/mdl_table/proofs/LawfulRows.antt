-- The rows of a tree that isn't refused are lawful, and so is its step.
use Rattle.std.proofs.Common.{◌≡◌, refl, sym, ◌∙◌, ap, subst, ℕ, suc, ◌<◌, ◌≤◌, ◌^◌, nat_le, Bool, true, false, not, ◌&&◌, cond, true≢false, List, [], ◌∷◌, Option, None, Some, codes, leb-true, mul-one, pos, negsuc, neg_ℤ, ◌*ℤ◌, ℤ}
use Rattle.std.specs.Prelude.{◌==◌, option_and_then, Ok, Err}
use Rattle.std.specs.List.{AllByRecursion, AllZip}
use Rattle.std.specs.Option.{option_or}
use Rattle.std.specs.Result.{result_ok}
use Rattle.std.proofs.Math.IntN.{pos-*ℤ-pos, negsuc-*ℤ-pos}
use Rattle.base_numerals.specs.Literals.{Ratio, ratio_of, parts_of, frac_parts}
use Rattle.base_core.specs.declared.NumFault.TheVariants.{Range}
use Rattle.base_core.specs.declared.Control.{Control}
use Rattle.base_core.specs.declared.Decimal.{Decimal}
use Rattle.base_core.specs.declared.Frac.{Frac}
use Rattle.base_core.specs.declared.TimeText.{TimeText}
use Rattle.base_core.specs.declared.TimeText.TheVariants as time
use Rattle.base_fixed_point.specs.declared.TypeText.{TypeText}
use Rattle.base_fixed_point.specs.declared.TypeText.TheVariants as type
use Rattle.base_fixed_point.specs.Conversion.{fits_32}
use Rattle.base_fixed_point.specs.Rounding.{nearest}
use Rattle.mdl_type_texts.specs.TypeTexts.{meaning_of}
use Rattle.mdl_type_texts.specs.TypeTexts as meaning
use Rattle.diagram_blocks.specs.declared.Kind.{Kind}
use Rattle.diagram_meaning.specs.declared.table.Row.{Row}
use Rattle.diagram_meaning.specs.WellFormed.{IsRow, IsGain, IsGainNumber, IsTypeTextOf, IsTimeTextOf, IsTruthValue, IsConstantType, IsIntegerType, IsInheritedOrEach, IsAnyTime, IsStep}
use Rattle.diagram_meaning.specs.WellFormed as lawful
use Rattle.mdl_tree.specs.Spelling.{Items}
use Rattle.mdl_params.specs.Forms.{number_form}
use Rattle.mdl_params.specs.Times.{time_of}
use Rattle.mdl_params.specs.Times as form
use Rattle.mdl_blocks.specs.declared.fault.Fault.{Fault}
use Rattle.mdl_blocks.specs.declared.fault.Fault.TheVariants.{Continuous, FloatType}
use Rattle.mdl_blocks.specs.Meanings.{TypeSaid, known_type, float_type, TimeSaid, known_time, zero_time, ConstantSaid}
use Rattle.mdl_blocks.specs.Blocks.{BodyText, KindText, inport, outport, subsystem, constant, ground, terminator, gain, sum, product, unit_delay, delay, zero_order_hold, switch, relational, logic, convert, rate_transition, enable_port, trigger_port, untyped, untimed}
use Rattle.mdl_blocks.specs.Rows.{gain_with}
use Rattle.mdl_rows.specs.Models.{Block, Model, kind_of, model_with}
use Rattle.mdl_rows.specs.Interiors.{control_of}
use Rattle.mdl_rows.specs.RowTexts.{IsKind, IsType, IsTime, is_zero, is_float, is_inherited, has_zero_output, has_float_parameter, zero_fault, float_fault, row_fault}
use Rattle.mdl_rows.specs.Refusals.{defaults_of}
use Rattle.mdl_rows.specs.Tables.{IsRowOf}
use Rattle.mdl_table.specs.Steps.{first_outside_system, positive_parts, IsStepOf}
use Rattle.mdl_table.specs.Laws.{TreeRowsAreLawful}
use Rattle.mdl_table.proofs.TimeValues.{above-zero}
use Rattle.mdl_table.proofs.SaidValues.{none-some, some-same, IsWhole, IsTruthRatio, IsSoundTime, IsVaryingTime}
use Rattle.mdl_table.proofs.SaidBodies.{IsSoundKind, IsTypeFor, IsTimeFor}
use Rattle.mdl_table.proofs.lemmas.RowBlocks.{some-none, IsGood, has-model, table-of}

-- ---- Errors

-- no period 0 and no floating-point type is written
pub record IsFaultless (b : BodyText) : Type 0 where
  pub time : is_zero b.time_text ≡ false
  pub output : has_zero_output b.kind ≡ false
  pub type : is_float b.type_text ≡ false
  pub parameter : has_float_parameter b.type_text b.kind ≡ false

no-fault : (a b : Bool) (own : Fault) →
    (let found : Option Fault = elim a [ true ↦ Some own | false ↦ cond b (Some own) None ] in found) ≡ None → (a ≡ false) × (b ≡ false)
no-fault true b own e = absurd (some-none own e)
no-fault false true own e = absurd (some-none own e)
no-fault false false own e = (refl, refl)

or-none : (first rest : Option Fault) → option_or first rest ≡ None → (first ≡ None) × (rest ≡ None)
or-none None rest e = (refl, e)
or-none (Some own) rest e = absurd (some-none own e)

pub faultless : (b : BodyText) → row_fault b ≡ None → IsFaultless b
faultless b e =
    let both = or-none (zero_fault b) (float_fault b) e in
    let zero = no-fault (is_zero b.time_text) (has_zero_output b.kind) Continuous both.0 in
    let float = no-fault (is_float b.type_text) (has_float_parameter b.type_text b.kind) FloatType both.1 in
    record { time = zero.0; output = zero.1; type = float.0; parameter = float.1 }

-- ---- Kinds

times_one : (n : ℤ) → n *ℤ pos 1 ≡ n
times_one (pos n) = pos-*ℤ-pos n 1 ∙ ap pos (mul-one n)
times_one (negsuc n) = negsuc-*ℤ-pos n 1 ∙ ap (λ k. neg_ℤ (pos k)) (mul-one (suc n))

gain-fits : (factor : Ratio) (d : Decimal) → fits_32 (nearest factor.num factor.den) ≡ true → ratio_of d ≡ factor → IsGainNumber d
gain-fits factor d fits e =
    ap (λ n. fits_32 (nearest n d.den)) (times_one d.num) ∙ ap (λ (r : Ratio). fits_32 (nearest r.num r.den)) e ∙ fits

is-gain : (d : Decimal) (t : TypeText) → IsGainNumber d → IsGain (gain_with d t)
is-gain d type.Inherit h = h
is-gain d type.Logical h = h
is-gain d type.Back h = h
is-gain d (type.Fixed t) h = h

-- a time that isn't constant is inherited or each period
varying : (said : TimeSaid) (t : TimeText) → IsVaryingTime said → IsTime said t → IsInheritedOrEach t
varying (known_time meaning) t is e = by t (subst (λ m. IsVaryingTime (known_time m)) (sym e) is)
  where
    by : (t : TimeText) → IsVaryingTime (known_time (time_of t)) → IsInheritedOrEach t
    by time.Inherit is = tt
    by time.Constant is = absurd is.1
    by (time.Each period offset) is = record { period_limits = is.0.0; offset_limits = is.0.1; below = is.0.2 }
varying zero_time t is e = absurd e

any-time : (said : TimeSaid) (t : TimeText) → IsSoundTime said → IsTime said t → IsAnyTime t
any-time (known_time meaning) t is e = by t (subst (λ m. IsSoundTime (known_time m)) (sym e) is)
  where
    by : (t : TimeText) → IsSoundTime (known_time (time_of t)) → IsAnyTime t
    by time.Inherit is = tt
    by time.Constant is = tt
    by (time.Each period offset) is = record { period_limits = is.0; offset_limits = is.1; below = is.2 }
any-time zero_time t is e = absurd e

-- the kind of a row is lawful
kind-lawful : (text : KindText) (c : Control) (k : Kind) → IsSoundKind text → IsKind text c k → lawful.IsKind k
kind-lawful (outport port reset initial) c k s h = subst lawful.IsKind (sym h.2) tt
kind-lawful (constant said) c k s h = subst lawful.IsKind (sym h.2) tt
kind-lawful (gain factor factor_type how) c k s h = subst lawful.IsKind (sym h.4) (is-gain h.0 h.1 (gain-fits factor h.0 s.0.1 h.2))
kind-lawful (sum count minus how) c k s h = subst lawful.IsKind (sym h) s
kind-lawful (product count how) c k s h = subst lawful.IsKind (sym h) s
kind-lawful (unit_delay initial) c k s h = subst lawful.IsKind (sym h.2) tt
kind-lawful (delay length initial) c k s h = subst lawful.IsKind (sym h.2) s.0
kind-lawful (switch criterion threshold how) c k s h = subst lawful.IsKind (sym h.2) tt
kind-lawful (logic op count) c k s h = subst lawful.IsKind (sym h) s
kind-lawful (rate_transition initial out) c k s h = subst lawful.IsKind (sym h.4) (varying out h.1 s.1 h.3)
kind-lawful _ c k s h = subst lawful.IsKind (sym h) tt

-- ---- Types

means-inherit : (t : TypeText) → meaning_of t ≡ meaning.Inherit → t ≡ type.Inherit
means-inherit type.Inherit e = refl
means-inherit type.Logical e = cc e
means-inherit type.Back e = cc e
means-inherit (type.Fixed t) e = cc e

-- a type that isn't a block's own is inherited
inherits : (said : TypeSaid) (t : TypeText) → said ≡ untyped → IsType said t → t ≡ type.Inherit
inherits said t e h = means-inherit t (subst (λ s. IsType s t) e h)

whole : (said : TypeSaid) (t : TypeText) → IsWhole said → IsType said t → IsIntegerType t
whole (known_type meaning) t is e = by t (subst (λ m. IsWhole (known_type m)) (sym e) is)
  where
    by : (t : TypeText) → IsWhole (known_type (meaning_of t)) → IsIntegerType t
    by type.Inherit is = tt
    by type.Logical is = tt
    by type.Back is = tt
    by (type.Fixed t) is = is
whole float_type t is e = absurd e

not-false : (t : Bool) → not t ≡ false → t ≡ true
not-false true e = refl
not-false false e = absurd (true≢false e)

truth : (r : Ratio) (d : Decimal) → ratio_of d ≡ r → IsTruthRatio r → IsTruthValue d
truth r d e is = subst IsTruthRatio (sym e) is

-- a constant that inherits its type is a truth value
constant-type : (c : ConstantSaid) (d : Decimal) (said : TypeSaid) (t : TypeText) → (c.is_truth ≡ true → IsTruthRatio c.value) →
    ratio_of d ≡ c.value →
    (is_inherited said && not c.is_truth) ≡ false → IsType said t → IsConstantType d t
constant-type c d (known_type meaning) t is e none h =
    by t (subst (λ m. (is_inherited (known_type m) && not c.is_truth) ≡ false) (sym h) none)
  where
    by : (t : TypeText) → (is_inherited (known_type (meaning_of t)) && not c.is_truth) ≡ false → IsConstantType d t
    by type.Inherit none = truth c.value d e (is (not-false c.is_truth none))
    by type.Logical none = tt
    by type.Back none = tt
    by (type.Fixed t) none = tt
constant-type c d float_type t is e none h = absurd h

-- the type text of a row is lawful
type-lawful : (text : KindText) (c : Control) (k : Kind) (said : TypeSaid) (t : TypeText) → IsSoundKind text → IsTypeFor text said →
    has_float_parameter said text ≡ false → IsType said t → IsKind text c k → IsTypeTextOf k t
type-lawful (inport port) c k said t s f none is h = subst (λ k. IsTypeTextOf k t) (sym h) tt
type-lawful (outport port reset initial) c k said t s f none is h = subst (λ k. IsTypeTextOf k t) (sym h.2) tt
type-lawful (constant own) c k said t s f none is h = subst (λ k. IsTypeTextOf k t) (sym h.2) (constant-type own h.0 said t s.1 h.1 none is)
type-lawful (gain factor factor_type how) c k said t s f none is h = subst (λ k. IsTypeTextOf k t) (sym h.4) tt
type-lawful (sum count minus how) c k said t s f none is h = subst (λ k. IsTypeTextOf k t) (sym h) tt
type-lawful (product count how) c k said t s f none is h = subst (λ k. IsTypeTextOf k t) (sym h) tt
type-lawful (unit_delay initial) c k said t s f none is h = subst (λ k. IsTypeTextOf k t) (sym h.2) (inherits said t f is)
type-lawful (delay length initial) c k said t s f none is h = subst (λ k. IsTypeTextOf k t) (sym h.2) (inherits said t f is)
type-lawful (switch criterion threshold how) c k said t s f none is h = subst (λ k. IsTypeTextOf k t) (sym h.2) tt
type-lawful (relational comparison) c k said t s f none is h = subst (λ k. IsTypeTextOf k t) (sym h) (whole said t f is)
type-lawful (logic op count) c k said t s f none is h = subst (λ k. IsTypeTextOf k t) (sym h) (whole said t f is)
type-lawful (convert how) c k said t s f none is h = subst (λ k. IsTypeTextOf k t) (sym h) tt
type-lawful (rate_transition initial out) c k said t s f none is h = subst (λ k. IsTypeTextOf k t) (sym h.4) (inherits said t f is)
type-lawful _ c k said t s f none is h = subst (λ k. IsTypeTextOf k t) (sym h) (inherits said t f is)

-- ---- Times

means-untimed : (t : TimeText) → time_of t ≡ form.Inherit → t ≡ time.Inherit
means-untimed time.Inherit e = refl
means-untimed time.Constant e = cc e
means-untimed (time.Each period offset) e = cc e

untimed-by : (said : TimeSaid) (t : TimeText) → said ≡ untimed → IsTime said t → t ≡ time.Inherit
untimed-by said t e h = means-untimed t (subst (λ s. IsTime s t) e h)

-- the time text of a row is lawful
time-lawful : (text : KindText) (c : Control) (k : Kind) (said : TimeSaid) (t : TimeText) → IsSoundTime said → IsTimeFor text said →
    IsTime said t →
    IsKind text c k → IsTimeTextOf k t
time-lawful (outport port reset initial) c k said t s f is h = subst (λ k. IsTimeTextOf k t) (sym h.2) (varying said t (s, f) is)
time-lawful (subsystem system) c k said t s f is h = subst (λ k. IsTimeTextOf k t) (sym h) (untimed-by said t f is)
time-lawful (constant own) c k said t s f is h = subst (λ k. IsTimeTextOf k t) (sym h.2) (any-time said t s is)
time-lawful ground c k said t s f is h = subst (λ k. IsTimeTextOf k t) (sym h) (untimed-by said t f is)
time-lawful terminator c k said t s f is h = subst (λ k. IsTimeTextOf k t) (sym h) (untimed-by said t f is)
time-lawful (gain factor factor_type how) c k said t s f is h = subst (λ k. IsTimeTextOf k t) (sym h.4) (varying said t (s, f) is)
time-lawful (unit_delay initial) c k said t s f is h = subst (λ k. IsTimeTextOf k t) (sym h.2) (varying said t (s, f) is)
time-lawful (delay length initial) c k said t s f is h = subst (λ k. IsTimeTextOf k t) (sym h.2) (varying said t (s, f) is)
time-lawful (switch criterion threshold how) c k said t s f is h = subst (λ k. IsTimeTextOf k t) (sym h.2) (varying said t (s, f) is)
time-lawful (rate_transition initial out) c k said t s f is h = subst (λ k. IsTimeTextOf k t) (sym h.4) (untimed-by said t f is)
time-lawful (enable_port reset) c k said t s f is h = subst (λ k. IsTimeTextOf k t) (sym h) (untimed-by said t f is)
time-lawful (trigger_port edge) c k said t s f is h = subst (λ k. IsTimeTextOf k t) (sym h) (untimed-by said t f is)
time-lawful _ c k said t s f is h = subst (λ k. IsTimeTextOf k t) (sym h) (varying said t (s, f) is)

-- ---- Rows

row-lawful : (m : Model) (b : Block) (row : Row) → IsGood b → IsRowOf m b row → IsRow row
row-lawful m b row good is =
    let sound = good.sound in
    let none = faultless b.text.body good.no_fault in
    let c = control_of m.blocks b.number in
    record {
      kind = kind-lawful (kind_of b) c row.kind sound.kind is.kind;
      type =
          type-lawful (kind_of b) c row.kind b.text.body.type_text row.type_text sound.kind sound.type_for
          none.parameter is.type_text is.kind;
      time = time-lawful (kind_of b) c row.kind b.text.body.time_text row.time_text sound.time sound.time_for is.time_text is.kind;
    }

rows-lawful : (m : Model) (blocks : List Block) (rows : List Row) → AllByRecursion IsGood blocks → AllZip (IsRowOf m) blocks rows →
    AllByRecursion IsRow rows
rows-lawful m [] [] good zip = tt
rows-lawful m [] (row ∷ rows) good zip = absurd zip
rows-lawful m (b ∷ blocks) [] good zip = absurd zip
rows-lawful m (b ∷ blocks) (row ∷ rows) good zip = (row-lawful m b row good.0 zip.0, rows-lawful m blocks rows good.1 zip.1)

-- ---- The step

-- a numerator above 0 and within the limits, over a denominator within them
abbrev IsStepParts : ℕ × ℕ → Type 0
IsStepParts parts = (0 < parts.0) × (parts.0 ≤ 10 ^ 9) × (parts.1 ≤ 10 ^ 9)

fraction-within : (num : ℤ) (den : ℕ) (parts : ℕ × ℕ) → result_ok (frac_parts num den) ≡ Some parts →
    (parts.0 ≤ 10 ^ 9) × (parts.1 ≤ 10 ^ 9)
fraction-within (negsuc n) den parts e = absurd (none-some parts e)
fraction-within (pos n) den parts e = by (nat_le n 1_000_000_000) (nat_le den 1_000_000_000) refl refl e
  where
    by : (t u : Bool) → nat_le n 1_000_000_000 ≡ t → nat_le den 1_000_000_000 ≡ u →
        result_ok (cond (t && u) (Ok (n, den)) (Err Range)) ≡ Some parts → (parts.0 ≤ 10 ^ 9) × (parts.1 ≤ 10 ^ 9)
    by true true p q e =
        let same = some-same (n, den) parts e in
        subst (λ (x : ℕ × ℕ). (x.0 ≤ 10 ^ 9) × (x.1 ≤ 10 ^ 9)) same (leb-true n 1_000_000_000 p, leb-true den 1_000_000_000 q)
    by true false p q e = absurd (none-some parts e)
    by false u p q e = absurd (none-some parts e)

positive-within : (o : Option (ℕ × ℕ)) (parts : ℕ × ℕ) → ((x : ℕ × ℕ) → o ≡ Some x → (x.0 ≤ 10 ^ 9) × (x.1 ≤ 10 ^ 9)) →
    option_and_then (λ (x : ℕ × ℕ). cond (x.0 == 0) None (Some x)) o ≡ Some parts → IsStepParts parts
positive-within None parts within e = absurd (none-some parts e)
positive-within (Some x) parts within e = by (x.0 == 0) refl e
  where
    by : (t : Bool) → (x.0 == 0) ≡ t → cond t None (Some x) ≡ Some parts → IsStepParts parts
    by true p e = absurd (none-some parts e)
    by false p e = let bounds = within x refl in subst IsStepParts (some-same x parts e) (above-zero x.0 p, bounds.0, bounds.1)

parts-within : (o : Option Ratio) (parts : ℕ × ℕ) → option_and_then positive_parts o ≡ Some parts → IsStepParts parts
parts-within None parts e = absurd (none-some parts e)
parts-within (Some r) parts e = positive-within (result_ok (frac_parts r.num r.den)) parts (fraction-within r.num r.den) e

-- a step that a model writes is above 0 and within the limits
step-within : (items : Items) (step : Option Frac) → IsStepOf items step → IsStep step
step-within items None is = tt
step-within items (Some step) is =
    parts-within (option_and_then (λ text. result_ok (number_form text)) (first_outside_system (codes "FixedStep") items))
    (parts_of step) (sym is)

-- the rows and the step of a tree that isn't refused are lawful
pub tree_rows_are_lawful : TreeRowsAreLawful
tree_rows_are_lawful file table e is =
    let own = has-model file e in
    let has = table-of file table own is in
    let m = model_with (defaults_of own.model) own.model.system in
    (rows-lawful m m.blocks table.rows own.good has.rows, step-within own.model.section.items table.fixed_step has.fixed_step)
