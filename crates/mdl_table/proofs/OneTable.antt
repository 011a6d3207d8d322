-- A tree has at most one table.
use Rattle.std.specs.Prelude.{◌≡◌, refl, ℕ, ◌≤◌, ◌^◌, Bool, List, [], ◌∷◌, Option, Some, None, option_map, Result, Ok, Err, unsigned_abs}
use Rattle.std.specs.List.{AllZip}
use Rattle.std.proofs.Common.{sym, ◌∙◌, ap, ap₂}
use mathlib.Core.HLevel.{is_prop→PathP}
use Rattle.std.specs.Coded.{le_prop}
use Rattle.base_core.specs.Numbers.{AreLowest}
use Rattle.base_numerals.specs.Literals.{ratio_of, parts_of}
use Rattle.base_refusals.specs.Refusals.{PlainRefusal}
use Rattle.base_core.specs.declared.Control.{Control}
use Rattle.base_core.specs.declared.Decimal.{Decimal}
use Rattle.base_core.specs.declared.Frac.{Frac}
use Rattle.base_core.specs.declared.TimeText.{TimeText}
use Rattle.base_core.specs.declared.TimeText.TheVariants as time
use Rattle.base_fixed_point.specs.declared.FixType.{FixType}
use Rattle.base_fixed_point.specs.declared.TypeText.{TypeText}
use Rattle.base_fixed_point.specs.declared.TypeText.TheVariants as type
use Rattle.base_fixed_point.specs.Profile.{InProfile}
use Rattle.mdl_type_texts.specs.TypeTexts.{format_of, meaning_of, Fixed}
use Rattle.diagram_blocks.specs.declared.Kind.{Kind}
use Rattle.diagram_blocks.specs.declared.Kind.TheVariants as row
use Rattle.diagram_meaning.specs.declared.table.Row.{Row}
use Rattle.diagram_meaning.specs.RowTable.{RowTable}
use Rattle.mdl_params.specs.Times.{time_of}
use Rattle.mdl_params.specs.Times as form
use Rattle.mdl_blocks.specs.Meanings.{TypeSaid, known_type, float_type, TimeSaid, known_time, zero_time}
use Rattle.mdl_blocks.specs.Blocks.{KindText, inport, outport, subsystem, constant, ground, terminator, gain, sum, product, unit_delay, delay, zero_order_hold, switch, relational, logic, convert, rate_transition, enable_port, trigger_port}
use Rattle.mdl_blocks.specs.Rows.{gain_with}
use Rattle.mdl_systems.specs.Models as found
use Rattle.mdl_systems.specs.Models.{model_of}
use Rattle.mdl_rows.specs.Models.{Block, Model, kind_of, model_with}
use Rattle.mdl_rows.specs.Interiors.{control_of}
use Rattle.mdl_rows.specs.RowTexts.{IsKind, IsType, IsTime}
use Rattle.mdl_rows.specs.Refusals.{defaults_of}
use Rattle.mdl_rows.specs.Tables.{IsRowOf}
use Rattle.mdl_table.specs.Tables.{IsTableOf, IsTableBy}
use Rattle.mdl_table.specs.Laws.{TreeHasOneTable}

lowest-prop : (a b : ℕ) → IsProp (AreLowest a b)
lowest-prop a b = hlevel (le_prop)

profile-prop : (s : Bool) (b f : ℕ) → IsProp (InProfile s b f)
profile-prop s b f = hlevel (le_prop)

-- ---- Values that show the same are the same

decimal-equal : (d e : Decimal) → ratio_of d ≡ ratio_of e → d ≡ e
decimal-equal d e p = λ i. record {
  num = (p i).num;
  den = (p i).den;
  lowest = is_prop→PathP (λ j. AreLowest (unsigned_abs (p j).num) (p j).den) (λ j. lowest-prop _ _) d.lowest e.lowest i;
  num_bound = is_prop→PathP (λ j. unsigned_abs (p j).num ≤ 10 ^ 36) (λ j. le_prop) d.num_bound e.num_bound i;
  den_bound = is_prop→PathP (λ j. (p j).den ≤ 10 ^ 18) (λ j. le_prop) d.den_bound e.den_bound i;
}

frac-equal : (a b : Frac) → parts_of a ≡ parts_of b → a ≡ b
frac-equal a b p = λ i. record {
  num = (p i).0;
  den = (p i).1;
  lowest = is_prop→PathP (λ j. AreLowest (p j).0 (p j).1) (λ j. lowest-prop _ _) a.lowest b.lowest i;
}

type-equal : (t u : FixType) → format_of t ≡ format_of u → t ≡ u
type-equal t u p = λ i. record {
  signed = (p i).signed;
  bits = (p i).bits;
  frac = (p i).frac;
  in_profile = is_prop→PathP (λ j. InProfile (p j).signed (p j).bits (p j).frac) (λ j. profile-prop _ _ _) t.in_profile u.in_profile i;
}

type_text-equal : (t u : TypeText) → meaning_of t ≡ meaning_of u → t ≡ u
type_text-equal type.Inherit type.Inherit e = refl
type_text-equal type.Logical type.Logical e = refl
type_text-equal type.Back type.Back e = refl
type_text-equal (type.Fixed t) (type.Fixed u) e =
    ap type.Fixed (type-equal t u (ap (λ m. elim m [ Fixed f ↦ f | _ ↦ format_of t ]) e))
type_text-equal type.Inherit type.Logical e = cc e
type_text-equal type.Inherit type.Back e = cc e
type_text-equal type.Inherit (type.Fixed u) e = cc e
type_text-equal type.Logical type.Inherit e = cc e
type_text-equal type.Logical type.Back e = cc e
type_text-equal type.Logical (type.Fixed u) e = cc e
type_text-equal type.Back type.Inherit e = cc e
type_text-equal type.Back type.Logical e = cc e
type_text-equal type.Back (type.Fixed u) e = cc e
type_text-equal (type.Fixed t) type.Inherit e = cc e
type_text-equal (type.Fixed t) type.Logical e = cc e
type_text-equal (type.Fixed t) type.Back e = cc e

time_text-equal : (t u : TimeText) → time_of t ≡ time_of u → t ≡ u
time_text-equal time.Inherit time.Inherit e = refl
time_text-equal time.Constant time.Constant e = refl
time_text-equal (time.Each p o) (time.Each q r) e =
    ap₂ time.Each (frac-equal p q (ap (λ m. elim m [ form.Each x y ↦ x | _ ↦ parts_of p ]) e))
    (frac-equal o r (ap (λ m. elim m [ form.Each x y ↦ y | _ ↦ parts_of o ]) e))
time_text-equal time.Inherit time.Constant e = cc e
time_text-equal time.Inherit (time.Each q r) e = cc e
time_text-equal time.Constant time.Inherit e = cc e
time_text-equal time.Constant (time.Each q r) e = cc e
time_text-equal (time.Each p o) time.Inherit e = cc e
time_text-equal (time.Each p o) time.Constant e = cc e

-- ---- What is said gives one value

type-one : (said : TypeSaid) (t u : TypeText) → IsType said t → IsType said u → t ≡ u
type-one (known_type meaning) t u p q = type_text-equal t u (p ∙ sym q)
type-one float_type t u p q = absurd p

time-one : (said : TimeSaid) (t u : TimeText) → IsTime said t → IsTime said u → t ≡ u
time-one (known_time meaning) t u p q = time_text-equal t u (p ∙ sym q)
time-one zero_time t u p q = absurd p

kind-one : (text : KindText) (c : Control) (k l : Kind) → IsKind text c k → IsKind text c l → k ≡ l
kind-one (outport port reset initial) c k l p q = p.2 ∙ ap (row.Outport port reset) (decimal-equal p.0 q.0 (p.1 ∙ sym q.1)) ∙ sym q.2
kind-one (constant said) c k l p q = p.2 ∙ ap row.Constant (decimal-equal p.0 q.0 (p.1 ∙ sym q.1)) ∙ sym q.2
kind-one (gain factor factor_type how) c k l p q =
    p.4 ∙ ap₂ (λ d t. row.Gain (gain_with d t) how) (decimal-equal p.0 q.0 (p.2 ∙ sym q.2)) (type-one factor_type p.1 q.1 p.3 q.3) ∙ sym q.4
kind-one (unit_delay initial) c k l p q = p.2 ∙ ap row.UnitDelay (decimal-equal p.0 q.0 (p.1 ∙ sym q.1)) ∙ sym q.2
kind-one (delay length initial) c k l p q = p.2 ∙ ap (row.Delay length) (decimal-equal p.0 q.0 (p.1 ∙ sym q.1)) ∙ sym q.2
kind-one (switch criterion threshold how) c k l p q =
    p.2 ∙ ap (λ d. row.Switch criterion d how) (decimal-equal p.0 q.0 (p.1 ∙ sym q.1)) ∙ sym q.2
kind-one (rate_transition initial out) c k l p q =
    p.4 ∙ ap₂ row.RateTransition (decimal-equal p.0 q.0 (p.2 ∙ sym q.2)) (time-one out p.1 q.1 p.3 q.3) ∙ sym q.4
kind-one _ c k l p q = p ∙ sym q

-- ---- A block has one row

row-equal : (r s : Row) → r.place ≡ s.place → r.owner ≡ s.owner → r.kind ≡ s.kind → r.inputs ≡ s.inputs
    → r.type_text ≡ s.type_text → r.time_text ≡ s.time_text → r ≡ s
row-equal r s a b c d e f = λ i. record { place = a i; owner = b i; kind = c i; inputs = d i; type_text = e i; time_text = f i }

row-one : (m : Model) (b : Block) (r s : Row) → IsRowOf m b r → IsRowOf m b s → r ≡ s
row-one m b r s p q =
    row-equal r s (p.place ∙ sym q.place) (p.owner ∙ sym q.owner)
    (kind-one (kind_of b) (control_of m.blocks b.number) r.kind s.kind p.kind q.kind) (p.inputs ∙ sym q.inputs)
    (type-one b.text.body.type_text r.type_text s.type_text p.type_text q.type_text)
    (time-one b.text.body.time_text r.time_text s.time_text p.time_text q.time_text)

rows-one : (m : Model) (blocks : List Block) (rs ss : List Row) → AllZip (IsRowOf m) blocks rs → AllZip (IsRowOf m) blocks ss → rs ≡ ss
rows-one m [] [] [] p q = refl
rows-one m [] [] (s ∷ ss) p q = absurd q
rows-one m [] (r ∷ rs) ss p q = absurd p
rows-one m (b ∷ blocks) [] ss p q = absurd p
rows-one m (b ∷ blocks) (r ∷ rs) [] p q = absurd q
rows-one m (b ∷ blocks) (r ∷ rs) (s ∷ ss) p q = ap₂ ◌∷◌ (row-one m b r s p.0 q.0) (rows-one m blocks rs ss p.1 q.1)

-- ---- The table

step-equal : (s t : Option Frac) → option_map parts_of s ≡ option_map parts_of t → s ≡ t
step-equal None None e = refl
step-equal (Some a) (Some b) e = ap Some (frac-equal a b (ap (λ o. elim o [ Some x ↦ x | None ↦ parts_of a ]) e))
step-equal None (Some b) e = cc e
step-equal (Some a) None e = cc e

table-one : (model : found.Model) (t u : RowTable) → IsTableOf model t → IsTableOf model u → t ≡ u
table-one model t u p q =
    let m = model_with (defaults_of model) model.system in
    let rows = rows-one m m.blocks t.rows u.rows p.rows q.rows in
    let steps = step-equal t.fixed_step u.fixed_step (p.fixed_step ∙ sym q.fixed_step) in
    λ i. record { rows = rows i; fixed_step = steps i }

-- a file's tree has at most one table
pub tree_has_one_table : TreeHasOneTable
tree_has_one_table file t u p q = by (model_of file) p q
  where
    by : (r : Result found.Model PlainRefusal) → IsTableBy r t → IsTableBy r u → t ≡ u
    by (Ok model) h k = table-one model t u h k
    by (Err refusal) h k = absurd h
