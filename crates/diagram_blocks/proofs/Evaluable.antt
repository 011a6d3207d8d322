-- What an operation's inputs are like where it can be evaluated.
use Rattle.std.proofs.Common.{◌≡◌, refl, sym, ap, ◌∙◌, subst, ℕ, ◌-◌, ◌^◌, ◌<◌, ◌≤◌, Bool, true, false, max, List, [], ◌∷◌, fold, map, take, length, ℤ, arith, pow_pos}
use Rattle.std.specs.Prelude.{⊤}
use Rattle.std.proofs.Math.Seq.{take-length}
use Rattle.std.proofs.Math.Nat.{le-mul_of_pos_right, mul-le-mul_right, max-le}
use Rattle.base_fixed_point.specs.declared.FixType.{FixType}
use Rattle.base_fixed_point.specs.Conversion.{InType}
use Rattle.diagram_blocks.specs.declared.kind.Kind.{Kind}
use Rattle.diagram_blocks.specs.declared.kind.Kind.TheVariants as kind
use Rattle.diagram_blocks.specs.declared.op.Op.{Op}
use Rattle.diagram_blocks.specs.declared.op.Op.TheVariants.{Copy, Gain, Sum, Product, Switch, Relational, Logic, Convert}
use Rattle.diagram_blocks.specs.Value.{greatest_in, rhs}
use Rattle.diagram_blocks.specs.Width.{input_type}
use Rattle.diagram_blocks.specs.Meaning.{op_of, sum_fracs}
use Rattle.diagram_blocks.specs.Limits.{IsWithinLimits, HasInputTypes}
use Rattle.diagram_blocks.specs.Evaluation.{PassesInType, ReadsInTypes, IsEvaluable}
use Rattle.diagram_blocks.specs.Laws.{ConversionFits, NumbersFit}
use Rattle.diagram_blocks.proofs.Fits.{narrow_rows_fit, length_types, length_fracs, first_fracs}
use Rattle.diagram_blocks.proofs.lemmas.InType.{values_stay_in_type}

-- a number that is brought into a type with 62 bits has at most that many, and at most 93 fraction bits
pub small_number : (magnitude F : ℕ) (to : FixType) → ConversionFits magnitude F to → magnitude ≤ 2 ^ 62
small_number magnitude F to h = omega (arith, le-mul_of_pos_right magnitude (pow_pos (to.frac - F)), h.0)

pub few_fraction_bits : (magnitude F : ℕ) (to : FixType) → ConversionFits magnitude F to → F ≤ 93
few_fraction_bits magnitude F to h = let bits = to.in_profile.2 in let few = h.1 in omega (arith, bits, few)

-- and so has a number of no greater magnitude
pub lesser_fits : (lesser magnitude F : ℕ) (to : FixType) → lesser ≤ magnitude → ConversionFits magnitude F to → ConversionFits lesser F to
lesser_fits lesser magnitude F to le h = (omega (arith, mul-le-mul_right (2 ^ (to.frac - F)) le, h.0), h.1)

-- how many inputs an operation has
abbrev pub HasInputs : Op → List ℤ → Type 0
HasInputs Copy vs = 0 < length vs
HasInputs (Gain m frac to how) vs = length vs ≡ 1
HasInputs (Sum count minus fracs to how) vs =
    (length vs ≡ count) × (count ≤ 16) × (greatest_in (take count fracs) ≤ 31) × (length (take count fracs) ≡ count)
HasInputs (Product count frac to how) vs = length vs ≡ count
HasInputs (Switch criterion threshold fracs to how) vs = (length vs ≡ 3) × (length fracs ≡ 2)
HasInputs (Relational compare fracs) vs = (length vs ≡ 2) × (length fracs ≡ 2) × (greatest_in fracs ≤ 31)
HasInputs (Logic op count) vs = length vs ≡ count
HasInputs (Convert frac to how) vs = length vs ≡ 1
HasInputs _ vs = ⊤

fracs-le : (ts : List FixType) (a : ℕ) → a ≤ 31 → fold max a (map (λ t. t.frac) ts) ≤ 31
fracs-le [] a h = h
fracs-le (t ∷ ts) a h = fracs-le ts (max a t.frac) (max-le h t.in_profile.2)

sum_fracs-le : (ts : List FixType) (count : ℕ) → length ts ≡ count → greatest_in (take count (sum_fracs ts)) ≤ 31
sum_fracs-le ts count e = subst (λ fs. greatest_in fs ≤ 31) (sym (first_fracs ts count e)) (fracs-le ts 0 (omega arith))

has_inputs : (k : Kind) (ts : List FixType) (out : FixType) (delays : Bool) (vs : List ℤ) (memory : ℤ) →
    IsWithinLimits k → HasInputTypes k ts → ReadsInTypes k ts vs → PassesInType (op_of k ts out delays) out vs memory →
    HasInputs (op_of k ts out delays) vs
has_inputs (kind.Inport port) ts out delays vs memory limits has reads passes = passes.0
has_inputs (kind.Outport port reset initial) ts out delays vs memory limits has reads passes = passes.0
has_inputs (kind.Gain gain how) ts out delays vs memory limits has reads passes = sym (length_types ts vs reads) ∙ has
has_inputs (kind.Sum count minus how) ts out delays vs memory limits has reads passes = (
  sym (length_types ts vs reads) ∙ has,
  limits.1,
  sum_fracs-le ts count has,
  ap length (first_fracs ts count has)
      ∙ length_fracs ts ∙ has,
)
has_inputs (kind.Product count how) ts out delays vs memory limits has reads passes = sym (length_types ts vs reads) ∙ has
has_inputs kind.ZeroOrderHold ts out delays vs memory limits has reads passes = passes.0
has_inputs (kind.Switch criterion threshold how) ts out delays vs memory limits has reads passes =
    (sym (length_types ts vs reads) ∙ has, refl)
has_inputs (kind.Relational compare) ts out delays vs memory limits has reads passes = (
  sym (length_types ts vs reads) ∙ has,
  refl,
  max-le (max-le (omega arith) (input_type ts 0).in_profile.2) (input_type ts 1).in_profile.2,
)
has_inputs (kind.Logic o count) ts out delays vs memory limits has reads passes = sym (length_types ts vs reads) ∙ has
has_inputs (kind.Convert how) ts out delays vs memory limits has reads passes = sym (length_types ts vs reads) ∙ has
has_inputs (kind.RateTransition initial time) ts out true vs memory limits has reads passes = tt
has_inputs (kind.RateTransition initial time) ts out false vs memory limits has reads passes = passes.0
has_inputs _ ts out delays vs memory limits has reads passes = tt

-- where an operation can be evaluated it has its inputs, and its numbers fit
pub inputs_of : (op known : Op) (vs : List ℤ) (memory : ℤ) → op ≡ known → IsEvaluable op vs memory → HasInputs known vs
inputs_of op known vs memory e h =
    subst (λ o. HasInputs o vs) (sym h.is_op ∙ e)
    (has_inputs h.kind h.types h.out h.delays vs memory h.within_limits h.has_types h.reads
    (subst (λ o. PassesInType o h.out vs memory) h.is_op h.passes))

pub numbers_fit : (op known : Op) (vs : List ℤ) (memory : ℤ) → op ≡ known → IsEvaluable op vs memory → NumbersFit known vs
numbers_fit op known vs memory e h =
    subst (λ o. NumbersFit o vs) (sym h.is_op ∙ e) (narrow_rows_fit h.kind h.types h.out h.delays vs h.has_types h.reads h.narrow)

-- all of a list
pub take_whole : (vs : List ℤ) (count : ℕ) → length vs ≡ count → take count vs ≡ vs
take_whole vs count e = subst (λ n. take n vs ≡ vs) e (take-length vs)

-- the value of a row lies in its type
pub value_in_type : (op : Op) (vs : List ℤ) (memory result : ℤ) → result ≡ rhs op vs memory →
    (k : Kind) (ts : List FixType) (out : FixType) (delays : Bool) → op ≡ op_of k ts out delays →
    PassesInType op out vs memory → InType out result
value_in_type op vs memory result e k ts out delays is passes =
    subst (InType out) (sym (e ∙ ap (λ o. rhs o vs memory) is))
    (values_stay_in_type k ts out delays vs memory (subst (λ o. PassesInType o out vs memory) is passes))
