-- The constants and shifts of the operations of rows fit 64 bits.
use Rattle.std.proofs.Common.{◌≡◌, refl, sym, ap, ◌∙◌, subst, ℕ, zero, suc, ◌+◌, ◌-◌, ◌*◌, ◌^◌, ◌<◌, ◌≤◌, max, Bool, true, false, List, [], ◌∷◌, fold, length, map, take, get_or, replicate, sum, pos, unsigned_abs, arith, pow_pos}
use Rattle.std.proofs.Math.Nat.{le-mul_of_pos_right, le-max_left, le-max_right, max-le}
use Rattle.std.proofs.Math.Seq.{take-append_seam}
use Rattle.base_core.specs.declared.Decimal.{Decimal}
use Rattle.base_fixed_point.specs.declared.FixType.{FixType}
use Rattle.base_fixed_point.specs.Conversion.{InType, quantize}
use Rattle.diagram_blocks.specs.declared.How.{How}
use Rattle.diagram_blocks.specs.declared.GainText.{GainText}
use Rattle.diagram_blocks.specs.declared.Kind.{Kind}
use Rattle.diagram_blocks.specs.declared.Kind.TheVariants as kind
use Rattle.diagram_blocks.specs.declared.Logic.TheVariants.{Nor}
use Rattle.diagram_blocks.specs.Value.{greatest_in}
use Rattle.diagram_blocks.specs.Width.{gain_of, input_type, wide_bits, magnitude_bits, power_bits, conversion_bits}
use Rattle.diagram_blocks.specs.Meaning.{op_of, sum_fracs}
use Rattle.diagram_blocks.specs.Limits.{IsWithinLimits, HasInputTypes}
use Rattle.diagram_blocks.specs.Laws.{ConversionFits, NarrowRowsFit, ValuesStayInType}
use Rattle.emit_row_code.specs.Resolved.{IsWritable, RowOpsAreWritable}
use Rattle.emit_row_code.proofs.lemmas.Conversions.{in_type_small}

pub small_number : (magnitude F : ℕ) (to : FixType) → ConversionFits magnitude F to → magnitude ≤ 2 ^ 62
small_number magnitude F to h = omega (arith, le-mul_of_pos_right magnitude (pow_pos (to.frac - F)), h.0)

module _ (stays : ValuesStayInType) (narrow_fit : NarrowRowsFit) where
  -- a constant of a type has 32 bits at most
  pub constant_small : (value : Decimal) (t : FixType) → unsigned_abs (quantize value t) < 2 ^ 63
  constant_small value t = in_type_small t (quantize value t) (stays (kind.Constant value) [] t false [] (pos 0) tt)

  -- 1 lies in every type
  one_in : (t : FixType) → InType t (pos 1)
  one_in t = stays (kind.Logic Nor 0) [] t false [] (pos 0) tt

  gain_small : (gain : GainText) (how : How) (t : FixType) (ts : List FixType) (out : FixType) → length (t ∷ ts) ≡ 1 →
      wide_bits (kind.Gain gain how) (t ∷ ts) out ≤ 62 → unsigned_abs (gain_of gain).0 < 2 ^ 63
  gain_small gain how t [] out has narrow =
      let fits = narrow_fit (kind.Gain gain how) (t ∷ []) out false (pos 1 ∷ []) refl (one_in t, tt) narrow in
      omega (arith, small_number (1 * unsigned_abs (gain_of gain).0) (t.frac + (gain_of gain).1) out fits)
  gain_small gain how t (u ∷ ts) out has narrow = absurd (omega (arith, has))

  pub gain_small_of : (gain : GainText) (how : How) (ts : List FixType) (out : FixType) → length ts ≡ 1 →
      wide_bits (kind.Gain gain how) ts out ≤ 62 → unsigned_abs (gain_of gain).0 < 2 ^ 63
  gain_small_of gain how [] out has narrow = absurd (omega (arith, has))
  gain_small_of gain how (t ∷ ts) out has narrow = gain_small gain how t ts out has narrow

-- ---- Fraction bits

pub length_fracs : (ts : List FixType) → length (map (λ t. t.frac) ts) ≡ length ts
length_fracs [] = refl
length_fracs (t ∷ ts) = ap suc (length_fracs ts)

-- those of the inputs are first
pub first_fracs : (ts : List FixType) (count : ℕ) → length ts ≡ count → take count (sum_fracs ts) ≡ map (λ t. t.frac) ts
first_fracs ts count e =
    let fracs = map (λ (t : FixType). t.frac) ts in
    let len : length fracs ≡ count = length_fracs ts ∙ e in
    subst (λ n. take n (sum_fracs ts) ≡ fracs) len (take-append_seam fracs (replicate (16 - length ts) 0))

fracs-le : (ts : List FixType) (a : ℕ) → a ≤ 31 → fold max a (map (λ t. t.frac) ts) ≤ 31
fracs-le [] a h = h
fracs-le (t ∷ ts) a h = fracs-le ts (max a t.frac) (max-le h t.in_profile.2)

greatest-le : (xs : List ℕ) (a : ℕ) → a ≤ fold max a xs
greatest-le [] a = omega arith
greatest-le (x ∷ xs) a = let h = greatest-le xs (max a x) in let g = le-max_left a x in omega arith

at-le : (xs : List ℕ) (a i : ℕ) → get_or xs i 0 ≤ fold max a xs
at-le [] a i = omega arith
at-le (x ∷ xs) a zero = let h = greatest-le xs (max a x) in let g = le-max_right a x in omega arith
at-le (x ∷ xs) a (suc i) = at-le xs (max a x) i

-- none is greater than the greatest
pub at_most_greatest : (xs : List ℕ) (i : ℕ) → get_or xs i 0 ≤ greatest_in xs
at_most_greatest xs i = at-le xs 0 i

few_bits : (bits F : ℕ) (out : FixType) → conversion_bits bits F out ≤ 62 → F - out.frac ≤ 62
few_bits bits F out h = let part = le-max_right (bits + (out.frac - F)) (F - out.frac) in omega (arith, part, h)

-- ---- All kinds

by_kind : ValuesStayInType → NarrowRowsFit → (k : Kind) (ts : List FixType) (out : FixType) (delays : Bool) →
    IsWithinLimits k → HasInputTypes k ts → wide_bits k ts out ≤ 62 → IsWritable (op_of k ts out delays)
by_kind stays narrow_fit (kind.Constant value) ts out delays limits has narrow = constant_small stays narrow_fit value out
by_kind stays narrow_fit kind.Ground ts out delays limits has narrow = omega arith
by_kind stays narrow_fit (kind.Gain gain how) ts out delays limits has narrow = (
  gain_small_of stays narrow_fit gain how ts out has narrow,
  few_bits (magnitude_bits (input_type ts 0) + power_bits (unsigned_abs (gain_of gain).0))
      ((input_type ts 0).frac + (gain_of gain).1) out narrow,
)
by_kind stays narrow_fit (kind.Sum count minus how) ts out delays limits has narrow =
    (limits.1, subst (λ fs. greatest_in fs ≤ 31) (sym (first_fracs ts count has)) (fracs-le ts 0 (omega arith)))
by_kind stays narrow_fit (kind.Product count how) ts out delays limits has narrow =
    few_bits (sum (map magnitude_bits ts)) (sum (map (λ t. t.frac) ts)) out narrow
by_kind stays narrow_fit (kind.Delay samples initial) ts out delays limits has narrow = constant_small stays narrow_fit initial out
by_kind stays narrow_fit (kind.Switch criterion threshold how) ts out delays limits has narrow = (
  constant_small stays narrow_fit threshold (input_type ts 1),
  (input_type ts 0).in_profile.2,
  (input_type ts 2).in_profile.2,
)
by_kind stays narrow_fit (kind.Relational how) ts out delays limits has narrow =
    max-le (max-le (omega arith) (input_type ts 0).in_profile.2) (input_type ts 1).in_profile.2
by_kind stays narrow_fit (kind.Convert how) ts out delays limits has narrow = (input_type ts 0).in_profile.2
by_kind stays narrow_fit (kind.RateTransition initial time) ts out true limits has narrow = tt
by_kind stays narrow_fit (kind.RateTransition initial time) ts out false limits has narrow = tt
by_kind stays narrow_fit _ ts out delays limits has narrow = tt

pub row_ops_are_writable : ValuesStayInType → NarrowRowsFit → RowOpsAreWritable
row_ops_are_writable stays narrow_fit o h =
    subst IsWritable (sym h.is_op) (by_kind stays narrow_fit h.kind h.types h.out h.delays h.within_limits h.has_types h.narrow)
