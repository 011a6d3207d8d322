-- The expression of a row gives what the row computes: kind by kind.
use Rattle.std.proofs.Common.{◌≡◌, refl, sym, ap, ◌∙◌, subst, ℕ, zero, suc, ◌+◌, ◌-◌, ◌*◌, ◌^◌, ◌<◌, ◌≤◌, Bool, true, false, if◌then◌else◌, List, [], ◌∷◌, length, map, take, get_or, sum, ℤ, pos, ◌*ℤ◌, nat_le, unsigned_abs, arith}
use Rattle.std.specs.List.{AllZip}
use Rattle.std.proofs.Math.Nat.{mul-le-mul_right}
use Rattle.std.proofs.Math.Seq.{take-length}
use Rattle.std.proofs.lemmas.Int.{unsigned_abs-mul}
use Rattle.base_core.specs.declared.Compare.{Compare}
use Rattle.base_fixed_point.specs.declared.FixType.{FixType}
use Rattle.base_fixed_point.specs.Conversion.{InType, quantize, over_units}
use Rattle.base_fixed_point.specs.Rounding.{RoundingIsOne}
use Rattle.diagram_blocks.specs.declared.How.{How}
use Rattle.diagram_blocks.specs.declared.Kind.{Kind}
use Rattle.diagram_blocks.specs.declared.Kind.TheVariants as kind
use Rattle.diagram_blocks.specs.declared.Op.{Op}
use Rattle.diagram_blocks.specs.declared.Op.TheVariants as op
use Rattle.diagram_blocks.specs.Value.{rhs, input, conversion, passes, greatest_in, exact_sum, exact_product, logic_of, is_true, number_of_bool}
use Rattle.diagram_blocks.specs.Value as value
use Rattle.diagram_blocks.specs.Width.{gain_of, input_type, wide_bits}
use Rattle.diagram_blocks.specs.Meaning.{op_of, sum_fracs}
use Rattle.diagram_blocks.specs.Limits.{IsWithinLimits, HasInputTypes}
use Rattle.diagram_blocks.specs.Evaluation.{ReadsInTypes}
use Rattle.diagram_blocks.specs.Laws.{ConversionFits, NarrowRowsFit, ValuesStayInType, sum_magnitude, product_magnitude}
use Rattle.c_syntax.specs.declared.BinOp.TheVariants.{Mul}
use Rattle.c_syntax.specs.declared.Leaf.{Leaf}
use Rattle.c_syntax.specs.Tree.{ExprTree, CondTree, PureTree, binary, pick, compare}
use Rattle.c_semantics.specs.Values.{gives, Function, Reads, functions_of, eval, step_limit}
use Rattle.c_semantics.specs.EvaluationLaws.{Gives, Holds}
use Rattle.c_semantics.proofs.lemmas.EvaluationLaws.{expressions_are_evaluated}
use Rattle.c_semantics.proofs.lemmas.WithoutSteps.{gives_literal, gives_read, gives_mul, holds_compare}
use Rattle.emit_prelude.specs.Rules.{IsPrelude, WholeNumbersStay}
use Rattle.std.specs.Prelude.{Option, Some, None}
use Rattle.std.specs.Option.{option_and_then}
use Rattle.emit_row_code.specs.declared.ranges.Range.{Range}
use Rattle.emit_row_code.specs.Ranges.{just, input_range, gain_range, sum_range, product_range, surely_holds}
use Rattle.emit_row_code.specs.KnownTypes.{IsOfType, AreTypesOf}
use Rattle.emit_row_code.specs.RowCode.{rhs_code, input_code, converted_input, converted, written, truth, truths, logic_code, aligned, sum_code, product_code, passes_code, passes_all, either_code, nought}
use Rattle.emit_row_code.specs.Computed.{returns, conversion_returns, input_returns}
use Rattle.emit_row_code.specs.Laws.{RowsAreComputed, ReturnsAreFew}
use Rattle.emit_row_code.proofs.lemmas.WrittenNumbers.{gives_written}
use Rattle.emit_row_code.proofs.lemmas.Conversions.{aligned_gives, converted_gives}
use Rattle.emit_row_code.proofs.lemmas.RangeLaws.{InRange, input_in, gain_in, sum_in, product_in}
use Rattle.emit_row_code.proofs.ExactLaws.{sum_gives, product_gives}
use Rattle.emit_row_code.proofs.lemmas.Writable.{small_number, constant_small, gain_small_of, length_fracs, first_fracs}
use Rattle.emit_row_code.proofs.TruthLaws.{same_compare, truth_gives, logic_holds, passes_holds, passes_alike}

-- ---- Lists of inputs

length_types : (ts : List FixType) (vs : List ℤ) → AllZip InType ts vs → length vs ≡ length ts
length_types [] [] a = refl
length_types [] (v ∷ vs) a = absurd a
length_types (t ∷ ts) [] a = absurd a
length_types (t ∷ ts) (v ∷ vs) a = ap suc (length_types ts vs a.1)

length_read : (reads : Reads) (leaves : List Leaf) → length (map reads.leaf leaves) ≡ length leaves
length_read reads [] = refl
length_read reads (l ∷ leaves) = ap suc (length_read reads leaves)

whole_list : {A : Type 0} (xs : List A) (n : ℕ) → length xs ≡ n → take n xs ≡ xs
whole_list xs n e = subst (λ k. take k xs ≡ xs) e (take-length xs)

-- ---- Rows

no_step : (functions : List Function) (reads : Reads) (line : ℕ) (e : ExprTree) (x : ℤ) →
    Gives functions reads line e x → (steps : ℕ) → eval functions reads line e steps ≡ gives x (steps + 0)
no_step functions reads line e x h steps = h steps ∙ ap (gives x) (let same : steps ≡ steps + 0 = omega arith in same)

module _ (ps : List PureTree) (prelude : IsPrelude ps) (stay : WholeNumbersStay) (one : RoundingIsOne) (reads : Reads) (line : ℕ) where
  abbrev functions : List Function
  functions = functions_of [] ps

  abbrev Is : ExprTree → ℤ → Type 0
  Is e x = Gives functions reads line e x

  -- so many calls later the expression gives this number
  abbrev Comes : ExprTree → ℤ → ℕ → Type 0
  Comes e x calls = (steps : ℕ) → steps + 2 ≤ step_limit → eval functions reads line e steps ≡ gives x (steps + calls)

  comes_at_once : (e : ExprTree) (x : ℤ) → Is e x → Comes e x 0
  comes_at_once e x h steps room = no_step functions reads line e x h steps

  input_gives : (leaves : List Leaf) (i : ℕ) → Is (input_code leaves i) (input (map reads.leaf leaves) i)
  input_gives [] i = gives_literal functions reads line (pos 0)
  input_gives (l ∷ leaves) zero = gives_read functions reads line l
  input_gives (l ∷ leaves) (suc i) = input_gives leaves i

  converted_comes : (e : ExprTree) (v : ℤ) (f : ℕ) (range : Option Range) (to : FixType) (how : How) → Is e v →
      ConversionFits (unsigned_abs v) f to → InRange range v →
      Comes (converted e f range to how) (conversion v f to how) (conversion_returns f range to)
  converted_comes e v f range to how h fits inside = converted_gives ps prelude stay one reads line e v f range to how h fits inside

  converted_input_comes : (leaves : List Leaf) (types : List FixType) (i f : ℕ) (to : FixType) (how : How) →
      IsOfType types (map reads.leaf leaves) i → ConversionFits (unsigned_abs (input (map reads.leaf leaves) i)) f to →
      Comes (converted_input leaves types i f to how) (conversion (input (map reads.leaf leaves) i) f to how) (input_returns types i f to)
  converted_input_comes leaves types i f to how of_type fits =
      let vs = map reads.leaf leaves in
      converted_comes (input_code leaves i) (input vs i) f (input_range types i) to how (input_gives leaves i) fits
      (input_in types vs i of_type)

  lesser_fits : (lesser magnitude F : ℕ) (to : FixType) → lesser ≤ magnitude → ConversionFits magnitude F to → ConversionFits lesser F to
  lesser_fits lesser magnitude F to le h = (omega (arith, mul-le-mul_right (2 ^ (to.frac - F)) le, h.0), h.1)

  gain_comes : (leaves : List Leaf) (types : List FixType) (m : ℤ) (f : ℕ) (to : FixType) (how : How) → unsigned_abs m < 2 ^ 63 →
      IsOfType types (map reads.leaf leaves) 0 → ConversionFits (unsigned_abs (input (map reads.leaf leaves) 0) * unsigned_abs m) f to →
      Comes (converted (binary Mul (input_code leaves 0) (written m)) f (gain_range m types) to how)
      (conversion (input (map reads.leaf leaves) 0 *ℤ m) f to how) (conversion_returns f (gain_range m types) to)
  gain_comes leaves types m f to how small of_type fits =
      let vs = map reads.leaf leaves in
      let v = input vs 0 in
      let same = unsigned_abs-mul v m in
      let bound : unsigned_abs (v *ℤ m) < 2 ^ 63 = omega (arith, same, small_number (unsigned_abs v * unsigned_abs m) f to fits) in
      converted_comes (binary Mul (input_code leaves 0) (written m)) (v *ℤ m) f (gain_range m types) to how
      (gives_mul functions reads line (input_code leaves 0) (written m) v m (input_gives leaves 0)
      (gives_written functions reads line m small) bound)
      (lesser_fits (unsigned_abs (v *ℤ m)) (unsigned_abs v * unsigned_abs m) f to (omega (arith, same)) fits)
      (gain_in m types vs of_type)

  sum_comes : (minus F : ℕ) (fs : List ℕ) (leaves : List Leaf) (types : List FixType) (to : FixType) (how : How) → length fs ≤ 16 →
      length fs ≤ length leaves → ((i : ℕ) → IsOfType types (map reads.leaf leaves) i) →
      ConversionFits (sum_magnitude F fs (map reads.leaf leaves)) F to →
      (let range = sum_range minus F 0 fs types (just (pos 0)) in
      Comes (converted (sum_code minus F fs leaves) F range to how)
      (conversion (exact_sum minus F 0 fs (map reads.leaf leaves)) F to how) (conversion_returns F range to))
  sum_comes minus F fs leaves types to how few all of_types fits =
      let vs = map reads.leaf leaves in
      let exact = sum_gives functions reads line minus F fs leaves few (small_number (sum_magnitude F fs vs) F to fits) in
      converted_comes (sum_code minus F fs leaves) (exact_sum minus F 0 fs vs) F (sum_range minus F 0 fs types (just (pos 0))) to how
      exact.0
      (lesser_fits (unsigned_abs (exact_sum minus F 0 fs vs)) (sum_magnitude F fs vs) F to exact.1 fits)
      (sum_in minus F fs types vs of_types (subst (λ n. length fs ≤ n) (sym (length_read reads leaves)) all))

  product_comes : (leaves : List Leaf) (range : Option Range) (f : ℕ) (to : FixType) (how : How) → length leaves ≤ 16 →
      InRange range (exact_product (map reads.leaf leaves)) → ConversionFits (product_magnitude (map reads.leaf leaves)) f to →
      Comes (converted (product_code leaves) f range to how) (conversion (exact_product (map reads.leaf leaves)) f to how)
      (conversion_returns f range to)
  product_comes leaves range f to how few inside fits =
      let vs = map reads.leaf leaves in
      let exact = product_gives functions reads line leaves few (small_number (product_magnitude vs) f to fits) in
      converted_comes (product_code leaves) (exact_product vs) f range to how exact.0
      (lesser_fits (unsigned_abs (exact_product vs)) (product_magnitude vs) f to exact.1 fits) inside

  -- one of two expressions, each of which comes to its number after calls of its own
  pick_comes : (test : CondTree) (b : Bool) (d e : ExprTree) (x y : ℤ) (j k : ℕ) → Holds functions reads line test b → Comes d x j →
      Comes e y k →
      Comes (pick test d e) (if b then x else y) (if b then j else k)
  pick_comes test true d e x y j k h p q steps room =
      ((expressions_are_evaluated functions reads line steps).choice test d e).holds steps (h steps) ∙ p steps room
  pick_comes test false d e x y j k h p q steps room =
      ((expressions_are_evaluated functions reads line steps).choice test d e).fails steps (h steps) ∙ q steps room

  -- the one that is known, or the one that the test gives
  either_comes : (first : Option Bool) (test : CondTree) (b : Bool) (d e : ExprTree) (x y : ℤ) (j k : ℕ) →
      ((known : Bool) → first ≡ Some known → b ≡ known) → Holds functions reads line test b → Comes d x j → Comes e y k →
      Comes (either_code first test d e) (if b then x else y) (if b then j else k)
  either_comes None test b d e x y j k same h p q = pick_comes test b d e x y j k h p q
  either_comes (Some true) test b d e x y j k same h p q =
      subst (λ b. Comes d (if b then x else y) (if b then j else k)) (sym (same true refl)) p
  either_comes (Some false) test b d e x y j k same h p q =
      subst (λ b. Comes e (if b then x else y) (if b then j else k)) (sym (same false refl)) q

  comparison_gives : (how : Compare) (d e : ExprTree) (v w : ℤ) (f g F : ℕ) → Is d v → Is e w →
      unsigned_abs (over_units v f F) ≤ 2 ^ 62 → unsigned_abs (over_units w g F) ≤ 2 ^ 62 →
      Is (truth (compare how (aligned d f F) (aligned e g F)))
      (number_of_bool (value.compares how (over_units v f F) (over_units w g F)))
  comparison_gives how d e v w f g F h k small low =
      let x = over_units v f F in
      let y = over_units w g F in
      truth_gives functions reads line (compare how (aligned d f F) (aligned e g F)) (value.compares how x y)
      (subst (Holds functions reads line (compare how (aligned d f F) (aligned e g F))) (same_compare how x y)
      (holds_compare functions reads line how (aligned d f F) (aligned e g F) x y
      (aligned_gives functions reads line d v f F h small) (aligned_gives functions reads line e w g F k low)))

  -- ---- All kinds

  module _ (stays : ValuesStayInType) (narrow_fit : NarrowRowsFit) (leaves : List Leaf) (types : List FixType) (memory : ExprTree)
      (m : ℤ) (known : Is memory m) where
    abbrev vs : List ℤ
    vs = map reads.leaf leaves

    count_is : (ts : List FixType) (count : ℕ) → length ts ≡ count → AllZip InType ts vs → length leaves ≡ count
    count_is ts count has reads_in = sym (length_read reads leaves) ∙ length_types ts vs reads_in ∙ has

    abbrev RowComes : Op → Type 0
    RowComes o = Comes (rhs_code o leaves types memory) (rhs o vs m) (returns o types vs)

    by_kind : (k : Kind) (ts : List FixType) (out : FixType) (delays : Bool) → IsWithinLimits k → HasInputTypes k ts →
        wide_bits k ts out ≤ 62 → ReadsInTypes k ts vs → AreTypesOf (op_of k ts out delays) types vs →
        RowComes (op_of k ts out delays)
    by_kind (kind.Inport port) ts out delays limits has narrow reads_in of_types =
        comes_at_once (input_code leaves 0) (input vs 0) (input_gives leaves 0)
    by_kind (kind.Outport port reset initial) ts out delays limits has narrow reads_in of_types =
        comes_at_once (input_code leaves 0) (input vs 0) (input_gives leaves 0)
    by_kind (kind.SubSystem control) ts out delays limits has narrow reads_in of_types =
        comes_at_once nought (pos 0) (gives_literal functions reads line (pos 0))
    by_kind (kind.Constant value) ts out delays limits has narrow reads_in of_types =
        comes_at_once (written (quantize value out)) (quantize value out)
        (gives_written functions reads line (quantize value out) (constant_small stays narrow_fit value out))
    by_kind kind.Ground ts out delays limits has narrow reads_in of_types =
        comes_at_once nought (pos 0) (gives_literal functions reads line (pos 0))
    by_kind kind.Terminator ts out delays limits has narrow reads_in of_types =
        comes_at_once nought (pos 0) (gives_literal functions reads line (pos 0))
    by_kind (kind.Gain gain how) ts out delays limits has narrow reads_in of_types =
        gain_comes leaves types (gain_of gain).0 ((input_type ts 0).frac + (gain_of gain).1) out how
        (gain_small_of stays narrow_fit gain how ts out has narrow) of_types
        (narrow_fit (kind.Gain gain how) ts out delays vs has reads_in narrow)
    by_kind (kind.Sum count minus how) ts out delays limits has narrow reads_in of_types =
        let fs = take count (sum_fracs ts) in
        let many = count_is ts count has reads_in in
        let fracs : length fs ≡ count = ap length (first_fracs ts count has) ∙ length_fracs ts ∙ has in
        sum_comes minus (greatest_in fs) fs leaves types out how (omega (arith, fracs, limits.1)) (omega (arith, fracs, many)) of_types
        (narrow_fit (kind.Sum count minus how) ts out delays vs has reads_in narrow)
    by_kind (kind.Product count how) ts out delays limits has narrow reads_in of_types =
        let f = sum (map (λ (t : FixType). t.frac) ts) in
        let many = count_is ts count has reads_in in
        let whole : take count vs ≡ vs = whole_list vs count (length_read reads leaves ∙ many) in
        let fits = narrow_fit (kind.Product count how) ts out delays vs has reads_in narrow in
        let range = product_range count types in
        let all : count ≤ length vs = omega (arith, length_read reads leaves, many) in
        subst (λ us. Comes (converted (product_code leaves) f range out how) (conversion (exact_product us) f out how)
        (conversion_returns f range out)) (sym whole)
        (product_comes leaves range f out how (omega (arith, many, limits.1))
        (subst (λ us. InRange range (exact_product us)) whole (product_in count types vs of_types all))
        (subst (λ us. ConversionFits (product_magnitude us) f out) whole fits))
    by_kind (kind.UnitDelay initial) ts out delays limits has narrow reads_in of_types = comes_at_once memory m known
    by_kind (kind.Delay samples initial) ts out delays limits has narrow reads_in of_types = comes_at_once memory m known
    by_kind kind.ZeroOrderHold ts out delays limits has narrow reads_in of_types =
        comes_at_once (input_code leaves 0) (input vs 0) (input_gives leaves 0)
    by_kind (kind.Switch criterion threshold how) ts out delays limits has narrow reads_in of_types =
        let level = quantize threshold (input_type ts 1) in
        let f = (input_type ts 0).frac in
        let g = (input_type ts 2).frac in
        let fits = narrow_fit (kind.Switch criterion threshold how) ts out delays vs has reads_in narrow in
        either_comes (option_and_then (passes_all criterion level) (input_range types 1))
        (passes_code criterion (input_code leaves 1) level) (passes criterion (input vs 1) level)
        (converted_input leaves types 0 f out how) (converted_input leaves types 2 g out how)
        (conversion (input vs 0) f out how) (conversion (input vs 2) g out how) (input_returns types 0 f out) (input_returns types 2 g out)
        (passes_alike criterion level (input_range types 1) (input vs 1) (input_in types vs 1 (of_types 1)))
        (passes_holds functions reads line criterion (input_code leaves 1) (input vs 1) level (input_gives leaves 1)
        (constant_small stays narrow_fit threshold (input_type ts 1)))
        (converted_input_comes leaves types 0 f out how (of_types 0) fits.0)
        (converted_input_comes leaves types 2 g out how (of_types 2) fits.1)
    by_kind (kind.Relational how) ts out delays limits has narrow reads_in of_types =
        let f = (input_type ts 0).frac in
        let g = (input_type ts 1).frac in
        let F = greatest_in (f ∷ g ∷ []) in
        let fits = narrow_fit (kind.Relational how) ts out delays vs has reads_in narrow in
        comes_at_once (truth (compare how (aligned (input_code leaves 0) f F) (aligned (input_code leaves 1) g F)))
        (number_of_bool (value.compares how (over_units (input vs 0) f F) (over_units (input vs 1) g F)))
        (comparison_gives how (input_code leaves 0) (input_code leaves 1) (input vs 0) (input vs 1) f g F
        (input_gives leaves 0) (input_gives leaves 1) fits.0 fits.1)
    by_kind (kind.Logic o count) ts out delays limits has narrow reads_in of_types =
        let many = count_is ts count has reads_in in
        let whole : take count vs ≡ vs = whole_list vs count (length_read reads leaves ∙ many) in
        subst (λ us. Comes (truth (logic_code o (truths leaves))) (number_of_bool (logic_of o (map is_true us))) 0) (sym whole)
        (comes_at_once (truth (logic_code o (truths leaves))) (number_of_bool (logic_of o (map is_true vs)))
        (truth_gives functions reads line (logic_code o (truths leaves)) (logic_of o (map is_true vs))
        (logic_holds functions reads line o leaves (omega (arith, many, limits.1)))))
    by_kind (kind.Convert how) ts out delays limits has narrow reads_in of_types =
        converted_input_comes leaves types 0 (input_type ts 0).frac out how of_types
        (narrow_fit (kind.Convert how) ts out delays vs has reads_in narrow)
    by_kind (kind.RateTransition initial time) ts out true limits has narrow reads_in of_types = comes_at_once memory m known
    by_kind (kind.RateTransition initial time) ts out false limits has narrow reads_in of_types =
        comes_at_once (input_code leaves 0) (input vs 0) (input_gives leaves 0)
    by_kind kind.EnablePort ts out delays limits has narrow reads_in of_types =
        comes_at_once nought (pos 0) (gives_literal functions reads line (pos 0))
    by_kind kind.TriggerPort ts out delays limits has narrow reads_in of_types =
        comes_at_once nought (pos 0) (gives_literal functions reads line (pos 0))

-- ---- The laws

pub rows_are_computed : ValuesStayInType → NarrowRowsFit → WholeNumbersStay → RoundingIsOne → RowsAreComputed
rows_are_computed stays narrow_fit stay one o leaves types memory m ps reads line steps prelude h of_types room known =
    let comes = by_kind ps prelude stay one reads line stays narrow_fit leaves types memory m known h.kind h.types h.out h.delays
    h.within_limits h.has_types h.narrow h.reads (subst (λ o. AreTypesOf o types (map reads.leaf leaves)) h.is_op of_types) steps room in
    subst (λ o. eval (functions_of [] ps) reads line (rhs_code o leaves types memory) steps
    ≡ gives (rhs o (map reads.leaf leaves) m) (steps + returns o types (map reads.leaf leaves))) (sym h.is_op) comes

conversion_few : (f : ℕ) (range : Option Range) (to : FixType) → conversion_returns f range to ≤ 2
conversion_few f range to = by (nat_le f to.frac) (surely_holds to f range)
  where
    by : (b held : Bool) → (if b then 0 else 1) + (if held then 0 else 1) ≤ 2
    by true true = omega arith
    by true false = omega arith
    by false true = omega arith
    by false false = omega arith

input_few : (types : List FixType) (i f : ℕ) (to : FixType) → input_returns types i f to ≤ 2
input_few types i f to = conversion_few f (input_range types i) to

pub returns_are_few : ReturnsAreFew
returns_are_few (op.Gain m frac to how) types us = conversion_few frac (gain_range m types) to
returns_are_few (op.Sum count minus fracs to how) types us =
    let fs = take count fracs in
    conversion_few (greatest_in fs) (sum_range minus (greatest_in fs) 0 fs types (just (pos 0))) to
returns_are_few (op.Product count frac to how) types us = conversion_few frac (product_range count types) to
returns_are_few (op.Switch criterion threshold fracs to how) types us = by (passes criterion (input us 1) threshold)
  where
    by : (b : Bool) → (if b then input_returns types 0 (get_or fracs 0 0) to else input_returns types 2 (get_or fracs 1 0) to) ≤ 2
    by true = input_few types 0 (get_or fracs 0 0) to
    by false = input_few types 2 (get_or fracs 1 0) to
returns_are_few (op.Convert frac to how) types us = input_few types 0 frac to
returns_are_few _ types us = omega arith
