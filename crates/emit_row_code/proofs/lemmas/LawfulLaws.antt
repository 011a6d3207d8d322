-- The expressions of rows keep the static rules of C.
use Rattle.std.proofs.Common.{◌≡◌, refl, sym, ap, ◌∙◌, subst, ℕ, zero, suc, ◌-◌, ◌^◌, ◌<◌, ◌≤◌, ◌==◌, nat_le, Bool, true, false, if◌then◌else◌, List, [], ◌∷◌, length, take, map, get_or, ℤ, pos, neg_ℤ, unsigned_abs, int_lt, arith}
use Rattle.std.specs.Prelude.{Option, Some, None, slice_get}
use Rattle.std.specs.Option.{option_and_then}
use Rattle.std.specs.Int.{bit_at}
use Rattle.std.specs.List.{AllByRecursion}
use Rattle.std.proofs.Math.Pow.{pow_mono}
use Rattle.std.proofs.lemmas.Int.{ints}
use Rattle.base_fixed_point.specs.declared.FixType.{FixType}
use Rattle.base_fixed_point.specs.declared.Over.{Over}
use Rattle.base_fixed_point.specs.declared.Over.TheVariants.{Saturate, Wrap}
use Rattle.base_fixed_point.specs.declared.Round.{Round}
use Rattle.base_fixed_point.specs.declared.Round.TheVariants.{Ceiling, Convergent, Floor, Nearest, Zero}
use Rattle.base_fixed_point.specs.declared.Round.TheVariants as round
use Rattle.base_fixed_point.specs.Conversion.{least_of, greatest_of}
use Rattle.diagram_blocks.specs.declared.Criterion.{Criterion}
use Rattle.diagram_blocks.specs.declared.Criterion.TheVariants.{Ge, Gt, NotZero}
use Rattle.diagram_blocks.specs.declared.How.{How}
use Rattle.diagram_blocks.specs.declared.Logic.{Logic}
use Rattle.diagram_blocks.specs.declared.Logic.TheVariants.{And, Or, Nand, Nor, Xor, Nxor, Not}
use Rattle.diagram_blocks.specs.declared.Op.{Op}
use Rattle.diagram_blocks.specs.declared.Op.TheVariants.{Copy, Value, Delay, Line, Gain, Sum, Product, Switch, Relational, Logic as Logical, Convert, Nothing}
use Rattle.diagram_blocks.specs.Value.{greatest_in}
use Rattle.c_syntax.specs.declared.BinOp.TheVariants.{Add, Mul}
use Rattle.c_syntax.specs.declared.Leaf.{Leaf}
use Rattle.c_syntax.specs.Tree.{ExprTree, CondTree, PureTree, literal, neg, read, binary, pure, both, either, exprs_of_list}
use Rattle.c_syntax.specs.Lawful.{Reach, IsLawfulLeaf, IsLawfulExpr, IsLawfulCond}
use Rattle.emit_prelude.specs.Rules.{IsPrelude, params, rounding_position}
use Rattle.emit_row_code.specs.RowCode.{written, nought, power, aligned, rounded_code, cast, converted, signed, term_codes, sum_code, product_code, differ, always, never, all_hold, some_holds, odd_hold, truths, logic_code, passes_code, passes_all, either_code, input_code, converted_input, rhs_code}
use Rattle.emit_row_code.specs.declared.ranges.Range.{Range}
use Rattle.emit_row_code.specs.Ranges.{just, input_range, gain_range, sum_range, product_range, surely_holds}
use Rattle.emit_row_code.specs.Resolved.{IsWritable, RowOpsAreWritable}
use Rattle.emit_row_code.specs.LawfulLaws.{RowsAreLawful}
use Rattle.emit_row_code.proofs.lemmas.BalancedLaws.{balanced_all}
use Rattle.emit_row_code.proofs.lemmas.Conversions.{least_small, greatest_small}

-- ---- Functions

-- a function with so many parameters is at a position
abbrev IsThere : List PureTree → ℕ → ℕ → Type 0
IsThere ps k many = (p : PureTree) × (slice_get ps k ≡ Some p) × (length p.params ≡ many)

found : (ps : List PureTree) (k : ℕ) → k < length (map (λ (p : PureTree). p.params) ps) →
    (p : PureTree) × (slice_get ps k ≡ Some p) × (p.params ≡ get_or (map (λ (p : PureTree). p.params) ps) k [])
found [] k h = absurd (omega (arith, h))
found (p ∷ ps) zero h = (p, refl, refl)
found (p ∷ ps) (suc k) h = found ps k (omega (arith, h))

by_params : (ps : List PureTree) (k many : ℕ) → IsPrelude ps → k < length params → length (get_or params k []) ≡ many → IsThere ps k many
by_params ps k many prelude h e =
    let one = found ps k (subst (λ qs. k < length qs) (sym prelude.with_params) h) in
    (one.0, one.1, ap length (one.2 ∙ ap (λ qs. get_or qs k []) prelude.with_params) ∙ e)

rounding_there : (ps : List PureTree) → IsPrelude ps → (r : Round) → IsThere ps (rounding_position r) 2
rounding_there ps prelude Floor = by_params ps 0 2 prelude (omega arith) refl
rounding_there ps prelude Ceiling = by_params ps 1 2 prelude (omega arith) refl
rounding_there ps prelude Zero = by_params ps 2 2 prelude (omega arith) refl
rounding_there ps prelude Nearest = by_params ps 3 2 prelude (omega arith) refl
rounding_there ps prelude round.Round = by_params ps 4 2 prelude (omega arith) refl
rounding_there ps prelude Convergent = by_params ps 5 2 prelude (omega arith) refl

-- ---- Expressions

below : (v : ℤ) → int_lt v (pos 0) ≡ true → neg_ℤ v ≡ pos (unsigned_abs v)
below v e = grind (arith, ints)

not_below : (v : ℤ) → int_lt v (pos 0) ≡ false → v ≡ pos (unsigned_abs v)
not_below v e = grind (arith, ints)

pub number_lawful : (reach : Reach) (n : ℕ) → n < 2 ^ 63 → IsLawfulExpr reach (literal (pos n))
number_lawful reach n h = (n, refl, h)

pub written_is_lawful : (reach : Reach) (v : ℤ) → unsigned_abs v < 2 ^ 63 → IsLawfulExpr reach (written v)
written_is_lawful reach v h = by (int_lt v (pos 0)) refl
  where
    by : (b : Bool) → int_lt v (pos 0) ≡ b → IsLawfulExpr reach (if b then neg (literal (neg_ℤ v)) else literal v)
    by true e = (unsigned_abs v, below v e, h)
    by false e = (unsigned_abs v, not_below v e, h)

module _ (reach : Reach) (prelude : IsPrelude reach.pures) where
  abbrev Lawful : ExprTree → Type 0
  Lawful e = IsLawfulExpr reach e

  abbrev LawfulTest : CondTree → Type 0
  LawfulTest t = IsLawfulCond reach t

  small_literal : (n : ℕ) → n < 2 ^ 63 → Lawful (literal (pos n))
  small_literal n h = number_lawful reach n h

  written_lawful : (v : ℤ) → unsigned_abs v < 2 ^ 63 → Lawful (written v)
  written_lawful v h = written_is_lawful reach v h

  power_lawful : (k : ℕ) → k ≤ 62 → Lawful (power k)
  power_lawful k h = let few : 2 ^ k ≤ 2 ^ 62 = pow_mono h in small_literal (2 ^ k) (omega (arith, few))

  nought_lawful : Lawful nought
  nought_lawful = small_literal 0 (omega arith)

  one_lawful : Lawful (literal (pos 1))
  one_lawful = small_literal 1 (omega arith)

  aligned_lawful : (e : ExprTree) (f F : ℕ) → F - f ≤ 62 → Lawful e → Lawful (aligned e f F)
  aligned_lawful e f F few h = by (f == F)
    where
      by : (b : Bool) → Lawful (if b then e else binary Mul e (power (F - f)))
      by true = h
      by false = (h, power_lawful (F - f) few)

  rounded_lawful : (e : ExprTree) (f g : ℕ) (how : How) → g - f ≤ 62 → f - g ≤ 62 → Lawful e → Lawful (rounded_code e f g how)
  rounded_lawful e f g how few low h = by (nat_le f g)
    where
      by : (b : Bool) → Lawful (if b then aligned e f g else pure (rounding_position how.round) (exprs_of_list (e ∷ power (f - g) ∷ [])))
      by true = aligned_lawful e f g few h
      by false = let there = rounding_there reach.pures prelude how.round in
          (there.0, there.1, there.2, (h, (power_lawful (f - g) low, tt)))

  cast_lawful : (over : Over) (t : FixType) (e : ExprTree) → Lawful e → Lawful (cast over t e)
  cast_lawful Saturate t e h =
      let there = by_params reach.pures 6 3 prelude (omega arith) refl in (
        there.0,
        there.1,
        there.2,
        (h, (written_lawful (least_of t) (least_small t), (written_lawful (greatest_of t) (greatest_small t), tt))),
      )
  cast_lawful Wrap t e h =
      let there = by_params reach.pures 7 3 prelude (omega arith) refl in (
        there.0,
        there.1,
        there.2,
        (
          h,
          (
            written_lawful (least_of t) (least_small t),
            (power_lawful t.bits (let few = t.in_profile.1 in omega (arith, few)), tt),
          ),
        ),
      )

  converted_lawful : (e : ExprTree) (f : ℕ) (range : Option Range) (to : FixType) (how : How) → f - to.frac ≤ 62 → Lawful e →
      Lawful (converted e f range to how)
  converted_lawful e f range to how few h = by (surely_holds to f range)
    where
      whole : Lawful (rounded_code e f to.frac how)
      whole = rounded_lawful e f to.frac how (let low = to.in_profile.2 in omega (arith, low)) few h

      by : (held : Bool) → Lawful (if held then rounded_code e f to.frac how else cast how.over to (rounded_code e f to.frac how))
      by true = whole
      by false = cast_lawful how.over to (rounded_code e f to.frac how) whole

  either_lawful : (first : Option Bool) (test : CondTree) (a b : ExprTree) → LawfulTest test → Lawful a → Lawful b →
      Lawful (either_code first test a b)
  either_lawful None test a b h p q = (h, p, q)
  either_lawful (Some true) test a b h p q = p
  either_lawful (Some false) test a b h p q = q

  signed_lawful : (minus : Bool) (e : ExprTree) → Lawful e → Lawful (signed minus e)
  signed_lawful true e h = h
  signed_lawful false e h = h

  module _ (leaves : List Leaf) (given : AllByRecursion (IsLawfulLeaf reach) leaves) where
    input_lawful : (i : ℕ) → Lawful (input_code leaves i)
    input_lawful i = by leaves i given
      where
        by : (ls : List Leaf) (i : ℕ) → AllByRecursion (IsLawfulLeaf reach) ls → Lawful (input_code ls i)
        by [] i h = nought_lawful
        by (l ∷ ls) zero h = h.0
        by (l ∷ ls) (suc i) h = by ls i h.1

    sum_lawful : (minus F : ℕ) (fs : List ℕ) → F ≤ 31 → Lawful (sum_code minus F fs leaves)
    sum_lawful minus F fs few =
        balanced_all (binary Add) Lawful (λ a b p q. (p, q)) nought (term_codes minus F 0 fs leaves) nought_lawful
        (by 0 fs leaves given)
      where
        by : (i : ℕ) (fs : List ℕ) (ls : List Leaf) → AllByRecursion (IsLawfulLeaf reach) ls →
            AllByRecursion Lawful (term_codes minus F i fs ls)
        by i [] ls h = tt
        by i (f ∷ fs) [] h = tt
        by i (f ∷ fs) (l ∷ ls) h = (
          signed_lawful (bit_at minus i == 1) (aligned (read l) f F)
              (aligned_lawful (read l) f F (omega (arith, few)) h.0),
          by (suc i) fs ls h.1,
        )

    product_lawful : Lawful (product_code leaves)
    product_lawful = balanced_all (binary Mul) Lawful (λ a b p q. (p, q)) (literal (pos 1)) (map read leaves) one_lawful (by leaves given)
      where
        by : (ls : List Leaf) → AllByRecursion (IsLawfulLeaf reach) ls → AllByRecursion Lawful (map read ls)
        by [] h = tt
        by (l ∷ ls) h = (h.0, by ls h.1)

    truths_lawful : AllByRecursion LawfulTest (truths leaves)
    truths_lawful = by leaves given
      where
        by : (ls : List Leaf) → AllByRecursion (IsLawfulLeaf reach) ls → AllByRecursion LawfulTest (truths ls)
        by [] h = tt
        by (l ∷ ls) h = ((h.0, nought_lawful), by ls h.1)

    all_lawful : LawfulTest (all_hold (truths leaves))
    all_lawful = balanced_all both LawfulTest (λ a b p q. (p, q)) always (truths leaves) (nought_lawful, nought_lawful) truths_lawful

    some_lawful : LawfulTest (some_holds (truths leaves))
    some_lawful = balanced_all either LawfulTest (λ a b p q. (p, q)) never (truths leaves) (nought_lawful, nought_lawful) truths_lawful

    odd_lawful : LawfulTest (odd_hold (truths leaves))
    odd_lawful =
        balanced_all differ LawfulTest (λ a b p q. ((p, one_lawful, nought_lawful), (q, one_lawful, nought_lawful)))
        never (truths leaves) (nought_lawful, nought_lawful) truths_lawful

    logic_lawful : (op : Logic) → LawfulTest (logic_code op (truths leaves))
    logic_lawful And = all_lawful
    logic_lawful Or = some_lawful
    logic_lawful Nand = all_lawful
    logic_lawful Nor = some_lawful
    logic_lawful Xor = odd_lawful
    logic_lawful Nxor = odd_lawful
    logic_lawful Not = some_lawful

    passes_lawful : (criterion : Criterion) (threshold : ℤ) → unsigned_abs threshold < 2 ^ 63 →
        LawfulTest (passes_code criterion (input_code leaves 1) threshold)
    passes_lawful Ge threshold small = (input_lawful 1, written_lawful threshold small)
    passes_lawful Gt threshold small = (input_lawful 1, written_lawful threshold small)
    passes_lawful NotZero threshold small = (input_lawful 1, nought_lawful)

    converted_input_lawful : (types : List FixType) (i f : ℕ) (to : FixType) (how : How) → f ≤ 31 →
        Lawful (converted_input leaves types i f to how)
    converted_input_lawful types i f to how few =
        converted_lawful (input_code leaves i) f (input_range types i) to how (omega (arith, few)) (input_lawful i)

    row_lawful : (op : Op) (types : List FixType) (memory : ExprTree) → IsWritable op → Lawful memory →
        Lawful (rhs_code op leaves types memory)
    row_lawful Copy types memory can has = input_lawful 0
    row_lawful (Value v) types memory can has = written_lawful v can
    row_lawful (Delay initial) types memory can has = has
    row_lawful (Line samples start) types memory can has = has
    row_lawful (Gain m frac to how) types memory can has =
        converted_lawful (binary Mul (input_code leaves 0) (written m)) frac (gain_range m types) to how can.1
        (input_lawful 0, written_lawful m can.0)
    row_lawful (Sum count minus fracs to how) types memory can has =
        let fs = take count fracs in
        converted_lawful (sum_code minus (greatest_in fs) fs leaves) (greatest_in fs)
        (sum_range minus (greatest_in fs) 0 fs types (just (pos 0))) to how (omega (arith, can.1))
        (sum_lawful minus (greatest_in fs) fs can.1)
    row_lawful (Product count frac to how) types memory can has =
        converted_lawful (product_code leaves) frac (product_range count types) to how can product_lawful
    row_lawful (Switch criterion threshold fracs to how) types memory can has =
        either_lawful (option_and_then (passes_all criterion threshold) (input_range types 1))
        (passes_code criterion (input_code leaves 1) threshold) (converted_input leaves types 0 (get_or fracs 0 0) to how)
        (converted_input leaves types 2 (get_or fracs 1 0) to how) (passes_lawful criterion threshold can.0)
        (converted_input_lawful types 0 (get_or fracs 0 0) to how can.1) (converted_input_lawful types 2 (get_or fracs 1 0) to how can.2)
    row_lawful (Relational how fracs) types memory can has = (
      (
        aligned_lawful (input_code leaves 0) (get_or fracs 0 0) (greatest_in fracs) (omega (arith, can))
            (input_lawful 0),
        aligned_lawful (input_code leaves 1) (get_or fracs 1 0) (greatest_in fracs)
            (omega (arith, can)) (input_lawful 1),
      ),
      one_lawful,
      nought_lawful,
    )
    row_lawful (Logical o count) types memory can has = (logic_lawful o, one_lawful, nought_lawful)
    row_lawful (Convert frac to how) types memory can has = converted_input_lawful types 0 frac to how can
    row_lawful Nothing types memory can has = nought_lawful

pub rows_are_lawful : RowOpsAreWritable → RowsAreLawful
rows_are_lawful writable reach op leaves types memory prelude is_row given has = row_lawful reach prelude leaves given op types memory
    (writable op is_row) has
