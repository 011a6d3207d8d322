-- A property that the parts of expressions keep holds of the codes of all rows.
use Rattle.std.proofs.Common.{ℕ, zero, suc, ◌-◌, ◌^◌, ◌==◌, nat_le, Bool, true, false, if◌then◌else◌, List, [], ◌∷◌, take, get_or, map, Option, Some, None, ℤ, pos, neg_ℤ, int_lt}
use Rattle.std.specs.Int.{bit_at}
use Rattle.std.specs.List.{AllByRecursion}
use Rattle.std.specs.Option.{option_and_then}
use Rattle.base_core.specs.declared.Compare.{Compare}
use Rattle.base_core.specs.declared.Compare.TheVariants.{Ne, Ge as AtLeast, Gt as Above}
use Rattle.base_fixed_point.specs.declared.FixType.{FixType}
use Rattle.base_fixed_point.specs.declared.Over.{Over}
use Rattle.base_fixed_point.specs.declared.Over.TheVariants.{Saturate, Wrap}
use Rattle.base_fixed_point.specs.Conversion.{least_of, greatest_of}
use Rattle.diagram_blocks.specs.declared.Criterion.{Criterion}
use Rattle.diagram_blocks.specs.declared.Criterion.TheVariants.{Ge, Gt, NotZero}
use Rattle.diagram_blocks.specs.declared.How.{How}
use Rattle.diagram_blocks.specs.declared.Logic.{Logic}
use Rattle.diagram_blocks.specs.declared.Logic.TheVariants.{And, Or, Nand, Nor, Xor, Nxor, Not}
use Rattle.diagram_blocks.specs.declared.Op.{Op}
use Rattle.diagram_blocks.specs.declared.Op.TheVariants.{Copy, Value, Delay, Line, Gain, Sum, Product, Switch, Relational, Logic as Logical, Convert, Nothing}
use Rattle.diagram_blocks.specs.Value.{greatest_in}
use Rattle.c_syntax.specs.declared.code.BinOp.{BinOp}
use Rattle.c_syntax.specs.declared.BinOp.TheVariants.{Add, Mul}
use Rattle.c_syntax.specs.declared.Leaf.{Leaf}
use Rattle.c_syntax.specs.Tree.{ExprTree, CondTree, literal, neg, read, binary, pick, pure, compare, both, either, negated, exprs_of_list}
use Rattle.emit_prelude.specs.Rules.{rounding_position}
use Rattle.emit_row_code.specs.Ranges.{just, input_range, gain_range, sum_range, product_range, surely_holds}
use Rattle.emit_row_code.specs.RowCode.{written, nought, power, aligned, rounded_code, cast, signed, term_codes, sum_code, product_code, is_true_code, differ, always, never, all_hold, some_holds, odd_hold, truths, logic_code, passes_code, passes_all, either_code, input_code, converted_input, rhs_code}
use Rattle.emit_row_code.proofs.lemmas.BalancedLaws.{balanced_all}

-- ---- Numbers, leaves and operators

-- numbers and leaves have a property, and signs and operators keep it
pub record IsKept (P : ExprTree → Type 0) : Type 0 where
  pub number : (v : ℤ) → P (literal v)
  pub leaf : (l : Leaf) → P (read l)
  pub minus : (e : ExprTree) → P e → P (neg e)
  pub joined : (o : BinOp) (a b : ExprTree) → P a → P b → P (binary o a b)

module _ (P : ExprTree → Type 0) (kept : IsKept P) where
  pub written-kept : (v : ℤ) → P (written v)
  written-kept v = by (int_lt v (pos 0))
    where
      by : (b : Bool) → P (if b then neg (literal (neg_ℤ v)) else literal v)
      by true = kept.minus (literal (neg_ℤ v)) (kept.number (neg_ℤ v))
      by false = kept.number v

  pub input-kept : (leaves : List Leaf) (i : ℕ) → P (input_code leaves i)
  input-kept [] i = kept.number (pos 0)
  input-kept (l ∷ leaves) zero = kept.leaf l
  input-kept (l ∷ leaves) (suc i) = input-kept leaves i

  pub aligned-kept : (e : ExprTree) (f F : ℕ) → P e → P (aligned e f F)
  aligned-kept e f F h = by (f == F)
    where
      by : (b : Bool) → P (if b then e else binary Mul e (power (F - f)))
      by true = h
      by false = kept.joined Mul e (power (F - f)) h (kept.number (pos (2 ^ (F - f))))

  pub sum-kept : (minus F : ℕ) (fs : List ℕ) (leaves : List Leaf) → P (sum_code minus F fs leaves)
  sum-kept minus F fs leaves =
      balanced_all (binary Add) P (λ a b p q. kept.joined Add a b p q) nought (term_codes minus F 0 fs leaves)
      (kept.number (pos 0)) (by 0 fs leaves)
    where
      sign : (minus : Bool) (e : ExprTree) → P e → P (signed minus e)
      sign true e h = kept.minus e h
      sign false e h = h

      by : (i : ℕ) (fs : List ℕ) (ls : List Leaf) → AllByRecursion P (term_codes minus F i fs ls)
      by i [] ls = tt
      by i (f ∷ fs) [] = tt
      by i (f ∷ fs) (l ∷ ls) =
          (sign (bit_at minus i == 1) (aligned (read l) f F) (aligned-kept (read l) f F (kept.leaf l)), by (suc i) fs ls)

  pub product-kept : (leaves : List Leaf) → P (product_code leaves)
  product-kept leaves =
      balanced_all (binary Mul) P (λ a b p q. kept.joined Mul a b p q) (literal (pos 1)) (map read leaves) (kept.number (pos 1))
      (by leaves)
    where
      by : (ls : List Leaf) → AllByRecursion P (map read ls)
      by [] = tt
      by (l ∷ ls) = (kept.leaf l, by ls)

-- ---- Tests

-- tests of leaves and constant tests have a property, and connectives keep it
pub record AreKept (T : CondTree → Type 0) : Type 0 where
  pub truth : (l : Leaf) → T (is_true_code (read l))
  pub all_of_none : T always
  pub some_of_none : T never
  pub conjunction : (a b : CondTree) → T a → T b → T (both a b)
  pub disjunction : (a b : CondTree) → T a → T b → T (either a b)
  pub difference : (a b : CondTree) → T a → T b → T (differ a b)
  pub negation : (a : CondTree) → T a → T (negated a)

module _ (T : CondTree → Type 0) (kept : AreKept T) (leaves : List Leaf) where
  truths-kept : AllByRecursion T (truths leaves)
  truths-kept = by leaves
    where
      by : (ls : List Leaf) → AllByRecursion T (truths ls)
      by [] = tt
      by (l ∷ ls) = (kept.truth l, by ls)

  all-kept : T (all_hold (truths leaves))
  all-kept = balanced_all both T (λ a b p q. kept.conjunction a b p q) always (truths leaves) kept.all_of_none truths-kept

  some-kept : T (some_holds (truths leaves))
  some-kept = balanced_all either T (λ a b p q. kept.disjunction a b p q) never (truths leaves) kept.some_of_none truths-kept

  odd-kept : T (odd_hold (truths leaves))
  odd-kept = balanced_all differ T (λ a b p q. kept.difference a b p q) never (truths leaves) kept.some_of_none truths-kept

  pub logic-kept : (o : Logic) → T (logic_code o (truths leaves))
  logic-kept And = all-kept
  logic-kept Or = some-kept
  logic-kept Nand = kept.negation (all_hold (truths leaves)) all-kept
  logic-kept Nor = kept.negation (some_holds (truths leaves)) some-kept
  logic-kept Xor = odd-kept
  logic-kept Nxor = kept.negation (odd_hold (truths leaves)) odd-kept
  logic-kept Not = kept.negation (some_holds (truths leaves)) some-kept

module _ (P : ExprTree → Type 0) (T : CondTree → Type 0) (kept : IsKept P)
    (comparison : (c : Compare) (a b : ExprTree) → P a → P b → T (compare c a b)) (leaves : List Leaf) where
  pub passes-kept : (criterion : Criterion) (threshold : ℤ) → T (passes_code criterion (input_code leaves 1) threshold)
  passes-kept Ge threshold =
      comparison AtLeast (input_code leaves 1) (written threshold) (input-kept P kept leaves 1) (written-kept P kept threshold)
  passes-kept Gt threshold =
      comparison Above (input_code leaves 1) (written threshold) (input-kept P kept leaves 1) (written-kept P kept threshold)
  passes-kept NotZero threshold =
      comparison Ne (input_code leaves 1) nought (input-kept P kept leaves 1) (kept.number (pos 0))

-- ---- Conversions

-- the calls of conversions keep a property
pub record ConversionsKeep (P : ExprTree → Type 0) : Type 0 where
  pub kept : IsKept P
  pub rounded : (how : How) (e unit : ExprTree) → P e → P unit →
      P (pure (rounding_position how.round) (exprs_of_list (e ∷ unit ∷ [])))
  pub clamped : (e least greatest : ExprTree) → P e → P least → P greatest →
      P (pure 6 (exprs_of_list (e ∷ least ∷ greatest ∷ [])))
  pub wrapped : (e least size : ExprTree) → P e → P least → P size → P (pure 7 (exprs_of_list (e ∷ least ∷ size ∷ [])))

module _ (P : ExprTree → Type 0) (conversion : ConversionsKeep P) where
  abbrev written_kept : (v : ℤ) → P (written v)
  written_kept v = written-kept P conversion.kept v

  power-kept : (k : ℕ) → P (power k)
  power-kept k = conversion.kept.number (pos (2 ^ k))

  rounded-kept : (e : ExprTree) (f g : ℕ) (how : How) → P e → P (rounded_code e f g how)
  rounded-kept e f g how h = by (nat_le f g)
    where
      by : (b : Bool) → P (if b then aligned e f g else pure (rounding_position how.round) (exprs_of_list (e ∷ power (f - g) ∷ [])))
      by true = aligned-kept P conversion.kept e f g h
      by false = conversion.rounded how e (power (f - g)) h (power-kept (f - g))

  cast-kept : (over : Over) (t : FixType) (e : ExprTree) → P e → P (cast over t e)
  cast-kept Saturate t e h =
      conversion.clamped e (written (least_of t)) (written (greatest_of t)) h (written_kept (least_of t)) (written_kept (greatest_of t))
  cast-kept Wrap t e h = conversion.wrapped e (written (least_of t)) (power t.bits) h (written_kept (least_of t)) (power-kept t.bits)

  -- what is rounded, and cast unless its type surely holds it
  pub converted-kept : (held : Bool) (e : ExprTree) (f : ℕ) (to : FixType) (how : How) → P e →
      P (if held then rounded_code e f to.frac how else cast how.over to (rounded_code e f to.frac how))
  converted-kept true e f to how h = rounded-kept e f to.frac how h
  converted-kept false e f to how h = cast-kept how.over to (rounded_code e f to.frac how) (rounded-kept e f to.frac how h)

pub either-kept : (P : ExprTree → Type 0) (T : CondTree → Type 0)
    (choice : (test : CondTree) (a b : ExprTree) → T test → P a → P b → P (pick test a b)) (first : Option Bool) (test : CondTree)
    (a b : ExprTree) → T test → P a → P b → P (either_code first test a b)
either-kept P T choice None test a b t p q = choice test a b t p q
either-kept P T choice (Some true) test a b t p q = p
either-kept P T choice (Some false) test a b t p q = q

-- ---- Rows

-- conversions, comparisons, logic and choices keep the properties of expressions and of tests
pub record CodesKeep (P : ExprTree → Type 0) (T : CondTree → Type 0) : Type 0 where
  pub conversion : ConversionsKeep P
  pub comparison : (c : Compare) (a b : ExprTree) → P a → P b → T (compare c a b)
  pub logic : (o : Logic) (leaves : List Leaf) → T (logic_code o (truths leaves))
  pub choice : (test : CondTree) (a b : ExprTree) → T test → P a → P b → P (pick test a b)

module _ (P : ExprTree → Type 0) (T : CondTree → Type 0) (codes : CodesKeep P T) (leaves : List Leaf) (types : List FixType)
    (memory : ExprTree) (remembered : P memory) where
  abbrev kept : IsKept P
  kept = codes.conversion.kept

  converted_in : (i f : ℕ) (to : FixType) (how : How) → P (converted_input leaves types i f to how)
  converted_in i f to how =
      converted-kept P codes.conversion (surely_holds to f (input_range types i)) (input_code leaves i) f to how
      (input-kept P kept leaves i)

  truth-kept : (test : CondTree) → T test → P (pick test (literal (pos 1)) nought)
  truth-kept test t = codes.choice test (literal (pos 1)) nought t (kept.number (pos 1)) (kept.number (pos 0))

  pub row-kept : (o : Op) → P (rhs_code o leaves types memory)
  row-kept Copy = input-kept P kept leaves 0
  row-kept (Value v) = written-kept P kept v
  row-kept (Delay initial) = remembered
  row-kept (Line length start) = remembered
  row-kept (Gain m frac to how) =
      converted-kept P codes.conversion (surely_holds to frac (gain_range m types)) (binary Mul (input_code leaves 0) (written m)) frac to
      how (kept.joined Mul (input_code leaves 0) (written m) (input-kept P kept leaves 0) (written-kept P kept m))
  row-kept (Sum count minus fracs to how) =
      let fs = take count fracs in
      let F = greatest_in fs in
      converted-kept P codes.conversion (surely_holds to F (sum_range minus F 0 fs types (just (pos 0)))) (sum_code minus F fs leaves) F to
      how (sum-kept P kept minus F fs leaves)
  row-kept (Product count frac to how) =
      converted-kept P codes.conversion (surely_holds to frac (product_range count types)) (product_code leaves) frac to how
      (product-kept P kept leaves)
  row-kept (Switch criterion threshold fracs to how) =
      either-kept P T codes.choice (option_and_then (passes_all criterion threshold) (input_range types 1))
      (passes_code criterion (input_code leaves 1) threshold)
      (converted_input leaves types 0 (get_or fracs 0 0) to how) (converted_input leaves types 2 (get_or fracs 1 0) to how)
      (passes-kept P T kept codes.comparison leaves criterion threshold)
      (converted_in 0 (get_or fracs 0 0) to how) (converted_in 2 (get_or fracs 1 0) to how)
  row-kept (Relational how fracs) =
      let F = greatest_in fracs in
      let a = aligned (input_code leaves 0) (get_or fracs 0 0) F in
      let b = aligned (input_code leaves 1) (get_or fracs 1 0) F in
      truth-kept (compare how a b) (codes.comparison how a b
      (aligned-kept P kept (input_code leaves 0) (get_or fracs 0 0) F (input-kept P kept leaves 0))
      (aligned-kept P kept (input_code leaves 1) (get_or fracs 1 0) F (input-kept P kept leaves 1)))
  row-kept (Logical op count) = truth-kept (logic_code op (truths leaves)) (codes.logic op leaves)
  row-kept (Convert frac to how) = converted_in 0 frac to how
  row-kept Nothing = kept.number (pos 0)
