-- A row's code has few calls, and a delay few samples.
use Rattle.std.specs.Prelude.{◌≡◌, ℕ, ◌+◌, ◌-◌, ◌≤◌, Bool, true, false, ◌==◌, nat_le, if◌then◌else◌, List, [], ◌∷◌, take, get_or, Option, Some, None, pos}
use Rattle.std.specs.Option.{option_and_then}
use Rattle.std.proofs.Common.{refl, arith}
use Rattle.base_fixed_point.specs.declared.FixType.{FixType}
use Rattle.base_fixed_point.specs.declared.Over.{Over}
use Rattle.base_fixed_point.specs.declared.Over.TheVariants.{Saturate, Wrap}
use Rattle.base_fixed_point.specs.Conversion.{least_of, greatest_of}
use Rattle.diagram_blocks.specs.declared.How.{How}
use Rattle.diagram_blocks.specs.declared.Kind.{Kind}
use Rattle.diagram_blocks.specs.declared.Kind.TheVariants.{Delay as LongDelay, RateTransition}
use Rattle.diagram_blocks.specs.declared.Op.{Op}
use Rattle.diagram_blocks.specs.declared.Op.TheVariants.{Copy, Value, Delay, Line, Gain, Sum, Product, Switch, Relational, Logic as Logical, Convert, Nothing}
use Rattle.diagram_blocks.specs.Meaning.{op_of, delay_length}
use Rattle.diagram_blocks.specs.Value.{greatest_in}
use Rattle.diagram_meaning.specs.WellFormed.{IsKind}
use Rattle.c_syntax.specs.declared.BinOp.TheVariants.{Mul}
use Rattle.c_syntax.specs.declared.Leaf.{Leaf}
use Rattle.c_syntax.specs.Tree.{ExprTree, CondTree, read, binary, pure, exprs_of_list}
use Rattle.emit_prelude.specs.Rules.{rounding_position}
use Rattle.emit_row_code.specs.Ranges.{just, input_range, gain_range, sum_range, product_range, surely_holds}
use Rattle.emit_row_code.specs.RowCode.{written, power, aligned, rounded_code, cast, sum_code, product_code, passes_code, passes_all, either_code, input_code, converted_input, rhs_code}
use Rattle.lustre_system.specs.FromC.{call_count, cond_call_count}
use Rattle.lustre_rows.proofs.lemmas.CodeWalks.{IsKept, AreKept, written-kept, input-kept, sum-kept, product-kept, logic-kept, passes-kept}

-- ---- Code without a call

abbrev Calm : ExprTree → Type 0
Calm e = call_count e ≡ 0

abbrev CalmTest : CondTree → Type 0
CalmTest c = cond_call_count c ≡ 0

calm : IsKept Calm
calm = record {
  number = λ v. omega arith;
  leaf = λ l. omega arith;
  minus = λ e p. p;
  joined = λ o a b p q. omega (arith, p, q);
}

calm_tests : AreKept CalmTest
calm_tests = record {
  truth = λ l. omega arith;
  all_of_none = omega arith;
  some_of_none = omega arith;
  conjunction = λ a b p q. omega (arith, p, q);
  disjunction = λ a b p q. omega (arith, p, q);
  difference = λ a b p q. omega (arith, p, q);
  negation = λ a p. p;
}

aligned-few : (e : ExprTree) (f F : ℕ) → call_count (aligned e f F) ≡ call_count e
aligned-few e f F = by (f == F)
  where
    by : (b : Bool) → call_count (if b then e else binary Mul e (power (F - f))) ≡ call_count e
    by true = refl
    by false = omega arith

-- ---- Conversions

rounded-few : (e : ExprTree) (f g : ℕ) (how : How) → Calm e → call_count (rounded_code e f g how) ≤ 1
rounded-few e f g how calm = by (nat_le f g)
  where
    by : (b : Bool) → call_count (if b then aligned e f g else pure (rounding_position how.round) (exprs_of_list (e ∷ power (f - g) ∷ []))) ≤ 1
    by true = let same = aligned-few e f g in omega (arith, same, calm)
    by false = omega (arith, calm)

cast-few : (over : Over) (t : FixType) (e : ExprTree) → call_count (cast over t e) ≡ call_count e + 1
cast-few Saturate t e =
    let low = written-kept Calm calm (least_of t) in let high = written-kept Calm calm (greatest_of t) in omega (arith, low, high)
cast-few Wrap t e = let low = written-kept Calm calm (least_of t) in omega (arith, low)

-- what is rounded, and cast unless its type surely holds it
converted-few : (held : Bool) (e : ExprTree) (f : ℕ) (to : FixType) (how : How) → Calm e →
    call_count (if held then rounded_code e f to.frac how else cast how.over to (rounded_code e f to.frac how)) ≤ 2
converted-few true e f to how calm = let whole = rounded-few e f to.frac how calm in omega (arith, whole)
converted-few false e f to how calm =
    let whole = rounded-few e f to.frac how calm in
    let more = cast-few how.over to (rounded_code e f to.frac how) in
    omega (arith, whole, more)

either-few : (first : Option Bool) (test : CondTree) (a b : ExprTree) → CalmTest test → call_count a ≤ 2 → call_count b ≤ 2 →
    call_count (either_code first test a b) ≤ 4
either-few None test a b calm one two = omega (arith, calm, one, two)
either-few (Some true) test a b calm one two = omega (arith, one)
either-few (Some false) test a b calm one two = omega (arith, two)

-- ---- Rows

pub few-calls : (o : Op) (leaves : List Leaf) (types : List FixType) (l : Leaf) → call_count (rhs_code o leaves types (read l)) ≤ 4
few-calls Copy leaves types l = let none = input-kept Calm calm leaves 0 in omega (arith, none)
few-calls (Value v) leaves types l = let none = written-kept Calm calm v in omega (arith, none)
few-calls (Delay initial) leaves types l = omega arith
few-calls (Line length start) leaves types l = omega arith
few-calls (Gain m frac to how) leaves types l =
    let one = input-kept Calm calm leaves 0 in
    let two = written-kept Calm calm m in
    let few = converted-few (surely_holds to frac (gain_range m types)) (binary Mul (input_code leaves 0) (written m)) frac to how
    (omega (arith, one, two)) in
    omega (arith, few)
few-calls (Sum count minus fracs to how) leaves types l =
    let fs = take count fracs in
    let F = greatest_in fs in
    let few = converted-few (surely_holds to F (sum_range minus F 0 fs types (just (pos 0)))) (sum_code minus F fs leaves) F to how
    (sum-kept Calm calm minus F fs leaves) in
    omega (arith, few)
few-calls (Product count frac to how) leaves types l =
    let few = converted-few (surely_holds to frac (product_range count types)) (product_code leaves) frac to how
    (product-kept Calm calm leaves) in
    omega (arith, few)
few-calls (Switch criterion threshold fracs to how) leaves types l =
    either-few (option_and_then (passes_all criterion threshold) (input_range types 1))
    (passes_code criterion (input_code leaves 1) threshold)
    (converted_input leaves types 0 (get_or fracs 0 0) to how) (converted_input leaves types 2 (get_or fracs 1 0) to how)
    (passes-kept Calm CalmTest calm (λ c a b p q. omega (arith, p, q)) leaves criterion threshold)
    (converted-few (surely_holds to (get_or fracs 0 0) (input_range types 0)) (input_code leaves 0) (get_or fracs 0 0) to how
    (input-kept Calm calm leaves 0))
    (converted-few (surely_holds to (get_or fracs 1 0) (input_range types 2)) (input_code leaves 2) (get_or fracs 1 0) to how
    (input-kept Calm calm leaves 2))
few-calls (Relational how fracs) leaves types l =
    let F = greatest_in fracs in
    let one = aligned-few (input_code leaves 0) (get_or fracs 0 0) F in
    let two = aligned-few (input_code leaves 1) (get_or fracs 1 0) F in
    let first = input-kept Calm calm leaves 0 in
    let second = input-kept Calm calm leaves 1 in
    omega (arith, one, two, first, second)
few-calls (Logical op count) leaves types l = let none = logic-kept CalmTest calm_tests leaves op in omega (arith, none)
few-calls (Convert frac to how) leaves types l =
    let few = converted-few (surely_holds to frac (input_range types 0)) (input_code leaves 0) frac to how
    (input-kept Calm calm leaves 0) in
    omega (arith, few)
few-calls Nothing leaves types l = omega arith

pub few-samples : (k : Kind) (ts : List FixType) (out : FixType) (delays : Bool) → IsKind k → delay_length (op_of k ts out delays) ≤ 65535
few-samples (LongDelay samples initial) ts out delays limits = limits.1
few-samples (RateTransition initial time) ts out true limits = omega arith
few-samples (RateTransition initial time) ts out false limits = omega arith
few-samples _ ts out delays limits = omega arith
