-- What expressions and conditions come to, from what their parts come to, and where they are stuck.
use Rattle.std.proofs.Common.{◌≡◌, ◌≢◌, refl, ap, ◌∙◌, ℕ, ◌+◌, Bool, true, false, not, if◌then◌else◌, List, ◌∷◌, length, ℤ, pos, neg_ℤ, ◌+ℤ◌, ◌-ℤ◌, ◌*ℤ◌, unsigned_abs, arith, lt-ltb, le-ltb}
use Rattle.std.specs.Prelude.{int_div, int_rem}
use Rattle.std.specs.Ordering.{int_eq}
use Rattle.std.proofs.lemmas.Int.{ints}
use Rattle.base_core.specs.declared.base.Compare.{Compare}
use Rattle.c_syntax.specs.declared.code.BinOp.{BinOp}
use Rattle.c_syntax.specs.declared.code.BinOp.TheVariants.{Add, Sub, Mul, Div, Rem}
use Rattle.c_syntax.specs.declared.fault.Why.{Why}
use Rattle.c_syntax.specs.declared.fault.Why.TheVariants.{Overflow, ZeroDivisor, Steps, Index}
use Rattle.c_syntax.specs.Tree.{ExprTree, CondTree, ExprTrees}
use Rattle.c_semantics.specs.Cells.{no_cells}
use Rattle.c_semantics.specs.Values.{Answer, gives, sticks, and_then, operate, compares, stuck_at, step_limit, Function, function_at, Reads, reads, index_in, eval, eval_all, eval_cond}
use Rattle.base_core.specs.Numbers.{int_at}
use Rattle.c_semantics.specs.EvaluationLaws.{in_64, ComesTo, Operates, EvaluatesNegative, EvaluatesOperator, EvaluatesChoice, EvaluatesArguments, EvaluatesCall, EvaluatesItem, EvaluatesComparison, EvaluatesJoined, EvaluatesNegated, ExpressionsAreEvaluated, ConditionsAreEvaluated, PureFunctionsTakeAStep}
use Rattle.c_semantics.proofs.lemmas.RunLaws.{place_passes, no_place_passes}

-- the test of a divisor
is_zero : (y : ℤ) → y ≡ pos 0 → int_eq y (pos 0) ≡ true
is_zero y e = grind (arith, ints)

is_not_zero : (y : ℤ) → y ≢ pos 0 → int_eq y (pos 0) ≡ false
is_not_zero y apart = grind (arith, ints)

module _ (functions : List Function) (leaf : Reads) (line steps : ℕ) where
  -- what a test of a number leaves
  abbrev judged : Why → ℤ → ℕ → Bool → Answer ℤ
  judged why v count b = if b then gives v count else sticks (stuck_at line why)

  -- ---- Numbers

  negative_is : (e : ExprTree) → EvaluatesNegative functions leaf line e steps
  negative_is e = record {
    negative = λ v end is fits. ap (λ a. and_then a go) is ∙ ap (judged Overflow (neg_ℤ v) end) fits;
    overflows = λ v end is not_in. ap (λ a. and_then a go) is ∙ ap (judged Overflow (neg_ℤ v) end) not_in;
    part_sticks = λ at is. ap (λ a. and_then a go) is;
  }
    where
      go : ℤ → ℕ → Answer ℤ
      go v count = judged Overflow (neg_ℤ v) count (in_64 (neg_ℤ v))

  module _ (a b : ExprTree) where
    abbrev right : BinOp → ℤ → ℕ → Answer ℤ
    right op x count = and_then (eval functions leaf line b count) (λ y end. operate op line x y end)

    module _ (x y : ℤ) (mid end : ℕ) (is : ComesTo functions leaf line a steps x mid)
        (others : ComesTo functions leaf line b mid y end) where
      both_sides : (op : BinOp) → and_then (eval functions leaf line a steps) (right op) ≡ operate op line x y end
      both_sides op = ap (λ r. and_then r (right op)) is ∙ ap (λ r. and_then r (λ w last. operate op line x w last)) others

      abbrev divided : Bool → Answer ℤ
      divided b = if b then sticks (stuck_at line ZeroDivisor) else judged Overflow (int_div x y) end (in_64 (int_div x y))

      abbrev rest : Answer ℤ → Answer ℤ
      rest r = and_then r (λ quotient count. gives (int_rem x y) count)

      abbrev taken : Bool → Answer ℤ
      taken b = if b then sticks (stuck_at line ZeroDivisor) else rest (judged Overflow (int_div x y) end (in_64 (int_div x y)))

      operates : Operates functions leaf line a b steps x y end
      operates = record {
        sum = λ fits. both_sides Add ∙ ap (judged Overflow (x +ℤ y) end) fits;
        sum_overflows = λ not_in. both_sides Add ∙ ap (judged Overflow (x +ℤ y) end) not_in;
        difference = λ fits. both_sides Sub ∙ ap (judged Overflow (x -ℤ y) end) fits;
        difference_overflows = λ not_in. both_sides Sub ∙ ap (judged Overflow (x -ℤ y) end) not_in;
        product = λ fits. both_sides Mul ∙ ap (judged Overflow (x *ℤ y) end) fits;
        product_overflows = λ not_in. both_sides Mul ∙ ap (judged Overflow (x *ℤ y) end) not_in;
        quotient = λ some fits. both_sides Div ∙ ap divided (is_not_zero y some) ∙ ap (judged Overflow (int_div x y) end) fits;
        quotient_overflows = λ some not_in. both_sides Div ∙ ap divided (is_not_zero y some)
            ∙ ap (judged Overflow (int_div x y) end) not_in;
        quotient_by_zero = λ none. both_sides Div ∙ ap divided (is_zero y none);
        remainder = λ some fits. both_sides Rem ∙ ap taken (is_not_zero y some)
            ∙ ap (λ c. rest (judged Overflow (int_div x y) end c)) fits;
        remainder_overflows = λ some not_in. both_sides Rem ∙ ap taken (is_not_zero y some)
            ∙ ap (λ c. rest (judged Overflow (int_div x y) end c)) not_in;
        remainder_by_zero = λ none. both_sides Rem ∙ ap taken (is_zero y none);
      }

    operator_is : EvaluatesOperator functions leaf line a b steps
    operator_is = record {
      operates = operates;
      left_sticks = λ op at is. ap (λ r. and_then r (right op)) is;
      right_sticks = λ op x mid at is others. ap (λ r. and_then r (right op)) is
          ∙ ap (λ r. and_then r (λ w last. operate op line x w last)) others;
    }

  choice_is : (test : CondTree) (a b : ExprTree) → EvaluatesChoice functions leaf line test a b steps
  choice_is test a b = record {
    holds = λ mid is. ap (λ r. and_then r chosen) is;
    fails = λ mid is. ap (λ r. and_then r chosen) is;
    test_sticks = λ at is. ap (λ r. and_then r chosen) is;
  }
    where
      chosen : Bool → ℕ → Answer ℤ
      chosen holds = if holds then eval functions leaf line a else eval functions leaf line b

  -- ---- Calls and arrays

  arguments_are : EvaluatesArguments functions leaf line steps
  arguments_are = record {
    none = refl;
    more = λ e es v vs mid end is others. ap (λ r. and_then r (later es)) is ∙ ap (λ r. and_then r (λ ws last. gives (v ∷ ws) last)) others;
    first_sticks = λ e es at is. ap (λ r. and_then r (later es)) is;
    later_sticks = λ e es v mid at is others. ap (λ r. and_then r (later es)) is
        ∙ ap (λ r. and_then r (λ ws last. gives (v ∷ ws) last)) others;
  }
    where
      later : ExprTrees → ℤ → ℕ → Answer (List ℤ)
      later es v count = and_then (eval_all functions leaf line es count) (λ vs end. gives (v ∷ vs) end)

  call_is : (k : ℕ) (es : ExprTrees) → EvaluatesCall functions leaf line k es steps
  call_is k es = record {
    does = λ vs mid is. ap (λ r. and_then r (function_at functions k)) is;
    argument_sticks = λ at is. ap (λ r. and_then r (function_at functions k)) is;
  }

  item_is : (field : ℕ) (index : ExprTree) → EvaluatesItem functions leaf line field index steps
  item_is field index = record {
    at_place = λ i end is within. ap found is ∙ ap (λ c. read_at (placed (pos i) end c)) (place_passes i (length array) within);
    no_item = λ k end is none. ap found is ∙ ap (λ c. read_at (placed k end c)) (no_place_passes k (length array) none);
    index_sticks = λ at is. ap found is;
  }
    where
      array : List ℤ
      array = leaf.array field

      read_at : Answer ℕ → Answer ℤ
      read_at r = and_then r (λ i count. gives (int_at array i) count)

      found : Answer ℤ → Answer ℤ
      found r = read_at (and_then r (index_in line array))

      placed : ℤ → ℕ → Bool → Answer ℕ
      placed k end c = if c then gives (unsigned_abs k) end else sticks (stuck_at line Index)

  -- ---- Conditions

  comparison_is : (how : Compare) (a b : ExprTree) → EvaluatesComparison functions leaf line how a b steps
  comparison_is how a b = record {
    compared = λ x y mid end is others. ap (λ r. and_then r other) is
        ∙ ap (λ r. and_then r (λ w last. gives (compares how x w) last)) others;
    left_sticks = λ at is. ap (λ r. and_then r other) is;
    right_sticks = λ x mid at is others. ap (λ r. and_then r other) is
        ∙ ap (λ r. and_then r (λ w last. gives (compares how x w) last)) others;
  }
    where
      other : ℤ → ℕ → Answer Bool
      other x count = and_then (eval functions leaf line b count) (λ y end. gives (compares how x y) end)

  joined_are : (a b : CondTree) → EvaluatesJoined functions leaf line a b steps
  joined_are a b = record {
    both_first_holds = λ mid is. ap (λ r. and_then r in_both) is;
    both_first_fails = λ mid is. ap (λ r. and_then r in_both) is;
    both_first_sticks = λ at is. ap (λ r. and_then r in_both) is;
    either_first_holds = λ mid is. ap (λ r. and_then r in_either) is;
    either_first_fails = λ mid is. ap (λ r. and_then r in_either) is;
    either_first_sticks = λ at is. ap (λ r. and_then r in_either) is;
  }
    where
      in_both : Bool → ℕ → Answer Bool
      in_both holds = if holds then eval_cond functions leaf line b else gives false

      in_either : Bool → ℕ → Answer Bool
      in_either holds = if holds then gives true else eval_cond functions leaf line b

  negated_is : (a : CondTree) → EvaluatesNegated functions leaf line a steps
  negated_is a = record {
    turned = λ b end is. ap (λ r. and_then r turn) is;
    part_sticks = λ at is. ap (λ r. and_then r turn) is;
  }
    where
      turn : Bool → ℕ → Answer Bool
      turn holds count = gives (not holds) count

-- ---- The laws

pub expressions_are_evaluated : ExpressionsAreEvaluated
expressions_are_evaluated functions leaf line steps = record {
  number = λ v. refl;
  reading = λ l. refl;
  negative = negative_is functions leaf line steps;
  operator = operator_is functions leaf line steps;
  choice = choice_is functions leaf line steps;
  arguments = arguments_are functions leaf line steps;
  call = call_is functions leaf line steps;
  array_item = item_is functions leaf line steps;
}

pub conditions_are_evaluated : ConditionsAreEvaluated
conditions_are_evaluated functions leaf line steps = record {
  comparison = comparison_is functions leaf line steps;
  joined = joined_are functions leaf line steps;
  opposite = negated_is functions leaf line steps;
}

pub pure_functions_take_a_step : PureFunctionsTakeAStep
pure_functions_take_a_step earlier p values steps = record {
  does = λ room. ap begun (lt-ltb steps step_limit room);
  no_step_left = λ full. ap begun (le-ltb steps step_limit full);
}
  where
    begun : Bool → Answer ℤ
    begun b = if b then eval earlier (reads values no_cells) p.line p.body (steps + 1) else sticks (stuck_at p.line Steps)
