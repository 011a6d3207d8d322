-- What expressions and conditions come to, from what their parts come to, and where they are stuck.
use Rattle.std.specs.Prelude.{◌≡◌, ◌≢◌, ℕ, ◌+◌, ◌<◌, ◌≤◌, Bool, true, false, not, List, [], ◌∷◌, length, ℤ, pos, ◌+ℤ◌, ◌-ℤ◌, ◌*ℤ◌, neg_ℤ, int_div, int_rem}
use Rattle.base_core.specs.declared.base.Compare.{Compare}
use Rattle.c_syntax.specs.declared.code.BinOp.{BinOp}
use Rattle.c_syntax.specs.declared.code.BinOp.TheVariants.{Add, Sub, Mul, Div, Rem}
use Rattle.c_syntax.specs.declared.code.CType.TheVariants.{I64}
use Rattle.c_syntax.specs.declared.code.Leaf.{Leaf}
use Rattle.c_syntax.specs.declared.fault.Stuck.{Stuck}
use Rattle.c_syntax.specs.declared.fault.Why.TheVariants.{Overflow, ZeroDivisor, Steps, Index}
use Rattle.c_syntax.specs.Tree.{ExprTree, literal, neg, read, binary, pick, pure, item, ExprTrees, no_exprs, more_exprs, CondTree, compare, both, either, negated, PureTree}
use Rattle.c_semantics.specs.Cells.{no_cells}
use Rattle.c_semantics.specs.Values.{gives, sticks, is_in_type, compares, stuck_at, step_limit, Function, function_at, function_of, Reads, reads, eval, eval_all, eval_cond}
use Rattle.base_core.specs.Numbers.{int_at}

-- whether an int64_t holds a number
abbrev pub in_64 : ℤ → Bool
in_64 v = is_in_type I64 v

module _ (functions : List Function) (leaf : Reads) (line : ℕ) where
  -- ---- Expressions

  -- from this count of steps an expression gives a number, and that count
  abbrev pub ComesTo : ExprTree → (steps : ℕ) (v : ℤ) (end : ℕ) → Type 0
  ComesTo e steps v end = eval functions leaf line e steps ≡ gives v end

  -- and is stuck
  abbrev pub SticksAt : ExprTree → (steps : ℕ) → Stuck → Type 0
  SticksAt e steps at = eval functions leaf line e steps ≡ sticks at

  -- A negative is that of the number that its part gives, if an int64_t holds it, and is stuck
  -- else, and where its part is.
  pub record EvaluatesNegative (e : ExprTree) (steps : ℕ) : Type 0 where
    pub negative : (v : ℤ) (end : ℕ) → ComesTo e steps v end → in_64 (neg_ℤ v) ≡ true →
        ComesTo (neg e) steps (neg_ℤ v) end
    pub overflows : (v : ℤ) (end : ℕ) → ComesTo e steps v end → in_64 (neg_ℤ v) ≡ false →
        SticksAt (neg e) steps (stuck_at line Overflow)
    pub part_sticks : (at : Stuck) → SticksAt e steps at → SticksAt (neg e) steps at

  -- An operator evaluates its left side and then its right side. A sum, a difference, a product or
  -- a quotient is stuck where no int64_t holds it, and a remainder where the quotient is; both of
  -- these are also stuck where the divisor is 0.
  pub record Operates (a b : ExprTree) (steps : ℕ) (x y : ℤ) (end : ℕ) : Type 0 where
    pub sum : in_64 (x +ℤ y) ≡ true → ComesTo (binary Add a b) steps (x +ℤ y) end
    pub sum_overflows : in_64 (x +ℤ y) ≡ false →
        SticksAt (binary Add a b) steps (stuck_at line Overflow)
    pub difference : in_64 (x -ℤ y) ≡ true → ComesTo (binary Sub a b) steps (x -ℤ y) end
    pub difference_overflows : in_64 (x -ℤ y) ≡ false →
        SticksAt (binary Sub a b) steps (stuck_at line Overflow)
    pub product : in_64 (x *ℤ y) ≡ true → ComesTo (binary Mul a b) steps (x *ℤ y) end
    pub product_overflows : in_64 (x *ℤ y) ≡ false →
        SticksAt (binary Mul a b) steps (stuck_at line Overflow)
    pub quotient : y ≢ pos 0 → in_64 (int_div x y) ≡ true →
        ComesTo (binary Div a b) steps (int_div x y) end
    pub quotient_overflows : y ≢ pos 0 → in_64 (int_div x y) ≡ false →
        SticksAt (binary Div a b) steps (stuck_at line Overflow)
    pub quotient_by_zero : y ≡ pos 0 → SticksAt (binary Div a b) steps (stuck_at line ZeroDivisor)
    pub remainder : y ≢ pos 0 → in_64 (int_div x y) ≡ true →
        ComesTo (binary Rem a b) steps (int_rem x y) end
    pub remainder_overflows : y ≢ pos 0 → in_64 (int_div x y) ≡ false →
        SticksAt (binary Rem a b) steps (stuck_at line Overflow)
    pub remainder_by_zero : y ≡ pos 0 → SticksAt (binary Rem a b) steps (stuck_at line ZeroDivisor)

  pub record EvaluatesOperator (a b : ExprTree) (steps : ℕ) : Type 0 where
    pub operates : (x y : ℤ) (mid end : ℕ) → ComesTo a steps x mid → ComesTo b mid y end →
        Operates a b steps x y end
    pub left_sticks : (op : BinOp) (at : Stuck) → SticksAt a steps at →
        SticksAt (binary op a b) steps at
    pub right_sticks : (op : BinOp) (x : ℤ) (mid : ℕ) (at : Stuck) → ComesTo a steps x mid →
        SticksAt b mid at →
        SticksAt (binary op a b) steps at

  -- A choice evaluates its condition, and then that one of its expressions alone which the
  -- condition chooses.
  pub record EvaluatesChoice (test : CondTree) (a b : ExprTree) (steps : ℕ) : Type 0 where
    pub holds : (mid : ℕ) → eval_cond functions leaf line test steps ≡ gives true mid →
        eval functions leaf line (pick test a b) steps ≡ eval functions leaf line a mid
    pub fails : (mid : ℕ) → eval_cond functions leaf line test steps ≡ gives false mid →
        eval functions leaf line (pick test a b) steps ≡ eval functions leaf line b mid
    pub test_sticks : (at : Stuck) → eval_cond functions leaf line test steps ≡ sticks at →
        SticksAt (pick test a b) steps at

  -- Arguments are evaluated from the left.
  pub record EvaluatesArguments (steps : ℕ) : Type 0 where
    pub none : eval_all functions leaf line no_exprs steps ≡ gives [] steps
    pub more : (e : ExprTree) (es : ExprTrees) (v : ℤ) (vs : List ℤ) (mid end : ℕ) →
        ComesTo e steps v mid →
        eval_all functions leaf line es mid ≡ gives vs end →
        eval_all functions leaf line (more_exprs e es) steps ≡ gives (v ∷ vs) end
    pub first_sticks : (e : ExprTree) (es : ExprTrees) (at : Stuck) → SticksAt e steps at →
        eval_all functions leaf line (more_exprs e es) steps ≡ sticks at
    pub later_sticks : (e : ExprTree) (es : ExprTrees) (v : ℤ) (mid : ℕ) (at : Stuck) →
        ComesTo e steps v mid →
        eval_all functions leaf line es mid ≡ sticks at →
        eval_all functions leaf line (more_exprs e es) steps ≡ sticks at

  -- A call of a pure function does with the values of its arguments what the function does.
  pub record EvaluatesCall (k : ℕ) (es : ExprTrees) (steps : ℕ) : Type 0 where
    pub does : (vs : List ℤ) (mid : ℕ) → eval_all functions leaf line es steps ≡ gives vs mid →
        eval functions leaf line (pure k es) steps ≡ function_at functions k vs mid
    pub argument_sticks : (at : Stuck) → eval_all functions leaf line es steps ≡ sticks at →
        SticksAt (pure k es) steps at

  -- An item of an array is the one at the place that the index gives; it is stuck at an index that
  -- is no item's place.
  pub record EvaluatesItem (field : ℕ) (index : ExprTree) (steps : ℕ) : Type 0 where
    pub at_place : (i end : ℕ) → ComesTo index steps (pos i) end → i < length (leaf.array field) →
        ComesTo (item field index) steps (int_at (leaf.array field) i) end
    pub no_item : (k : ℤ) (end : ℕ) → ComesTo index steps k end →
        ((i : ℕ) → i < length (leaf.array field) → k ≢ pos i) →
        SticksAt (item field index) steps (stuck_at line Index)
    pub index_sticks : (at : Stuck) → SticksAt index steps at → SticksAt (item field index) steps at

  -- ---- Conditions

  -- from this count of steps a condition gives a truth value, and that count
  abbrev pub TestsAs : CondTree → (steps : ℕ) → Bool → (end : ℕ) → Type 0
  TestsAs c steps b end = eval_cond functions leaf line c steps ≡ gives b end

  -- and is stuck
  abbrev pub TestSticks : CondTree → (steps : ℕ) → Stuck → Type 0
  TestSticks c steps at = eval_cond functions leaf line c steps ≡ sticks at

  -- A comparison evaluates its left side and then its right side, and compares the numbers that
  -- they give.
  pub record EvaluatesComparison (how : Compare) (a b : ExprTree) (steps : ℕ) : Type 0 where
    pub compared : (x y : ℤ) (mid end : ℕ) → ComesTo a steps x mid → ComesTo b mid y end →
        TestsAs (compare how a b) steps (compares how x y) end
    pub left_sticks : (at : Stuck) → SticksAt a steps at → TestSticks (compare how a b) steps at
    pub right_sticks : (x : ℤ) (mid : ℕ) (at : Stuck) → ComesTo a steps x mid → SticksAt b mid at →
        TestSticks (compare how a b) steps at

  -- `&&` looks at its right side only where the left one holds, `||` only where it fails.
  pub record EvaluatesJoined (a b : CondTree) (steps : ℕ) : Type 0 where
    pub both_first_holds : (mid : ℕ) → TestsAs a steps true mid →
        eval_cond functions leaf line (both a b) steps ≡ eval_cond functions leaf line b mid
    pub both_first_fails : (mid : ℕ) → TestsAs a steps false mid →
        TestsAs (both a b) steps false mid
    pub both_first_sticks : (at : Stuck) → TestSticks a steps at → TestSticks (both a b) steps at
    pub either_first_holds : (mid : ℕ) → TestsAs a steps true mid →
        TestsAs (either a b) steps true mid
    pub either_first_fails : (mid : ℕ) → TestsAs a steps false mid →
        eval_cond functions leaf line (either a b) steps ≡ eval_cond functions leaf line b mid
    pub either_first_sticks : (at : Stuck) → TestSticks a steps at →
        TestSticks (either a b) steps at

  -- `!` turns the truth value of its part.
  pub record EvaluatesNegated (a : CondTree) (steps : ℕ) : Type 0 where
    pub turned : (b : Bool) (end : ℕ) → TestsAs a steps b end →
        TestsAs (negated a) steps (not b) end
    pub part_sticks : (at : Stuck) → TestSticks a steps at → TestSticks (negated a) steps at

-- ---- The laws

-- A written number and what a leaf reads are given at once; every other expression is evaluated by
-- its parts.
pub record EvaluatesExpressions (functions : List Function) (leaf : Reads)
    (line steps : ℕ) : Type 0 where
  pub number : (v : ℤ) → ComesTo functions leaf line (literal v) steps v steps
  pub reading : (l : Leaf) → ComesTo functions leaf line (read l) steps (leaf.leaf l) steps
  pub negative : (e : ExprTree) → EvaluatesNegative functions leaf line e steps
  pub operator : (a b : ExprTree) → EvaluatesOperator functions leaf line a b steps
  pub choice : (test : CondTree) (a b : ExprTree) →
      EvaluatesChoice functions leaf line test a b steps
  pub arguments : EvaluatesArguments functions leaf line steps
  pub call : (k : ℕ) (es : ExprTrees) → EvaluatesCall functions leaf line k es steps
  pub array_item : (field : ℕ) (index : ExprTree) →
      EvaluatesItem functions leaf line field index steps

abbrev pub ExpressionsAreEvaluated : Type 0
ExpressionsAreEvaluated = (functions : List Function) (leaf : Reads) (line steps : ℕ) →
    EvaluatesExpressions functions leaf line steps

pub record EvaluatesConditions (functions : List Function) (leaf : Reads)
    (line steps : ℕ) : Type 0 where
  pub comparison : (how : Compare) (a b : ExprTree) →
      EvaluatesComparison functions leaf line how a b steps
  pub joined : (a b : CondTree) → EvaluatesJoined functions leaf line a b steps
  pub opposite : (a : CondTree) → EvaluatesNegated functions leaf line a steps

abbrev pub ConditionsAreEvaluated : Type 0
ConditionsAreEvaluated = (functions : List Function) (leaf : Reads) (line steps : ℕ) →
    EvaluatesConditions functions leaf line steps

-- ---- Pure functions

-- A pure function takes a step and then evaluates its body, at its own line, on the arguments
-- alone; it is stuck where no step is left.
pub record TakesStep (earlier : List Function) (p : PureTree) (values : List ℤ)
    (steps : ℕ) : Type 0 where
  pub does : steps < step_limit →
      function_of earlier p values steps
      ≡ eval earlier (reads values no_cells) p.line p.body (steps + 1)
  pub no_step_left : step_limit ≤ steps →
      function_of earlier p values steps ≡ sticks (stuck_at p.line Steps)

abbrev pub PureFunctionsTakeAStep : Type 0
PureFunctionsTakeAStep = (earlier : List Function) (p : PureTree) (values : List ℤ) (steps : ℕ) →
    TakesStep earlier p values steps

-- ---- Without a step

-- the expression gives this number, in no step
abbrev pub Gives : List Function → Reads → ℕ → ExprTree → ℤ → Type 0
Gives functions leaf line e x = (steps : ℕ) → eval functions leaf line e steps ≡ gives x steps

-- the condition gives this truth value, in no step
abbrev pub Holds : List Function → Reads → ℕ → CondTree → Bool → Type 0
Holds functions leaf line c b = (steps : ℕ) → eval_cond functions leaf line c steps ≡ gives b steps
