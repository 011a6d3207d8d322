-- What expressions give at a tick. A value is a number; `true` is 1 and `false` 0.
use Rattle.std.specs.Prelude.{ℕ, ◌^◌, ℤ, pos, ◌+ℤ◌, ◌-ℤ◌, ◌*ℤ◌, neg_ℤ, int_le, int_lt, int_div, int_rem, Bool, true, false, not, ◌&&◌, ◌||◌, if◌then◌else◌, List, slice_index_or, Option, Some, None}
use Rattle.std.specs.Ordering.{int_eq}
use Rattle.lustre_syntax.specs.declared.LusOp.{LusOp}
use Rattle.lustre_syntax.specs.declared.LusOp.TheVariants.{Add, Sub, Mul, Div, Mod, Eq, Ne, Lt, Le, Gt, Ge, And, Or}
use Rattle.lustre_syntax.specs.Tree.{ExprTree, number, truth, name, negative, negation, two, choice, arrow, previous}
use Rattle.lustre_flows.specs.declared.stuck.LusWhy.{LusWhy}
use Rattle.lustre_flows.specs.declared.stuck.LusWhy.TheVariants.{Overflow, ZeroDivisor, Pre}

-- what an evaluation comes to: a value; nothing yet, since a name that it reads has no value so far;
-- or nothing at all
pub data Outcome : Type 0 where
  gives : (value : ℤ) → Outcome
  waits : Outcome
  fails : (why : LusWhy) → Outcome

-- goes on with the value, where there is one
abbrev pub and_then : Outcome → (ℤ → Outcome) → Outcome
and_then (gives value) go = go value
and_then waits go = waits
and_then (fails why) go = fails why

-- the value of an outcome, where it has one
abbrev pub value_of : Outcome → Option ℤ
value_of (gives value) = Some value
value_of waits = None
value_of (fails why) = None

-- a name's value, which is waited for where there is none
abbrev pub read : Option ℤ → Outcome
read (Some value) = gives value
read None = waits

-- whether a number has 64 bits
abbrev pub fits : ℤ → Bool
fits v = int_le (neg_ℤ (pos (2 ^ 63))) v && int_lt v (pos (2 ^ 63))

-- a number, unless it has more than 64 bits
abbrev pub checked : ℤ → Outcome
checked v = if fits v then gives v else fails Overflow

-- 1 where a test holds, else 0; and the test
abbrev pub number_of : Bool → ℤ
number_of true = pos 1
number_of false = pos 0

abbrev pub holds : ℤ → Bool
holds v = not (int_eq v (pos 0))

abbrev pub tests : Bool → Outcome
tests b = gives (number_of b)

-- the quotient towards 0, and the remainder of a quotient that has 64 bits
abbrev pub quotient : ℤ → ℤ → Outcome
quotient x y = if int_eq y (pos 0) then fails ZeroDivisor else checked (int_div x y)

abbrev pub remainder : ℤ → ℤ → Outcome
remainder x y = and_then (quotient x y) (λ q. gives (int_rem x y))

-- what an operator gives
abbrev pub operate : LusOp → ℤ → ℤ → Outcome
operate Add x y = checked (x +ℤ y)
operate Sub x y = checked (x -ℤ y)
operate Mul x y = checked (x *ℤ y)
operate Div x y = quotient x y
operate Mod x y = remainder x y
operate Eq x y = tests (int_eq x y)
operate Ne x y = tests (not (int_eq x y))
operate Lt x y = tests (int_lt x y)
operate Le x y = tests (int_le x y)
operate Gt x y = tests (int_lt y x)
operate Ge x y = tests (int_le y x)
operate And x y = tests (holds x && holds y)
operate Or x y = tests (holds x || holds y)

-- one of two outcomes, by a test
abbrev pub chosen : Bool → Outcome → Outcome → Outcome
chosen true a b = a
chosen false a b = b

-- the value that a name has in a list, where it has one
abbrev pub value_at : List (Option ℤ) → ℕ → Option ℤ
value_at values k = slice_index_or values k None

-- the first outcome at the first tick, the other one later; `before` has the values of the tick
-- before, none at the first
abbrev pub by_tick : Option (List (Option ℤ)) → Outcome → Outcome → Outcome
by_tick None first later = first
by_tick (Some before) first later = later

-- the value of a name at the tick before
abbrev pub read_before : Option (List (Option ℤ)) → ℕ → Outcome
read_before None k = fails Pre
read_before (Some before) k = read (value_at before k)

-- what an expression gives, where the names of its instance have these values: the left side comes
-- first, and only one side of a choice or an arrow is evaluated
module _ (before : Option (List (Option ℤ))) (values : List (Option ℤ)) where
  abbrev pub evaluate : ExprTree → Outcome
  evaluate (number value) = gives value
  evaluate (truth value) = tests value
  evaluate (name k) = read (value_at values k)
  evaluate (negative a) = and_then (evaluate a) (λ v. checked (neg_ℤ v))
  evaluate (negation a) = and_then (evaluate a) (λ v. tests (not (holds v)))
  evaluate (two op a b) = and_then (evaluate a) (λ x. and_then (evaluate b) (operate op x))
  evaluate (choice test a b) =
      and_then (evaluate test) (λ v. chosen (holds v) (evaluate a) (evaluate b))
  evaluate (arrow a b) = by_tick before (evaluate a) (evaluate b)
  evaluate (previous k) = read_before before k
