-- What expressions give.
use Rattle.std.specs.Prelude.{ℕ, ◌+◌, ◌-◌, ◌^◌, ℤ, pos, ◌+ℤ◌, ◌-ℤ◌, ◌*ℤ◌, neg_ℤ, int_le, int_lt, int_div, int_rem, unsigned_abs, Bool, true, false, not, ◌&&◌, nat_lt, if◌then◌else◌, List, [], ◌∷◌, ◌++◌, length, slice_index_or}
use Rattle.std.specs.Ordering.{int_eq}
use Rattle.base_core.specs.declared.base.Compare.{Compare}
use Rattle.base_core.specs.declared.base.Compare.TheVariants.{Eq, Ne, Lt, Le, Ge, Gt}
use Rattle.c_syntax.specs.declared.code.BinOp.{BinOp}
use Rattle.c_syntax.specs.declared.code.BinOp.TheVariants.{Add, Sub, Mul, Div, Rem}
use Rattle.c_syntax.specs.declared.code.CType.{CType}
use Rattle.c_syntax.specs.declared.code.CType.TheVariants.{I8, U8, I16, U16, I32, U32, I64}
use Rattle.c_syntax.specs.declared.code.Leaf.{Leaf}
use Rattle.c_syntax.specs.declared.code.Leaf.TheVariants.{Param, Own, Child}
use Rattle.c_syntax.specs.declared.fault.Stuck.{Stuck}
use Rattle.c_syntax.specs.declared.fault.Why.{Why}
use Rattle.c_syntax.specs.declared.fault.Why.TheVariants.{Overflow, ZeroDivisor, Steps, Index}
use Rattle.c_syntax.specs.Tree.{ExprTree, literal, neg, read, binary, pick, pure, item, ExprTrees, no_exprs, more_exprs, CondTree, compare, both, either, negated, PureTree}
use Rattle.c_semantics.specs.Cells.{Cells, no_cells, number_at, fields_at, items_at}
use Rattle.base_core.specs.Numbers.{int_at}

-- the least and the greatest number of a type
abbrev pub least_of : CType → ℤ
least_of I8 = neg_ℤ (pos (2 ^ 7))
least_of U8 = pos 0
least_of I16 = neg_ℤ (pos (2 ^ 15))
least_of U16 = pos 0
least_of I32 = neg_ℤ (pos (2 ^ 31))
least_of U32 = pos 0
least_of I64 = neg_ℤ (pos (2 ^ 63))

-- the greatest number of a type
abbrev pub greatest_of : CType → ℤ
greatest_of I8 = pos (2 ^ 7 - 1)
greatest_of U8 = pos (2 ^ 8 - 1)
greatest_of I16 = pos (2 ^ 15 - 1)
greatest_of U16 = pos (2 ^ 16 - 1)
greatest_of I32 = pos (2 ^ 31 - 1)
greatest_of U32 = pos (2 ^ 32 - 1)
greatest_of I64 = pos (2 ^ 63 - 1)

-- whether a number is one of a type
abbrev pub is_in_type : CType → ℤ → Bool
is_in_type t v = int_le (least_of t) v && int_le v (greatest_of t)

-- whether a comparison holds
abbrev pub compares : Compare → ℤ → ℤ → Bool
compares Eq x y = int_eq x y
compares Ne x y = not (int_eq x y)
compares Lt x y = int_lt x y
compares Le x y = int_le x y
compares Ge x y = int_le y x
compares Gt x y = int_lt y x

-- what an evaluation comes to: a result, with the count of the steps so far, or the place where it
-- is stuck
pub data Answer (A : Type 0) : Type 0 where
  gives : (result : A) (steps : ℕ) → Answer A
  sticks : (at : Stuck) → Answer A

-- goes on with the result, unless it is stuck
abbrev pub and_then : {A B : Type 0} → Answer A → (A → ℕ → Answer B) → Answer B
and_then (gives result steps) go = go result steps
and_then (sticks at) go = sticks at

-- a place where an evaluation is stuck
abbrev pub stuck_at : ℕ → Why → Stuck
stuck_at l w = record { line = l; why = w }

-- the number itself, which is stuck where it is none of the type
abbrev pub within : CType → Why → ℕ → ℤ → ℕ → Answer ℤ
within t why line v steps = if is_in_type t v then gives v steps else sticks (stuck_at line why)

-- the most steps of one call from outside
abbrev pub step_limit : ℕ
step_limit = 2 ^ 32

-- takes one more step and goes on, unless that is one too many
abbrev pub take_step : {A : Type 0} → ℕ → ℕ → (ℕ → Answer A) → Answer A
take_step line steps go =
    if nat_lt steps step_limit then go (steps + 1) else sticks (stuck_at line Steps)

-- the result of an operator; a remainder is stuck where the quotient is
abbrev pub operate : BinOp → ℕ → ℤ → ℤ → ℕ → Answer ℤ
operate Add line x y steps = within I64 Overflow line (x +ℤ y) steps
operate Sub line x y steps = within I64 Overflow line (x -ℤ y) steps
operate Mul line x y steps = within I64 Overflow line (x *ℤ y) steps
operate Div line x y steps =
    if int_eq y (pos 0) then sticks (stuck_at line ZeroDivisor)
    else within I64 Overflow line (int_div x y) steps
operate Rem line x y steps =
    if int_eq y (pos 0) then sticks (stuck_at line ZeroDivisor)
    else and_then (within I64 Overflow line (int_div x y) steps)
    (λ quotient count. gives (int_rem x y) count)

-- what a pure function gives of its arguments
abbrev pub Function : Type 0
Function = List ℤ → ℕ → Answer ℤ

-- the pure function at a position, and one that gives 0 past the end, where no lawful program calls
abbrev pub function_at : List Function → ℕ → Function
function_at functions k = slice_index_or functions k (λ values steps. gives (pos 0) steps)

-- what leaves read, and what the own arrays hold
pub record Reads : Type 0 where
  pub leaf : Leaf → ℤ
  pub array : ℕ → List ℤ

-- what a leaf reads, where these are the arguments and the own fields
abbrev pub leaf_reads : List ℤ → Cells → Leaf → ℤ
leaf_reads values cells (Param k) = int_at values k
leaf_reads values cells (Own f) = number_at cells f
leaf_reads values cells (Child f g) = number_at (fields_at cells f) g

-- what is read, where these are the arguments and the own fields
abbrev pub reads : List ℤ → Cells → Reads
reads values cells = record { leaf = leaf_reads values cells; array = items_at cells }

-- the place that an index stands for in an array, which is stuck where there is none
abbrev pub index_in : ℕ → List ℤ → ℤ → ℕ → Answer ℕ
index_in line array i steps =
    if int_le (pos 0) i && int_lt i (pos (length array)) then gives (unsigned_abs i) steps
    else sticks (stuck_at line Index)

abbrev mutual
  -- the value of an expression at a line, where `leaf` says what is read; the left side comes first
  pub eval : List Function → Reads → ℕ → ExprTree → ℕ → Answer ℤ
  eval functions leaf line (literal value) steps = gives value steps
  eval functions leaf line (neg e) steps =
      and_then (eval functions leaf line e steps)
      (λ v count. within I64 Overflow line (neg_ℤ v) count)
  eval functions leaf line (read l) steps = gives (leaf.leaf l) steps
  eval functions leaf line (binary op a b) steps =
      and_then (eval functions leaf line a steps)
      (λ x count. and_then (eval functions leaf line b count)
      (λ y end. operate op line x y end))
  eval functions leaf line (pick test a b) steps =
      and_then (eval_cond functions leaf line test steps) (λ holds. if holds
      then eval functions leaf line a else eval functions leaf line b)
  eval functions leaf line (pure k es) steps =
      and_then (eval_all functions leaf line es steps) (function_at functions k)
  eval functions leaf line (item f index) steps =
      and_then (and_then (eval functions leaf line index steps) (index_in line (leaf.array f)))
      (λ i count. gives (int_at (leaf.array f) i) count)

  -- the values of expressions, from the left
  pub eval_all : List Function → Reads → ℕ → ExprTrees → ℕ → Answer (List ℤ)
  eval_all functions leaf line no_exprs steps = gives [] steps
  eval_all functions leaf line (more_exprs e es) steps =
      and_then (eval functions leaf line e steps)
      (λ v count. and_then (eval_all functions leaf line es count)
      (λ vs end. gives (v ∷ vs) end))

  -- whether a condition holds; `&&` and `||` look at their right side only where C does
  pub eval_cond : List Function → Reads → ℕ → CondTree → ℕ → Answer Bool
  eval_cond functions leaf line (compare how a b) steps =
      and_then (eval functions leaf line a steps)
      (λ x count. and_then (eval functions leaf line b count)
      (λ y end. gives (compares how x y) end))
  eval_cond functions leaf line (both a b) steps =
      and_then (eval_cond functions leaf line a steps) (λ holds. if holds
      then eval_cond functions leaf line b else gives false)
  eval_cond functions leaf line (either a b) steps =
      and_then (eval_cond functions leaf line a steps) (λ holds. if holds then gives true
      else eval_cond functions leaf line b)
  eval_cond functions leaf line (negated a) steps =
      and_then (eval_cond functions leaf line a steps) (λ holds count. gives (not holds) count)

-- a pure function's call: one step for its `return`, at that line
abbrev pub function_of : List Function → PureTree → Function
function_of earlier p values steps =
    take_step p.line steps (eval earlier (reads values no_cells) p.line p.body)

-- the pure functions of a list; each calls only earlier ones
abbrev pub functions_of : List Function → List PureTree → List Function
functions_of earlier [] = earlier
functions_of earlier (p ∷ ps) = functions_of (earlier ++ function_of earlier p ∷ []) ps
