-- What the leaves of an expression read, and which of them the machine can evaluate.
use Rattle.std.specs.Prelude.{◌≤◌, ℕ, ℤ, pos, List, [], ◌∷◌, map, slice_get, ⊤, int_le, int_lt, unsigned_abs, ◌&&◌, if◌then◌else◌}
use Rattle.c_syntax.specs.declared.code.Leaf.{Leaf}
use Rattle.c_syntax.specs.declared.code.Leaf.TheVariants.{Param, Own, Child}
use Rattle.c_syntax.specs.Tree.{ExprTree, literal, neg, read, binary, pick, pure, item, ExprTrees, no_exprs, more_exprs, CondTree, compare, both, either, negated, PureTree}
use Rattle.c_syntax.specs.Lawful.{exprs_length}
use Rattle.c_syntax.specs.Plain.{pure_tree}
use Rattle.c_syntax.specs.declared.fault.Why.TheVariants.{Index}
use Rattle.c_semantics.specs.Values.{Answer, gives, sticks, stuck_at, Function, functions_of, Reads}
use Rattle.base_core.specs.Numbers.{int_at}
use Rattle.c_interpreter.specs.declared.values.View.{View}
use Rattle.c_interpreter.specs.Slots.{number_in, number_under, items_in}

-- what a leaf reads
abbrev pub view_leaf : View → Leaf → ℤ
view_leaf v (Param k) = int_at v.values.now k
view_leaf v (Own f) = number_in v.numbers.now (slice_get v.slots.now f)
view_leaf v (Child f g) = number_under v.layouts.now v.numbers.now (slice_get v.slots.now f) g

-- what an own array holds
abbrev pub view_array : View → ℕ → List ℤ
view_array v f = items_in v.numbers.now (slice_get v.slots.now f)

-- what is read
abbrev pub view_reads : View → Reads
view_reads v = record { leaf = view_leaf v; array = view_array v }

-- the place of an index in an array of so many items, which is stuck where there is none
abbrev pub place_in : ℕ → ℕ → ℤ → ℕ → Answer ℕ
place_in line count i steps =
    if int_le (pos 0) i && int_lt i (pos count) then gives (unsigned_abs i) steps
    else sticks (stuck_at line Index)

-- the functions that it can call
abbrev pub view_functions : View → List Function
view_functions v = functions_of [] (map pure_tree v.pures.now)

abbrev mutual
  -- each call of a pure function in an expression has at most 64 arguments
  pub IsNarrowExpr : ExprTree → Type 0
  IsNarrowExpr (literal value) = ⊤
  IsNarrowExpr (neg e) = IsNarrowExpr e
  IsNarrowExpr (read leaf) = ⊤
  IsNarrowExpr (binary op a b) = IsNarrowExpr a × IsNarrowExpr b
  IsNarrowExpr (pick test a b) = IsNarrowCond test × IsNarrowExpr a × IsNarrowExpr b
  IsNarrowExpr (pure k es) = (exprs_length es ≤ 64) × AreNarrowExprs es
  IsNarrowExpr (item f index) = IsNarrowExpr index

  pub AreNarrowExprs : ExprTrees → Type 0
  AreNarrowExprs no_exprs = ⊤
  AreNarrowExprs (more_exprs e es) = IsNarrowExpr e × AreNarrowExprs es

  pub IsNarrowCond : CondTree → Type 0
  IsNarrowCond (compare how a b) = IsNarrowExpr a × IsNarrowExpr b
  IsNarrowCond (both a b) = IsNarrowCond a × IsNarrowCond b
  IsNarrowCond (either a b) = IsNarrowCond a × IsNarrowCond b
  IsNarrowCond (negated a) = IsNarrowCond a

-- the same of the bodies of pure functions
abbrev pub AreNarrow : List PureTree → Type 0
AreNarrow [] = ⊤
AreNarrow (p ∷ ps) = IsNarrowExpr p.body × AreNarrow ps
