-- When an evaluation refines another: wherever the other isn't stuck it gives the same, after no
-- more steps.
use Rattle.std.specs.Prelude.{◌≡◌, ℕ, ◌≤◌, List, ℤ, ⊤}
use Rattle.c_syntax.specs.declared.code.CType.{CType}
use Rattle.c_syntax.specs.Tree.{ExprTree, ExprTrees, CondTree}
use Rattle.c_semantics.specs.Cells.{Cells}
use Rattle.c_semantics.specs.Values.{Answer, gives, sticks, Function, function_at, reads, eval, eval_cond}
use Rattle.c_semantics.specs.Machine.{Scope, arguments}

-- ---- Answers

-- an answer that isn't stuck is the other's too
abbrev pub RefinesAnswer : {A : Type 0} → Answer A → Answer A → Type 0
RefinesAnswer (gives result steps) (gives other count) = (other ≡ result) × (count ≤ steps)
RefinesAnswer (gives result steps) (sticks at) = ⊥
RefinesAnswer (sticks at) other = ⊤

-- an answer comes at no lower count of steps
abbrev pub GivesFrom : {A : Type 0} → ℕ → Answer A → Type 0
GivesFrom steps (gives result end) = steps ≤ end
GivesFrom steps (sticks at) = ⊤

-- ---- Pure functions

-- a function gives the same from a lower count of steps, at no higher one, and never counts back
pub record IsSteady (f : Function) : Type 0 where
  pub fewer : (values : List ℤ) (n m : ℕ) → m ≤ n → RefinesAnswer (f values n) (f values m)
  pub onward : (values : List ℤ) (n : ℕ) → GivesFrom n (f values n)

abbrev pub AreSteady : List Function → Type 0
AreSteady functions = (k : ℕ) → IsSteady (function_at functions k)

-- ---- Code that is evaluated on the same fields

-- each from any count of steps, and the other from a lower one
module _ (s other : Scope) (line later : ℕ) (cells : Cells) where
  abbrev pub RefinesExpr : ExprTree → ExprTree → Type 0
  RefinesExpr e d = (n m : ℕ) → m ≤ n →
      RefinesAnswer (eval s.functions (reads s.values cells) line e n)
      (eval other.functions (reads other.values cells) later d m)

  abbrev pub RefinesCond : CondTree → CondTree → Type 0
  RefinesCond c d = (n m : ℕ) → m ≤ n →
      RefinesAnswer (eval_cond s.functions (reads s.values cells) line c n)
      (eval_cond other.functions (reads other.values cells) later d m)

  -- arguments for parameters of any types
  abbrev pub RefinesArguments : ExprTrees → ExprTrees → Type 0
  RefinesArguments es ds = (types : List CType) (n m : ℕ) → m ≤ n →
      RefinesAnswer (arguments s.functions (reads s.values cells) line types es n)
      (arguments other.functions (reads other.values cells) later types ds m)
