-- Whether two tests are written alike.
use Rattle.std.specs.Prelude.{◌==◌, Bool, true, false, ◌&&◌, ◌||◌}
use Rattle.std.specs.Ordering.{int_eq}
use Rattle.base_core.specs.declared.base.Compare.{Compare}
use Rattle.base_core.specs.declared.base.Compare.TheVariants.{Eq, Ne, Lt, Le, Ge, Gt}
use Rattle.c_syntax.specs.declared.code.BinOp.{BinOp}
use Rattle.c_syntax.specs.declared.code.BinOp.TheVariants.{Add, Sub, Mul, Div, Rem}
use Rattle.c_syntax.specs.declared.code.Leaf.{Leaf}
use Rattle.c_syntax.specs.declared.code.Leaf.TheVariants.{Param, Own, Child}
use Rattle.c_syntax.specs.Tree.{ExprTree, literal, neg, read, binary, pick, pure, item, ExprTrees, no_exprs, more_exprs, CondTree, compare, both, either, negated}

-- leaves, operators and comparisons
abbrev pub same_leaf : Leaf → Leaf → Bool
same_leaf (Param k) (Param j) = k == j
same_leaf (Own f) (Own g) = f == g
same_leaf (Child f g) (Child h i) = (f == h) && (g == i)
same_leaf _ _ = false

abbrev pub same_op : BinOp → BinOp → Bool
same_op Add Add = true
same_op Sub Sub = true
same_op Mul Mul = true
same_op Div Div = true
same_op Rem Rem = true
same_op _ _ = false

abbrev pub same_compare : Compare → Compare → Bool
same_compare Eq Eq = true
same_compare Ne Ne = true
same_compare Lt Lt = true
same_compare Le Le = true
same_compare Ge Ge = true
same_compare Gt Gt = true
same_compare _ _ = false

abbrev mutual
  -- expressions, rows of them, and conditions
  pub same_expr : ExprTree → ExprTree → Bool
  same_expr (literal v) (literal w) = int_eq v w
  same_expr (neg a) (neg b) = same_expr a b
  same_expr (read k) (read l) = same_leaf k l
  same_expr (binary op a b) (binary other c d) =
      same_op op other && (same_expr a c && same_expr b d)
  same_expr (pick test a b) (pick other c d) =
      same_cond test other && (same_expr a c && same_expr b d)
  same_expr (pure k es) (pure j ds) = (k == j) && same_exprs es ds
  same_expr (item f a) (item g b) = (f == g) && same_expr a b
  same_expr _ _ = false

  pub same_exprs : ExprTrees → ExprTrees → Bool
  same_exprs no_exprs no_exprs = true
  same_exprs (more_exprs e es) (more_exprs d ds) = same_expr e d && same_exprs es ds
  same_exprs _ _ = false

  pub same_cond : CondTree → CondTree → Bool
  same_cond (compare how a b) (compare other c d) =
      same_compare how other && (same_expr a c && same_expr b d)
  same_cond (both a b) (both c d) = same_cond a c && same_cond b d
  same_cond (either a b) (either c d) = same_cond a c && same_cond b d
  same_cond (negated a) (negated b) = same_cond a b
  same_cond _ _ = false

-- one of the two is `!` of the other
abbrev pub is_not_of : CondTree → CondTree → Bool
is_not_of (negated a) b = same_cond a b
is_not_of _ b = false

abbrev pub opposite : CondTree → CondTree → Bool
opposite a b = is_not_of a b || is_not_of b a
