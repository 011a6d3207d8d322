-- Expressions and conditions with other leaves and other arrays in the places of theirs.
use Rattle.std.specs.Prelude.{ℕ}
use Rattle.c_syntax.specs.declared.code.Leaf.{Leaf}
use Rattle.c_syntax.specs.Tree.{ExprTree, literal, neg, read, binary, pick, pure, item, ExprTrees, no_exprs, more_exprs, CondTree, compare, both, either, negated}

-- what each leaf becomes, and the field of each own array
module _ (leaf : Leaf → Leaf) (array : ℕ → ℕ) where
  abbrev mutual
    pub mapped_expr : ExprTree → ExprTree
    mapped_expr (literal v) = literal v
    mapped_expr (neg e) = neg (mapped_expr e)
    mapped_expr (read l) = read (leaf l)
    mapped_expr (binary op a b) = binary op (mapped_expr a) (mapped_expr b)
    mapped_expr (pick test a b) = pick (mapped_cond test) (mapped_expr a) (mapped_expr b)
    mapped_expr (pure k es) = pure k (mapped_exprs es)
    mapped_expr (item f index) = item (array f) (mapped_expr index)

    pub mapped_exprs : ExprTrees → ExprTrees
    mapped_exprs no_exprs = no_exprs
    mapped_exprs (more_exprs e es) = more_exprs (mapped_expr e) (mapped_exprs es)

    pub mapped_cond : CondTree → CondTree
    mapped_cond (compare how a b) = compare how (mapped_expr a) (mapped_expr b)
    mapped_cond (both a b) = both (mapped_cond a) (mapped_cond b)
    mapped_cond (either a b) = either (mapped_cond a) (mapped_cond b)
    mapped_cond (negated a) = negated (mapped_cond a)
