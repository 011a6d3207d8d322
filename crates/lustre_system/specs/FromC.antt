-- An expression of C as Lustre. A call of a pure function becomes an equation of its own, which
-- gives a further name; what is around the call reads that name. The calls of an expression are
-- numbered from 1 on, those of its parts first.
use Rattle.std.specs.Prelude.{ℕ, ◌+◌, pos, List, [], ◌∷◌, ◌++◌}
use Rattle.base_core.specs.declared.Compare.{Compare}
use Rattle.base_core.specs.declared.Compare.TheVariants as how
use Rattle.c_syntax.specs.declared.BinOp.{BinOp}
use Rattle.c_syntax.specs.declared.BinOp.TheVariants as op
use Rattle.c_syntax.specs.declared.Leaf.{Leaf}
use Rattle.c_syntax.specs.Tree.{ExprTree, literal, neg, read, binary, pick, pure, item, ExprTrees, no_exprs, more_exprs, CondTree, compare, both, either, negated}
use Rattle.lustre_syntax.specs.declared.LusOp.{LusOp}
use Rattle.lustre_syntax.specs.declared.LusOp.TheVariants.{Add, Sub, Mul, Div, Mod, Eq, Ne, Lt, Le, Gt, Ge, And, Or}
use Rattle.lustre_syntax.specs.Tree.{number, name, negative, negation, two, choice, call}
use Rattle.lustre_syntax.specs.Named.{NamedExpr, NamedEquation}

abbrev pub operator : BinOp → LusOp
operator op.Add = Add
operator op.Sub = Sub
operator op.Mul = Mul
operator op.Div = Div
operator op.Rem = Mod

abbrev pub comparison : Compare → LusOp
comparison how.Eq = Eq
comparison how.Ne = Ne
comparison how.Lt = Lt
comparison how.Le = Le
comparison how.Ge = Ge
comparison how.Gt = Gt

-- how many calls an expression has
abbrev mutual
  pub call_count : ExprTree → ℕ
  call_count (literal value) = 0
  call_count (neg a) = call_count a
  call_count (read leaf) = 0
  call_count (binary o a b) = call_count a + call_count b
  call_count (pick test a b) = cond_call_count test + (call_count a + call_count b)
  call_count (pure function values) = call_counts values + 1
  call_count (item field index) = call_count index

  pub call_counts : ExprTrees → ℕ
  call_counts no_exprs = 0
  call_counts (more_exprs e es) = call_count e + call_counts es

  pub cond_call_count : CondTree → ℕ
  cond_call_count (compare h a b) = call_count a + call_count b
  cond_call_count (both a b) = cond_call_count a + cond_call_count b
  cond_call_count (either a b) = cond_call_count a + cond_call_count b
  cond_call_count (negated a) = cond_call_count a

-- leaves have names, functions too, and so has what the call of a number gives
module _ (leaf_name : Leaf → List ℕ) (function_name part_name : ℕ → List ℕ) where
  -- the value of an expression after n calls
  abbrev mutual
    pub value_from : ℕ → ExprTree → NamedExpr
    value_from n (literal value) = number value
    value_from n (neg a) = negative (value_from n a)
    value_from n (read leaf) = name (leaf_name leaf)
    value_from n (binary o a b) =
        two (operator o) (value_from n a) (value_from (n + call_count a) b)
    value_from n (pick test a b) =
        choice (test_from n test) (value_from (n + cond_call_count test) a)
        (value_from (n + cond_call_count test + call_count a) b)
    value_from n (pure function values) = name (part_name (n + call_counts values + 1))
    -- no expression of a row reads an array
    value_from n (item field index) = number (pos 0)

    pub values_from : ℕ → ExprTrees → List NamedExpr
    values_from n no_exprs = []
    values_from n (more_exprs e es) = value_from n e ∷ values_from (n + call_count e) es

    pub test_from : ℕ → CondTree → NamedExpr
    test_from n (compare h a b) =
        two (comparison h) (value_from n a) (value_from (n + call_count a) b)
    test_from n (both a b) = two And (test_from n a) (test_from (n + cond_call_count a) b)
    test_from n (either a b) = two Or (test_from n a) (test_from (n + cond_call_count a) b)
    test_from n (negated a) = negation (test_from n a)

  -- the calls of an expression after n others
  abbrev mutual
    pub calls_from : ℕ → ExprTree → List NamedEquation
    calls_from n (literal value) = []
    calls_from n (neg a) = calls_from n a
    calls_from n (read leaf) = []
    calls_from n (binary o a b) = calls_from n a ++ calls_from (n + call_count a) b
    calls_from n (pick test a b) =
        test_calls_from n test ++ calls_from (n + cond_call_count test) a
        ++ calls_from (n + cond_call_count test + call_count a) b
    calls_from n (pure function values) =
        all_calls_from n values
        ++ call 0 (part_name (n + call_counts values + 1) ∷ []) (function_name function)
        (values_from n values) ∷ []
    calls_from n (item field index) = []

    pub all_calls_from : ℕ → ExprTrees → List NamedEquation
    all_calls_from n no_exprs = []
    all_calls_from n (more_exprs e es) = calls_from n e ++ all_calls_from (n + call_count e) es

    pub test_calls_from : ℕ → CondTree → List NamedEquation
    test_calls_from n (compare h a b) = calls_from n a ++ calls_from (n + call_count a) b
    test_calls_from n (both a b) =
        test_calls_from n a ++ test_calls_from (n + cond_call_count a) b
    test_calls_from n (either a b) =
        test_calls_from n a ++ test_calls_from (n + cond_call_count a) b
    test_calls_from n (negated a) = test_calls_from n a

  abbrev pub value_of : ExprTree → NamedExpr
  value_of e = value_from 0 e

  abbrev pub test_of : CondTree → NamedExpr
  test_of c = test_from 0 c

  abbrev pub calls_of : ExprTree → List NamedEquation
  calls_of e = calls_from 0 e
