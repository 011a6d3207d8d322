-- What holds of each call of a function holds of all equations for an expression, and of those of a row.
use Rattle.std.specs.Prelude.{ℕ, ◌+◌, List, [], ◌∷◌, ◌++◌, Option}
use Rattle.std.specs.List.{AllByRecursion}
use Rattle.diagram_meaning.specs.Diagram.{Diagram}
use Rattle.c_syntax.specs.declared.Leaf.{Leaf}
use Rattle.c_syntax.specs.Tree.{ExprTree, literal, neg, read, binary, pick, pure, item, ExprTrees, no_exprs, more_exprs, CondTree, compare, both, either, negated}
use Rattle.emit_shape.specs.Names.{value_name}
use Rattle.lustre_syntax.specs.Tree.{set, call}
use Rattle.lustre_syntax.specs.Named.{NamedExpr, NamedEquation}
use Rattle.lustre_system.specs.FromC.{call_count, call_counts, cond_call_count, calls_from, all_calls_from, test_calls_from, values_from}
use Rattle.lustre_system.specs.Functions.{function_name}
use Rattle.lustre_system.specs.Names.{leaf_name, part_name, takes_name}
use Rattle.lustre_system.specs.RowEquations.{row_code, row_value, runs, samples, sample_equations, memory_equations, value_equations}
use Rattle.lustre_rows.proofs.lemmas.Lists.{all-after}

-- ---- The calls of functions for an expression

module _ (P : NamedEquation → Type 0) (leaf : Leaf → List ℕ) (part : ℕ → List ℕ)
    (each : (k : ℕ) (texts : List (List ℕ)) (arguments : List NamedExpr) → P (call 0 texts (function_name k) arguments)) where
  abbrev calls : ℕ → ExprTree → List NamedEquation
  calls n e = calls_from leaf function_name part n e

  abbrev all_calls : ℕ → ExprTrees → List NamedEquation
  all_calls n es = all_calls_from leaf function_name part n es

  abbrev test_calls : ℕ → CondTree → List NamedEquation
  test_calls n c = test_calls_from leaf function_name part n c

  mutual
    pub function-calls : (n : ℕ) (e : ExprTree) → AllByRecursion P (calls n e)
    function-calls n (literal value) = tt
    function-calls n (neg a) = function-calls n a
    function-calls n (read l) = tt
    function-calls n (binary o a b) =
        all-after P (calls n a) (calls (n + call_count a) b) (function-calls n a) (function-calls (n + call_count a) b)
    function-calls n (pick test a b) =
        let m = n + cond_call_count test in
        all-after P (test_calls n test ++ calls m a) (calls (m + call_count a) b)
        (all-after P (test_calls n test) (calls m a) (test-function-calls n test) (function-calls m a))
        (function-calls (m + call_count a) b)
    function-calls n (pure function values) =
        all-after P (all_calls n values)
        (call 0 (part (n + call_counts values + 1) ∷ []) (function_name function)
        (values_from leaf function_name part n values) ∷ [])
        (all-function-calls n values)
        (each function (part (n + call_counts values + 1) ∷ []) (values_from leaf function_name part n values), tt)
    function-calls n (item field index) = tt

    pub all-function-calls : (n : ℕ) (es : ExprTrees) → AllByRecursion P (all_calls n es)
    all-function-calls n no_exprs = tt
    all-function-calls n (more_exprs e es) =
        all-after P (calls n e) (all_calls (n + call_count e) es) (function-calls n e) (all-function-calls (n + call_count e) es)

    pub test-function-calls : (n : ℕ) (c : CondTree) → AllByRecursion P (test_calls n c)
    test-function-calls n (compare h a b) =
        all-after P (calls n a) (calls (n + call_count a) b) (function-calls n a) (function-calls (n + call_count a) b)
    test-function-calls n (both a b) =
        all-after P (test_calls n a) (test_calls (n + cond_call_count a) b) (test-function-calls n a)
        (test-function-calls (n + cond_call_count a) b)
    test-function-calls n (either a b) =
        all-after P (test_calls n a) (test_calls (n + cond_call_count a) b) (test-function-calls n a)
        (test-function-calls (n + cond_call_count a) b)
    test-function-calls n (negated a) = test-function-calls n a

-- ---- The equations of a row

module _ (d : Diagram) (s : Option ℕ) (P : NamedEquation → Type 0)
    (sets : (text : List ℕ) (value : NamedExpr) → P (set 0 text value))
    (each : (k : ℕ) (texts : List (List ℕ)) (arguments : List NamedExpr) → P (call 0 texts (function_name k) arguments)) where
  pub memory-calls : (b : ℕ) → AllByRecursion P (memory_equations d s b)
  memory-calls b = (sets (takes_name b) (runs d s b), by (samples d s b))
    where
      by : (ms : List (List ℕ)) → AllByRecursion P (sample_equations d s b ms)
      by [] = tt
      by (m ∷ []) = (sets m _, tt)
      by (m ∷ n ∷ ms) = (sets m _, by (n ∷ ms))

  pub value-calls : (b : ℕ) → AllByRecursion P (value_equations d s b)
  value-calls b =
      let leaves = leaf_name d.rows s in
      all-after P (calls_from leaves function_name (part_name b) 0 (row_code d s b)) (set 0 (value_name b) (row_value d s b) ∷ [])
      (function-calls P leaves (part_name b) each 0 (row_code d s b)) (sets (value_name b) (row_value d s b), tt)
