-- Where names have what they have in other values, the names of calls have what these give.
use Rattle.std.proofs.Common.{◌≡◌, ℕ, ◌+◌, List, Option, Some, ℤ}
use Rattle.c_syntax.specs.Tree.{ExprTree, literal, neg, read, binary, pick, pure, item, ExprTrees, no_exprs, more_exprs, CondTree, compare, both, either, negated}
use Rattle.c_semantics.specs.Values.{Function, Reads}
use Rattle.lustre_flows.specs.Values.{value_at}
use Rattle.lustre_system.specs.FromC.{call_count, call_counts, cond_call_count}
use Rattle.lustre_rows.specs.CallNames.{CallsHave, AllCallsHave, TestCallsHave}

module _ (functions : List Function) (reads : Reads) (line : ℕ) (others values : List (Option ℤ)) (part_name : ℕ → List ℕ)
    (place : List ℕ → ℕ)
    (carry : (text : List ℕ) (v : ℤ) → value_at others (place text) ≡ Some v → value_at values (place text) ≡ Some v) where
  mutual
    pub calls-carried : (n : ℕ) (e : ExprTree) → CallsHave functions reads line others part_name place n e →
        CallsHave functions reads line values part_name place n e
    calls-carried n (literal value) has = tt
    calls-carried n (neg a) has = calls-carried n a has
    calls-carried n (read leaf) has = tt
    calls-carried n (binary op a b) has = (calls-carried n a has.0, calls-carried (n + call_count a) b has.1)
    calls-carried n (pick test a b) has = (
      test-carried n test has.0,
      calls-carried (n + cond_call_count test) a has.1,
      calls-carried (n + cond_call_count test + call_count a) b has.2,
    )
    calls-carried n (pure function es) has = (
      all-carried n es has.0,
      λ steps end v is. carry (part_name (n + call_counts es + 1)) v (has.1 steps end v is),
    )
    calls-carried n (item field index) has = tt

    all-carried : (n : ℕ) (es : ExprTrees) → AllCallsHave functions reads line others part_name place n es →
        AllCallsHave functions reads line values part_name place n es
    all-carried n no_exprs has = tt
    all-carried n (more_exprs e es) has = (calls-carried n e has.0, all-carried (n + call_count e) es has.1)

    test-carried : (n : ℕ) (c : CondTree) → TestCallsHave functions reads line others part_name place n c →
        TestCallsHave functions reads line values part_name place n c
    test-carried n (compare how a b) has = (calls-carried n a has.0, calls-carried (n + call_count a) b has.1)
    test-carried n (both a b) has = (test-carried n a has.0, test-carried (n + cond_call_count a) b has.1)
    test-carried n (either a b) has = (test-carried n a has.0, test-carried (n + cond_call_count a) b has.1)
    test-carried n (negated a) has = test-carried n a has
