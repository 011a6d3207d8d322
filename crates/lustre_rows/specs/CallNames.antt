-- The names of the calls of an expression of C.
use Rattle.std.specs.Prelude.{◌≡◌, ℕ, ◌+◌, List, Option, Some, ℤ, ⊤}
use Rattle.c_syntax.specs.Tree.{ExprTree, literal, neg, read, binary, pick, pure, item, ExprTrees, no_exprs, more_exprs, CondTree, compare, both, either, negated}
use Rattle.c_semantics.specs.Values.{Function, Reads, gives, eval}
use Rattle.lustre_flows.specs.Values.{value_at}
use Rattle.lustre_system.specs.FromC.{call_count, call_counts, cond_call_count}

-- by these functions, leaves and at this line; the names of an instance have these values, that of
-- each call at its place
module _ (functions : List Function) (reads : Reads) (line : ℕ) (values : List (Option ℤ))
    (part_name : ℕ → List ℕ) (place : List ℕ → ℕ) where
  -- the names of the calls of an expression after n calls have what these give
  abbrev mutual
    pub CallsHave : ℕ → ExprTree → Type 0
    CallsHave n (literal value) = ⊤
    CallsHave n (neg a) = CallsHave n a
    CallsHave n (read leaf) = ⊤
    CallsHave n (binary op a b) = CallsHave n a × CallsHave (n + call_count a) b
    CallsHave n (pick test a b) =
        TestCallsHave n test × CallsHave (n + cond_call_count test) a
        × CallsHave (n + cond_call_count test + call_count a) b
    CallsHave n (pure function es) =
        AllCallsHave n es
        × ((steps end : ℕ) (v : ℤ) →
        eval functions reads line (pure function es) steps ≡ gives v end →
        value_at values (place (part_name (n + call_counts es + 1))) ≡ Some v)
    CallsHave n (item field index) = ⊤

    pub AllCallsHave : ℕ → ExprTrees → Type 0
    AllCallsHave n no_exprs = ⊤
    AllCallsHave n (more_exprs e es) = CallsHave n e × AllCallsHave (n + call_count e) es

    pub TestCallsHave : ℕ → CondTree → Type 0
    TestCallsHave n (compare how a b) = CallsHave n a × CallsHave (n + call_count a) b
    TestCallsHave n (both a b) = TestCallsHave n a × TestCallsHave (n + cond_call_count a) b
    TestCallsHave n (either a b) = TestCallsHave n a × TestCallsHave (n + cond_call_count a) b
    TestCallsHave n (negated a) = TestCallsHave n a
