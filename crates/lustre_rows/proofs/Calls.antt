-- Calls of the eight functions in an expression give their names what these have.
use Rattle.std.proofs.Common.{◌≡◌, refl, sym, ap, ◌∙◌, ℕ, ◌+◌, ◌<◌, List, [], ◌∷◌, ◌++◌, length, slice_index_or, Option, ℤ, neg_ℤ, arith}
use Rattle.std.specs.Prelude.{⊤}
use Rattle.c_syntax.specs.declared.CType.TheVariants.{I64}
use Rattle.c_syntax.specs.declared.Leaf.{Leaf}
use Rattle.c_syntax.specs.declared.Why.TheVariants.{Overflow}
use Rattle.c_syntax.specs.Lawful.{exprs_length}
use Rattle.c_syntax.specs.Tree.{ExprTree, literal, neg, read, binary, pick, pure, item, ExprTrees, no_exprs, more_exprs, CondTree, compare, both, either, negated}
use Rattle.c_semantics.specs.Values.{Reads, gives, and_then, within, eval, eval_all, function_at}
use Rattle.c_semantics.specs.Values as c
use Rattle.emit_prelude.specs.Rules.{params}
use Rattle.lustre_syntax.specs.Tree.{call}
use Rattle.lustre_syntax.specs.Named.{NamedEquation}
use Rattle.lustre_system.specs.FromC.{call_count, call_counts, cond_call_count, values_from, calls_from, all_calls_from, test_calls_from}
use Rattle.lustre_system.specs.Functions.{function_name}
use Rattle.lustre_functions.specs.FromCLaws.{HasNames, AllHaveNames, TestHasNames}
use Rattle.lustre_functions.specs.FunctionLaws.{NodesGiveTheSame}
use Rattle.lustre_functions.proofs.lemmas.Given.{given-first}
use Rattle.lustre_functions.proofs.lemmas.FromC.{arguments-are}
use Rattle.lustre_rows.specs.NamesOfTick.{c_functions}
use Rattle.lustre_rows.specs.EquationLaws.{GivesItsName, GiveTheirNames}
use Rattle.lustre_rows.proofs.lemmas.Lists.{all-after}

-- a call of one of the eight functions has the arguments that this takes
abbrev pub IsCall : ℕ → ExprTrees → Type 0
IsCall k es = (k < length params) × (exprs_length es ≡ length (slice_index_or params k []))

-- ---- An expression without a choice

abbrev mutual
  pub NoChoice : ExprTree → Type 0
  NoChoice (literal value) = ⊤
  NoChoice (neg a) = NoChoice a
  NoChoice (read leaf) = ⊤
  NoChoice (binary o a b) = NoChoice a × NoChoice b
  NoChoice (pick test a b) = ⊥
  NoChoice (pure k es) = AllNoChoice es × IsCall k es
  NoChoice (item field index) = ⊥

  pub AllNoChoice : ExprTrees → Type 0
  AllNoChoice no_exprs = ⊤
  AllNoChoice (more_exprs e es) = NoChoice e × AllNoChoice es

module _ (reads : Reads) where
  -- each call in an expression gives a number, from some count of steps, in the part too at which C doesn't look
  abbrev mutual
    pub CallsGive : ExprTree → Type 0
    CallsGive (literal value) = ⊤
    CallsGive (neg a) = CallsGive a
    CallsGive (read leaf) = ⊤
    CallsGive (binary o a b) = CallsGive a × CallsGive b
    CallsGive (pick test a b) = TestCallsGive test × CallsGive a × CallsGive b
    CallsGive (pure k es) =
        AllCallsGive es × IsCall k es
        × ((steps : ℕ) × (end : ℕ) × (v : ℤ) × (eval c_functions reads 0 (pure k es) steps ≡ gives v end))
    CallsGive (item field index) = ⊤

    pub AllCallsGive : ExprTrees → Type 0
    AllCallsGive no_exprs = ⊤
    AllCallsGive (more_exprs e es) = CallsGive e × AllCallsGive es

    pub TestCallsGive : CondTree → Type 0
    TestCallsGive (compare how a b) = CallsGive a × CallsGive b
    TestCallsGive (both a b) = TestCallsGive a × TestCallsGive b
    TestCallsGive (either a b) = TestCallsGive a × TestCallsGive b
    TestCallsGive (negated a) = TestCallsGive a

  count-given : (es : ExprTrees) (steps end : ℕ) (vs : List ℤ) → eval_all c_functions reads 0 es steps ≡ gives vs end →
      length vs ≡ exprs_length es
  count-given no_exprs steps end vs is = let none : [] ≡ vs = cc in ap length (sym none)
  count-given (more_exprs e es) steps end vs is =
      let (x, mid, first, after) = given-first (eval c_functions reads 0 e steps)
      (λ v count. and_then (eval_all c_functions reads 0 es count) (λ ws last. gives (v ∷ ws) last)) vs end is in
      let (xs, last, others, rest) = given-first (eval_all c_functions reads 0 es mid) (λ ws last. gives (x ∷ ws) last) vs end after in
      let whole : x ∷ xs ≡ vs = cc in
      let many = count-given es mid last xs others in
      let more = ap length (sym whole) in
      omega (arith, many, more)

  -- an expression without a choice that gives a number has calls that do
  mutual
    pub calls-give : (e : ExprTree) → NoChoice e → (steps end : ℕ) (v : ℤ) → eval c_functions reads 0 e steps ≡ gives v end → CallsGive e
    calls-give (literal value) plain steps end v is = tt
    calls-give (neg a) plain steps end v is =
        let (x, mid, first, rest) = given-first (eval c_functions reads 0 a steps)
        (λ w count. within I64 Overflow 0 (neg_ℤ w) count) v end is in
        calls-give a plain steps mid x first
    calls-give (read leaf) plain steps end v is = tt
    calls-give (binary o a b) plain steps end v is =
        let (x, mid, left, after) = given-first (eval c_functions reads 0 a steps)
        (λ x count. and_then (eval c_functions reads 0 b count) (λ y last. c.operate o 0 x y last)) v end is in
        let (y, last, right, rest) = given-first (eval c_functions reads 0 b mid) (λ y last. c.operate o 0 x y last) v end after in
        (calls-give a plain.0 steps mid x left, calls-give b plain.1 mid last y right)
    calls-give (pick test a b) plain steps end v is = absurd plain
    calls-give (pure k es) plain steps end v is =
        let (vs, mid, arguments, rest) = given-first (eval_all c_functions reads 0 es steps) (function_at c_functions k) v end is in
        (all-calls-give es plain.0 steps mid vs arguments, plain.1, (steps, end, v, is))
    calls-give (item field index) plain steps end v is = absurd plain

    all-calls-give : (es : ExprTrees) → AllNoChoice es → (steps end : ℕ) (vs : List ℤ) →
        eval_all c_functions reads 0 es steps ≡ gives vs end →
        AllCallsGive es
    all-calls-give no_exprs plain steps end vs is = tt
    all-calls-give (more_exprs e es) plain steps end vs is =
        let (x, mid, first, after) = given-first (eval c_functions reads 0 e steps)
        (λ v count. and_then (eval_all c_functions reads 0 es count) (λ ws last. gives (v ∷ ws) last)) vs end is in
        let (xs, last, others, rest) = given-first (eval_all c_functions reads 0 es mid) (λ ws last. gives (x ∷ ws) last) vs end after in
        (calls-give e plain.0 steps mid x first, all-calls-give es plain.1 mid last xs others)

-- ---- The equations of calls

module _ (law : NodesGiveTheSame) (reads : Reads) (before : Option (List (Option ℤ))) (values : List (Option ℤ)) (leaf_name : Leaf → List ℕ)
    (part_name : ℕ → List ℕ) (place : List ℕ → ℕ) where
  abbrev All : List NamedEquation → Type 0
  All = GiveTheirNames before values place

  abbrev P : NamedEquation → Type 0
  P = GivesItsName before values place

  abbrev calls : ℕ → ExprTree → List NamedEquation
  calls = calls_from leaf_name function_name part_name

  abbrev all_calls : ℕ → ExprTrees → List NamedEquation
  all_calls = all_calls_from leaf_name function_name part_name

  abbrev test_calls : ℕ → CondTree → List NamedEquation
  test_calls = test_calls_from leaf_name function_name part_name

  mutual
    pub calls-given : (n : ℕ) (e : ExprTree) → HasNames c_functions reads 0 values leaf_name part_name place n e → CallsGive reads e →
        All (calls n e)
    calls-given n (literal value) names give = tt
    calls-given n (neg a) names give = calls-given n a names give
    calls-given n (read leaf) names give = tt
    calls-given n (binary o a b) names give =
        all-after P (calls n a) (calls (n + call_count a) b) (calls-given n a names.0 give.0)
        (calls-given (n + call_count a) b names.1 give.1)
    calls-given n (pick test a b) names give =
        let na = n + cond_call_count test in
        let nb = n + cond_call_count test + call_count a in
        all-after P (test_calls n test ++ calls na a) (calls nb b)
        (all-after P (test_calls n test) (calls na a) (test-calls-given n test names.0 give.0) (calls-given na a names.1 give.1))
        (calls-given nb b names.2 give.2)
    calls-given n (pure k es) names (inner, is_call, (steps, end, v, is)) =
        let (vs, mid, arguments, rest) = given-first (eval_all c_functions reads 0 es steps) (function_at c_functions k) v end is in
        let many : length vs ≡ length (slice_index_or params k []) = count-given reads es steps mid vs arguments ∙ is_call.1 in
        all-after P (all_calls n es)
        (call 0 (part_name (n + call_counts es + 1) ∷ []) (function_name k) (values_from leaf_name function_name part_name n es) ∷ [])
        (all-calls-given n es names.0 inner) (
          record {
            function = k;
            numbers = vs;
            result = v;
            named = refl;
            is_given = arguments-are c_functions reads 0 before values leaf_name function_name part_name place n es names.0 steps mid vs
                arguments;
            gives_result = λ more. law more k mid end vs v is_call.0 many rest;
            has_result = ap (λ (x : Option ℤ). x ∷ []) (names.1 steps end v is);
          },
          tt,
        )
    calls-given n (item field index) names give = tt

    all-calls-given : (n : ℕ) (es : ExprTrees) → AllHaveNames c_functions reads 0 values leaf_name part_name place n es →
        AllCallsGive reads es → All (all_calls n es)
    all-calls-given n no_exprs names give = tt
    all-calls-given n (more_exprs e es) names give =
        all-after P (calls n e) (all_calls (n + call_count e) es) (calls-given n e names.0 give.0)
        (all-calls-given (n + call_count e) es names.1 give.1)

    test-calls-given : (n : ℕ) (test : CondTree) → TestHasNames c_functions reads 0 values leaf_name part_name place n test →
        TestCallsGive reads test → All (test_calls n test)
    test-calls-given n (compare how a b) names give =
        all-after P (calls n a) (calls (n + call_count a) b) (calls-given n a names.0 give.0)
        (calls-given (n + call_count a) b names.1 give.1)
    test-calls-given n (both a b) names give =
        all-after P (test_calls n a) (test_calls (n + cond_call_count a) b) (test-calls-given n a names.0 give.0)
        (test-calls-given (n + cond_call_count a) b names.1 give.1)
    test-calls-given n (either a b) names give =
        all-after P (test_calls n a) (test_calls (n + cond_call_count a) b) (test-calls-given n a names.0 give.0)
        (test-calls-given (n + cond_call_count a) b names.1 give.1)
    test-calls-given n (negated a) names give = test-calls-given n a names give
