-- What the calls in an expression give: a name for each, numbered from 1 on.
use Rattle.std.specs.Prelude.{◌≡◌, ℕ, zero, suc, ◌+◌, List, [], ◌∷◌, ◌++◌, map}
use Rattle.std.specs.List.{flat_map, range_with_len}
use Rattle.std.proofs.Common.{refl, sym, ◌∙◌, ap, ap₂, arith}
use Rattle.std.proofs.lemmas.Grind.{flat_map-append}
use Rattle.std.proofs.lemmas.List.{append_assoc, map-append}
use Rattle.c_syntax.specs.declared.Leaf.{Leaf}
use Rattle.c_syntax.specs.Tree.{ExprTree, literal, neg, read, binary, pick, pure, item, ExprTrees, no_exprs, more_exprs, CondTree, compare, both, either, negated}
use Rattle.lustre_syntax.specs.Tree.{call, given_by}
use Rattle.lustre_syntax.specs.Named.{NamedEquation}
use Rattle.lustre_system.specs.FromC.{call_count, call_counts, cond_call_count, values_from, calls_from, all_calls_from, test_calls_from}
use Rattle.lustre_rows.proofs.lemmas.SimpleCodes.{Simple, AllSimple, TestSimple}

range-append : (a j k : ℕ) → range_with_len a (j + k) ≡ range_with_len a j ++ range_with_len (a + j) k
range-append a zero k =
    let count : 0 + k ≡ k = omega arith in
    let start : a ≡ a + 0 = omega arith in
    ap (range_with_len a) count ∙ ap (λ i. range_with_len i k) start
range-append a (suc j) k =
    let count : suc j + k ≡ suc (j + k) = omega arith in
    let start : a + 1 + j ≡ a + suc j = omega arith in
    ap (range_with_len a) count
    ∙ ap (λ ks. a ∷ ks) (range-append (a + 1) j k ∙ ap (λ i. range_with_len (a + 1) j ++ range_with_len i k) start)

module _ (leaf_name : Leaf → List ℕ) (function_name part_name : ℕ → List ℕ) where
  -- the names of so many calls after n others
  abbrev pub numbered : ℕ → ℕ → List (List ℕ)
  numbered n k = map part_name (range_with_len (n + 1) k)

  joined : (n j k : ℕ) (es fs : List NamedEquation) → flat_map given_by es ≡ numbered n j → flat_map given_by fs ≡ numbered (n + j) k →
      flat_map given_by (es ++ fs) ≡ numbered n (j + k)
  joined n j k es fs first second =
      let start : n + j + 1 ≡ n + 1 + j = omega arith in
      flat_map-append given_by es fs ∙ ap₂ ◌++◌ first (second ∙ ap (λ i. map part_name (range_with_len i k)) start)
      ∙ sym (map-append part_name (range_with_len (n + 1) j) (range_with_len (n + 1 + j) k))
      ∙ ap (map part_name) (sym (range-append (n + 1) j k))

  mutual
    pub calls-given : (n : ℕ) (e : ExprTree) → Simple e →
        flat_map given_by (calls_from leaf_name function_name part_name n e) ≡ numbered n (call_count e)
    calls-given n (literal value) plain = refl
    calls-given n (neg a) plain = calls-given n a plain
    calls-given n (read leaf) plain = refl
    calls-given n (binary o a b) plain =
        joined n (call_count a) (call_count b) (calls_from leaf_name function_name part_name n a)
        (calls_from leaf_name function_name part_name (n + call_count a) b) (calls-given n a plain.0) (calls-given (n + call_count a) b plain.1)
    calls-given n (pick test a b) plain =
        let i = n + cond_call_count test in
        let j = n + cond_call_count test + call_count a in
        let first = calls_from leaf_name function_name part_name i a in
        let second = calls_from leaf_name function_name part_name j b in
        let tests = test_calls_from leaf_name function_name part_name n test in
        ap (flat_map given_by) (append_assoc tests first second)
        ∙ joined n (cond_call_count test) (call_count a + call_count b) tests (first ++ second) (test-calls-given n test plain.0)
        (joined i (call_count a) (call_count b) first second (calls-given i a plain.1) (calls-given j b plain.2))
    calls-given n (pure function values) plain =
        joined n (call_counts values) 1 (all_calls_from leaf_name function_name part_name n values)
        (call 0 (part_name (n + call_counts values + 1) ∷ []) (function_name function)
        (values_from leaf_name function_name part_name n values)
        ∷ []) (all-calls-given n values plain) refl
    calls-given n (item field index) plain = absurd plain

    pub all-calls-given : (n : ℕ) (es : ExprTrees) → AllSimple es →
        flat_map given_by (all_calls_from leaf_name function_name part_name n es) ≡ numbered n (call_counts es)
    all-calls-given n no_exprs plain = refl
    all-calls-given n (more_exprs e es) plain =
        joined n (call_count e) (call_counts es) (calls_from leaf_name function_name part_name n e)
        (all_calls_from leaf_name function_name part_name (n + call_count e) es) (calls-given n e plain.0)
        (all-calls-given (n + call_count e) es plain.1)

    pub test-calls-given : (n : ℕ) (c : CondTree) → TestSimple c →
        flat_map given_by (test_calls_from leaf_name function_name part_name n c) ≡ numbered n (cond_call_count c)
    test-calls-given n (compare how a b) plain =
        joined n (call_count a) (call_count b) (calls_from leaf_name function_name part_name n a)
        (calls_from leaf_name function_name part_name (n + call_count a) b) (calls-given n a plain.0) (calls-given (n + call_count a) b plain.1)
    test-calls-given n (both a b) plain =
        joined n (cond_call_count a) (cond_call_count b) (test_calls_from leaf_name function_name part_name n a)
        (test_calls_from leaf_name function_name part_name (n + cond_call_count a) b) (test-calls-given n a plain.0)
        (test-calls-given (n + cond_call_count a) b plain.1)
    test-calls-given n (either a b) plain =
        joined n (cond_call_count a) (cond_call_count b) (test_calls_from leaf_name function_name part_name n a)
        (test_calls_from leaf_name function_name part_name (n + cond_call_count a) b) (test-calls-given n a plain.0)
        (test-calls-given (n + cond_call_count a) b plain.1)
    test-calls-given n (negated a) plain = test-calls-given n a plain
