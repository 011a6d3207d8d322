-- The calls of an expression of C as Lustre read its leaves and calls before them, and its value reads these.
use Rattle.std.proofs.Common.{refl, sym, subst, ℕ, ◌+◌, List, [], ◌∷◌, ◌++◌, inl, inr, append_assoc, arith}
use Rattle.std.specs.List.{AllByRecursion, flat_map}
use Rattle.c_syntax.specs.declared.Leaf.{Leaf}
use Rattle.c_syntax.specs.Tree.{ExprTree, literal, neg, read, binary, pick, pure, item, ExprTrees, no_exprs, more_exprs, CondTree, compare, both, either, negated}
use Rattle.emit_row_code.specs.Reading.{ReadsOnly, AllReadOnly, TestsOnly}
use Rattle.lustre_syntax.specs.Tree.{call}
use Rattle.lustre_syntax.specs.Named.{NamedExpr, NamedEquation}
use Rattle.lustre_system.specs.FromC.{call_count, call_counts, cond_call_count, value_from, values_from, test_from, calls_from, all_calls_from, test_calls_from}
use Rattle.lustre_right.specs.Reads.{names_now, Known, KnownAfter, InOrder}
use Rattle.lustre_rows.proofs.lemmas.Lists.{all-after, all-map}

module _ (leaf_name : Leaf → List ℕ) (function_name part_name : ℕ → List ℕ) (Given : Leaf → Type 0) where
  -- the leaves that are given are known
  abbrev pub KnowsLeaves : Known → Type 0
  KnowsLeaves known = (l : Leaf) → Given l → known (leaf_name l)

  abbrev value : ℕ → ExprTree → NamedExpr
  value n e = value_from leaf_name function_name part_name n e

  abbrev test : ℕ → CondTree → NamedExpr
  test n c = test_from leaf_name function_name part_name n c

  abbrev values : ℕ → ExprTrees → List NamedExpr
  values n es = values_from leaf_name function_name part_name n es

  abbrev calls : ℕ → ExprTree → List NamedEquation
  calls n e = calls_from leaf_name function_name part_name n e

  abbrev test_calls : ℕ → CondTree → List NamedEquation
  test_calls n c = test_calls_from leaf_name function_name part_name n c

  abbrev all_calls : ℕ → ExprTrees → List NamedEquation
  all_calls n es = all_calls_from leaf_name function_name part_name n es

  -- more equations come in order where these names are known as well
  abbrev pub Follow : Known → (texts : List (List ℕ)) → List NamedEquation → Type 1
  Follow known texts more =
      (wider : Known) → ((text : List ℕ) → known text → wider text) → AllByRecursion wider texts → InOrder wider more

  -- equations that make these names known
  abbrev Tells : (texts : List (List ℕ)) → List NamedEquation → Type 1
  Tells texts xs =
      (known : Known) (more : List NamedEquation) → KnowsLeaves known → Follow known texts more → InOrder known (xs ++ more)

  none-told : Tells [] []
  none-told known more leaves follow = follow known (λ text is. is) tt

  leaf-told : (l : Leaf) → Given l → Tells (leaf_name l ∷ []) []
  leaf-told l given known more leaves follow = follow known (λ text is. is) (leaves l given, tt)

  two-told : (first second : List (List ℕ)) (xs ys : List NamedEquation) → Tells first xs → Tells second ys →
      Tells (first ++ second) (xs ++ ys)
  two-told first second xs ys one other known more leaves follow =
      subst (InOrder known) (sym (append_assoc xs ys more))
      (one known (ys ++ more) leaves
      (λ w wide early. other w more (λ l is. wide (leaf_name l) (leaves l is))
      (λ v wider late. follow v (λ text is. wider text (wide text is))
      (all-after v first second (all-map w v wider first early) late))))

  call-told : (n function : ℕ) (es : ExprTrees) → Tells (flat_map names_now (values n es)) (all_calls n es) →
      Tells (names_now (value n (pure function es))) (calls n (pure function es))
  call-told n function es arguments known more leaves follow =
      let text = part_name (n + call_counts es + 1) in
      let c = call 0 (text ∷ []) (function_name function) (values n es) in
      subst (InOrder known) (sym (append_assoc (all_calls n es) (c ∷ []) more))
      (arguments known (c ∷ more) leaves (λ w wide early. (
        early,
        follow (KnownAfter w c) (λ other is. inl (wide other is)) (inr (0, omega arith, refl), tt),
      )))

  mutual
    value-told : (n : ℕ) (e : ExprTree) → ReadsOnly Given e → Tells (names_now (value n e)) (calls n e)
    value-told n (literal v) only = none-told
    value-told n (neg a) only = value-told n a only
    value-told n (read leaf) only = leaf-told leaf only
    value-told n (binary o a b) only =
        let m = n + call_count a in
        two-told (names_now (value n a)) (names_now (value m b)) (calls n a) (calls m b) (value-told n a only.0) (value-told m b only.1)
    value-told n (pick c a b) only =
        let m = n + cond_call_count c in
        let k = m + call_count a in
        two-told (names_now (test n c) ++ names_now (value m a)) (names_now (value k b)) (test_calls n c ++ calls m a) (calls k b)
        (two-told (names_now (test n c)) (names_now (value m a)) (test_calls n c) (calls m a) (test-told n c only.0)
        (value-told m a only.1))
        (value-told k b only.2)
    value-told n (pure function es) only = call-told n function es (values-told n es only)
    value-told n (item field index) only = none-told

    values-told : (n : ℕ) (es : ExprTrees) → AllReadOnly Given es → Tells (flat_map names_now (values n es)) (all_calls n es)
    values-told n no_exprs only = none-told
    values-told n (more_exprs e es) only =
        let m = n + call_count e in
        two-told (names_now (value n e)) (flat_map names_now (values m es)) (calls n e) (all_calls m es) (value-told n e only.0)
        (values-told m es only.1)

    test-told : (n : ℕ) (c : CondTree) → TestsOnly Given c → Tells (names_now (test n c)) (test_calls n c)
    test-told n (compare how a b) only =
        let m = n + call_count a in
        two-told (names_now (value n a)) (names_now (value m b)) (calls n a) (calls m b) (value-told n a only.0) (value-told m b only.1)
    test-told n (both a b) only =
        let m = n + cond_call_count a in
        two-told (names_now (test n a)) (names_now (test m b)) (test_calls n a) (test_calls m b) (test-told n a only.0)
        (test-told m b only.1)
    test-told n (either a b) only =
        let m = n + cond_call_count a in
        two-told (names_now (test n a)) (names_now (test m b)) (test_calls n a) (test_calls m b) (test-told n a only.0)
        (test-told m b only.1)
    test-told n (negated a) only = test-told n a only

  -- an expression's calls, and then what comes in order where its value's names are known as well
  pub calls-in-order : (e : ExprTree) (known : Known) (more : List NamedEquation) → ReadsOnly Given e → KnowsLeaves known →
      Follow known (names_now (value 0 e)) more → InOrder known (calls 0 e ++ more)
  calls-in-order e known more only leaves follow = value-told 0 e only known more leaves follow
