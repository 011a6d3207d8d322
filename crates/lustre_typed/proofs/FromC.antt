-- The Lustre of a lawful expression of C has the type `int`, and that of a condition `bool`.
use Rattle.std.proofs.Common.{◌≡◌, refl, sym, ap, ◌∙◌, subst, ℕ, suc, ◌+◌, ◌<◌, ◌≤◌, max, List, [], ◌∷◌, ◌++◌, length, replicate, Some, ℤ, pos, arith}
use Rattle.std.specs.Prelude.{slice_get}
use Rattle.std.specs.List.{AllByRecursion}
use Rattle.base_core.specs.declared.Compare.{Compare}
use Rattle.base_core.specs.declared.Compare.TheVariants as how
use Rattle.c_syntax.specs.declared.BinOp.{BinOp}
use Rattle.c_syntax.specs.declared.BinOp.TheVariants as c_op
use Rattle.c_syntax.specs.declared.Leaf.{Leaf}
use Rattle.c_syntax.specs.Tree.{PureTree, ExprTree, literal, neg, read, binary, pick, pure, item, ExprTrees, no_exprs, more_exprs, CondTree, compare, both, either, negated}
use Rattle.c_syntax.specs.Lawful.{Reach, IsLawfulExpr, AreLawfulExprs, IsLawfulCond, exprs_length}
use Rattle.c_syntax.specs.Limits.{expr_depth, exprs_depth, cond_depth}
use Rattle.emit_prelude.specs.Rules.{IsPrelude}
use Rattle.emit_row_code.specs.Reading.{ReadsOnly, AllReadOnly, TestsOnly}
use Rattle.lustre_syntax.specs.declared.LusOp.{LusOp}
use Rattle.lustre_syntax.specs.declared.LusOp.TheVariants.{And, Or}
use Rattle.lustre_syntax.specs.Tree.{ValueType, int, bool, NodeTree, number, name, two, call}
use Rattle.lustre_syntax.specs.Named.{NamedExpr, NamedEquation}
use Rattle.lustre_syntax.specs.Typing.{known, meet, unless_clash, operand_type, gives_type, input_types}
use Rattle.lustre_system.specs.FromC.{operator, comparison, call_count, call_counts, cond_call_count, value_from, values_from, test_from, calls_from, all_calls_from, test_calls_from}
use Rattle.lustre_system.specs.Functions.{function_name}
use Rattle.lustre_rows.proofs.lemmas.Lists.{all-after}
use Rattle.lustre_right.specs.NodeLaws.{IsFunctionNode}
use Rattle.lustre_typed.proofs.Arity.{arity}
use Rattle.lustre_typed.proofs.Sound.{HaveTypes, AreTyped, IsSound}
use Rattle.lustre_typed.proofs.Typed.{Has, IsTyped, deeper, number-typed, name-typed, negative-typed, negation-typed, two-typed, choice-typed}

operates : (o : BinOp) →
    unless_clash (meet (operand_type (operator o)) (meet (known int) (known int))) (known (gives_type (operator o))) ≡ known int
operates c_op.Add = refl
operates c_op.Sub = refl
operates c_op.Mul = refl
operates c_op.Div = refl
operates c_op.Rem = refl

pub compares : (h : Compare) →
    unless_clash (meet (operand_type (comparison h)) (meet (known int) (known int))) (known (gives_type (comparison h))) ≡ known bool
compares how.Eq = refl
compares how.Ne = refl
compares how.Lt = refl
compares how.Le = refl
compares how.Ge = refl
compares how.Gt = refl

module _ (types : List ValueType) (place : List ℕ → ℕ) (leaf_name : Leaf → List ℕ) (part_name : ℕ → List ℕ) (reach : Reach)
    (Among : Leaf → Type 0) (named : (l : Leaf) → Among l → Has types place (leaf_name l) int) (last : ℕ)
    (parts : (k : ℕ) → 0 < k → k ≤ last → Has types place (part_name k) int) where
  abbrev value : ℕ → ExprTree → NamedExpr
  value n e = value_from leaf_name function_name part_name n e

  abbrev test : ℕ → CondTree → NamedExpr
  test n c = test_from leaf_name function_name part_name n c

  two-numbers : (o : LusOp) (x y : NamedExpr) (t : ValueType) (m n : ℕ) →
      unless_clash (meet (operand_type o) (meet (known int) (known int))) (known (gives_type o)) ≡ known t →
      IsTyped types place x int m → IsTyped types place y int n → IsTyped types place (two o x y) t (max m n + 1)
  two-numbers o x y t m n gives first second =
      two-typed types place o x y int t (max m n) gives (deeper types place x int m (max m n) (omega arith) first)
      (deeper types place y int n (max m n) (omega arith) second)

  two-tests : (o : LusOp) (x y : NamedExpr) (m n : ℕ) →
      unless_clash (meet (operand_type o) (meet (known bool) (known bool))) (known (gives_type o)) ≡ known bool →
      IsTyped types place x bool m → IsTyped types place y bool n → IsTyped types place (two o x y) bool (max m n + 1)
  two-tests o x y m n gives first second =
      two-typed types place o x y bool bool (max m n) gives (deeper types place x bool m (max m n) (omega arith) first)
      (deeper types place y bool n (max m n) (omega arith) second)

  mutual
    pub value-typed : (n : ℕ) (e : ExprTree) → n + call_count e ≤ last → ReadsOnly Among e → IsLawfulExpr reach e →
        IsTyped types place (value n e) int (expr_depth e)
    value-typed n (literal v) few given (m, is, small) =
        subst (λ (w : ℤ). IsTyped types place (number w) int 1) (sym is) (number-typed types place m small)
    value-typed n (neg a) few given lawful =
        negative-typed types place (value n a) (expr_depth a) (value-typed n a few given lawful)
    value-typed n (read leaf) few given lawful = name-typed types place (leaf_name leaf) int (named leaf given)
    value-typed n (binary o a b) few given lawful =
        two-numbers (operator o) (value n a) (value (n + call_count a) b) int (expr_depth a) (expr_depth b) (operates o)
        (value-typed n a (omega (arith, few)) given.0 lawful.0)
        (value-typed (n + call_count a) b (omega (arith, few)) given.1 lawful.1)
    value-typed n (pick c a b) few given lawful =
        let deep = max (cond_depth c) (max (expr_depth a) (expr_depth b)) in
        let x = test n c in
        let y = value (n + cond_call_count c) a in
        let z = value (n + cond_call_count c + call_count a) b in
        choice-typed types place x y z int deep
        (deeper types place x bool (cond_depth c) deep (omega arith) (test-typed n c (omega (arith, few)) given.0 lawful.0))
        (deeper types place y int (expr_depth a) deep (omega arith)
        (value-typed (n + cond_call_count c) a (omega (arith, few)) given.1 lawful.1))
        (deeper types place z int (expr_depth b) deep (omega arith)
        (value-typed (n + cond_call_count c + call_count a) b (omega (arith, few)) given.2 lawful.2))
    value-typed n (pure function values) few given lawful =
        let text = part_name (n + call_counts values + 1) in
        deeper types place (name text) int 1 (exprs_depth values + 1) (omega arith)
        (name-typed types place text int (parts (n + call_counts values + 1) (omega arith) (omega (arith, few))))
    value-typed n (item field index) few given lawful =
        deeper types place (number (pos 0)) int 1 (expr_depth index + 1) (omega arith) (number-typed types place 0 (omega arith))

    pub test-typed : (n : ℕ) (c : CondTree) → n + cond_call_count c ≤ last → TestsOnly Among c → IsLawfulCond reach c →
        IsTyped types place (test n c) bool (cond_depth c)
    test-typed n (compare h a b) few given lawful =
        two-numbers (comparison h) (value n a) (value (n + call_count a) b) bool (expr_depth a) (expr_depth b) (compares h)
        (value-typed n a (omega (arith, few)) given.0 lawful.0)
        (value-typed (n + call_count a) b (omega (arith, few)) given.1 lawful.1)
    test-typed n (both a b) few given lawful =
        two-tests And (test n a) (test (n + cond_call_count a) b) (cond_depth a) (cond_depth b) refl
        (test-typed n a (omega (arith, few)) given.0 lawful.0)
        (test-typed (n + cond_call_count a) b (omega (arith, few)) given.1 lawful.1)
    test-typed n (either a b) few given lawful =
        two-tests Or (test n a) (test (n + cond_call_count a) b) (cond_depth a) (cond_depth b) refl
        (test-typed n a (omega (arith, few)) given.0 lawful.0)
        (test-typed (n + cond_call_count a) b (omega (arith, few)) given.1 lawful.1)
    test-typed n (negated a) few given lawful =
        negation-typed types place (test n a) (cond_depth a) (test-typed n a few given lawful)

  -- the arguments of a call
  pub values-typed : (n : ℕ) (es : ExprTrees) → n + call_counts es ≤ last → AllReadOnly Among es → AreLawfulExprs reach es →
      exprs_depth es ≤ 100 →
      AreTyped types place (values_from leaf_name function_name part_name n es) (replicate (exprs_length es) int)
  values-typed n no_exprs few given lawful low = tt
  values-typed n (more_exprs e es) few given lawful low =
      let rest = values_from leaf_name function_name part_name (n + call_count e) es in
      let one_more : suc (exprs_length es) ≡ exprs_length es + 1 = omega arith in
      subst (λ k. AreTyped types place (value n e ∷ rest) (replicate k int)) one_more (
        deeper types place (value n e) int (expr_depth e) 100 (omega (arith, low))
            (value-typed n e (omega (arith, few)) given.0 lawful.0),
        values-typed (n + call_count e) es (omega (arith, few)) given.1 lawful.1 (omega (arith, low)),
      )

  module _ (prelude : IsPrelude reach.pures) (callee : List ℕ → ℕ) (earlier : List NodeTree)
      (functions : (k : ℕ) → k < 8 →
      (n : NodeTree) × (slice_get earlier (callee (function_name k)) ≡ Some n) × IsFunctionNode n k) where
    abbrev Sound : NamedEquation → Type 0
    Sound = IsSound types place callee earlier

    call-sound : (n k : ℕ) (es : ExprTrees) (p : PureTree) → n + call_counts es + 1 ≤ last → AllReadOnly Among es →
        slice_get reach.pures k ≡ Some p → length p.params ≡ exprs_length es → AreLawfulExprs reach es → exprs_depth es ≤ 100 →
        Sound (call 0 (part_name (n + call_counts es + 1) ∷ []) (function_name k) (values_from leaf_name function_name part_name n es))
    call-sound n k es p few given there many lawful low =
        let (below, ins) = arity reach.pures k p prelude there in
        let (m, at, is) = functions k below in
        let inputs : replicate (exprs_length es) int ≡ input_types m =
        ap (λ i. replicate i int) (sym many) ∙ sym ins ∙ sym is.inputs in (
          m,
          at,
          subst (λ (ts : List ValueType). HaveTypes types place (part_name (n + call_counts es + 1) ∷ []) ts) (sym is.outputs)
              (parts (n + call_counts es + 1) (omega arith) few, tt),
          subst (λ (ts : List ValueType). AreTyped types place (values_from leaf_name function_name part_name n es) ts) inputs
              (values-typed n es (omega (arith, few)) given lawful low),
        )

    mutual
      pub calls-sound : (n : ℕ) (e : ExprTree) → n + call_count e ≤ last → ReadsOnly Among e → IsLawfulExpr reach e →
          expr_depth e ≤ 100 → AllByRecursion Sound (calls_from leaf_name function_name part_name n e)
      calls-sound n (literal v) few given lawful low = tt
      calls-sound n (neg a) few given lawful low = calls-sound n a few given lawful (omega (arith, low))
      calls-sound n (read leaf) few given lawful low = tt
      calls-sound n (binary o a b) few given lawful low =
          all-after Sound (calls_from leaf_name function_name part_name n a)
          (calls_from leaf_name function_name part_name (n + call_count a) b)
          (calls-sound n a (omega (arith, few)) given.0 lawful.0 (omega (arith, low)))
          (calls-sound (n + call_count a) b (omega (arith, few)) given.1 lawful.1 (omega (arith, low)))
      calls-sound n (pick c a b) few given lawful low =
          let x = test_calls_from leaf_name function_name part_name n c in
          let y = calls_from leaf_name function_name part_name (n + cond_call_count c) a in
          let z = calls_from leaf_name function_name part_name (n + cond_call_count c + call_count a) b in
          all-after Sound (x ++ y) z
          (all-after Sound x y
          (test-calls-sound n c (omega (arith, few)) given.0 lawful.0 (omega (arith, low)))
          (calls-sound (n + cond_call_count c) a (omega (arith, few)) given.1 lawful.1 (omega (arith, low))))
          (calls-sound (n + cond_call_count c + call_count a) b (omega (arith, few)) given.2 lawful.2 (omega (arith, low)))
      calls-sound n (pure k es) few given (p, there, many, lawful) low =
          all-after Sound (all_calls_from leaf_name function_name part_name n es)
          (call 0 (part_name (n + call_counts es + 1) ∷ []) (function_name k) (values_from leaf_name function_name part_name n es) ∷ [])
          (all-calls-sound n es (omega (arith, few)) given lawful (omega (arith, low)))
          (call-sound n k es p (omega (arith, few)) given there many lawful (omega (arith, low)), tt)
      calls-sound n (item field index) few given lawful low = tt

      all-calls-sound : (n : ℕ) (es : ExprTrees) → n + call_counts es ≤ last → AllReadOnly Among es → AreLawfulExprs reach es →
          exprs_depth es ≤ 100 → AllByRecursion Sound (all_calls_from leaf_name function_name part_name n es)
      all-calls-sound n no_exprs few given lawful low = tt
      all-calls-sound n (more_exprs e es) few given lawful low =
          all-after Sound (calls_from leaf_name function_name part_name n e)
          (all_calls_from leaf_name function_name part_name (n + call_count e) es)
          (calls-sound n e (omega (arith, few)) given.0 lawful.0 (omega (arith, low)))
          (all-calls-sound (n + call_count e) es (omega (arith, few)) given.1 lawful.1 (omega (arith, low)))

      test-calls-sound : (n : ℕ) (c : CondTree) → n + cond_call_count c ≤ last → TestsOnly Among c → IsLawfulCond reach c →
          cond_depth c ≤ 100 → AllByRecursion Sound (test_calls_from leaf_name function_name part_name n c)
      test-calls-sound n (compare h a b) few given lawful low =
          all-after Sound (calls_from leaf_name function_name part_name n a)
          (calls_from leaf_name function_name part_name (n + call_count a) b)
          (calls-sound n a (omega (arith, few)) given.0 lawful.0 (omega (arith, low)))
          (calls-sound (n + call_count a) b (omega (arith, few)) given.1 lawful.1 (omega (arith, low)))
      test-calls-sound n (both a b) few given lawful low =
          all-after Sound (test_calls_from leaf_name function_name part_name n a)
          (test_calls_from leaf_name function_name part_name (n + cond_call_count a) b)
          (test-calls-sound n a (omega (arith, few)) given.0 lawful.0 (omega (arith, low)))
          (test-calls-sound (n + cond_call_count a) b (omega (arith, few)) given.1 lawful.1 (omega (arith, low)))
      test-calls-sound n (either a b) few given lawful low =
          all-after Sound (test_calls_from leaf_name function_name part_name n a)
          (test_calls_from leaf_name function_name part_name (n + cond_call_count a) b)
          (test-calls-sound n a (omega (arith, few)) given.0 lawful.0 (omega (arith, low)))
          (test-calls-sound (n + cond_call_count a) b (omega (arith, few)) given.1 lawful.1 (omega (arith, low)))
      test-calls-sound n (negated a) few given lawful low = test-calls-sound n a few given lawful (omega (arith, low))
