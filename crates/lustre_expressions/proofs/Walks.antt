-- The translation of one expression after another.
use Rattle.std.proofs.Common.{◌≡◌, ℕ, ◌+◌, List, [], ◌∷◌, ◌++◌, map, drop, length, refl, sym, subst, ap, ◌∙◌, append-nil, append_assoc, arith}
use Rattle.std.proofs.lemmas.List.{map-append}
use Rattle.c_rules.proofs.lemmas.ParamLaws.{from_end}
use Rattle.c_syntax.specs.declared.code.Expr.{Expr}
use Rattle.c_syntax.specs.Plain.{expr_tree}
use Rattle.c_syntax.specs.Tree as code
use Rattle.c_syntax.specs.Tree.{pure, no_exprs, more_exprs, exprs_of_list}
use Rattle.lustre_syntax.specs.Tree.{ExprTree, EquationTree, name, call}
use Rattle.lustre_syntax.specs.Named.{renamed_equation}
use Rattle.lustre_system.specs.Functions.{function_name}
use Rattle.lustre_system.specs.FromC.{values_from, calls_from, all_calls_from, call_count, call_counts}
use Rattle.lustre_expressions.specs.Placed.{Naming, placed_value, placed_values, placed_calls, all_placed_calls}

-- what is left of all expressions, after these values and equations and n calls
pub record Walked (names : Naming) (first : ℕ) (all : code.ExprTrees) (before : List EquationTree) (list : List ExprTree)
    (now : List EquationTree) (n : ℕ) (rest : code.ExprTrees) : Type 0 where
  pub values : placed_values names first all ≡ list ++ placed_values names n rest
  pub calls : before ++ all_placed_calls names first all ≡ now ++ all_placed_calls names n rest
  pub count : first + call_counts all ≡ n + call_counts rest

module _ (names : Naming) (first : ℕ) (all : code.ExprTrees) (before : List EquationTree) where
  pub walk-begins : Walked names first all before [] before first all
  walk-begins = record { values = refl; calls = refl; count = refl }

  pub walk-on : (list : List ExprTree) (now later : List EquationTree) (n m : ℕ) (e : code.ExprTree) (es : code.ExprTrees)
      (x : ExprTree) → Walked names first all before list now n (more_exprs e es) → x ≡ placed_value names n e →
      later ≡ now ++ placed_calls names n e → m ≡ n + call_count e →
      Walked names first all before (list ++ x ∷ []) later m es
  walk-on list now later n m e es x w value called counted = record {
    values =
        w.values ∙ ap (λ y. list ++ y ∷ placed_values names (n + call_count e) es) (sym value)
        ∙ ap (λ k. list ++ x ∷ placed_values names k es) (sym counted)
        ∙ sym (append_assoc list (x ∷ []) (placed_values names m es));
    calls =
        w.calls
        ∙ ap (λ l. now ++ l) (map-append (renamed_equation names.place names.callee)
        (calls_from names.leaf_name function_name names.part_name n e)
        (all_calls_from names.leaf_name function_name names.part_name (n + call_count e) es))
        ∙ sym (append_assoc now (placed_calls names n e) (all_placed_calls names (n + call_count e) es))
        ∙ ap (λ l. l ++ all_placed_calls names (n + call_count e) es) (sym called)
        ∙ ap (λ k. later ++ all_placed_calls names k es) (sym counted);
    count = let whole = w.count in omega (arith, whole, counted);
  }

-- at the end of them
module _ (names : Naming) (first : ℕ) (before : List EquationTree) (list : List ExprTree) (now : List EquationTree) (n : ℕ)
    (es : List Expr) (i : ℕ) (past : length es ≡ i)
    (w : Walked names first (exprs_of_list (map expr_tree es)) before list now n (exprs_of_list (map expr_tree (drop i es)))) where
  all-walked : Walked names first (exprs_of_list (map expr_tree es)) before list now n no_exprs
  all-walked = subst (Walked names first (exprs_of_list (map expr_tree es)) before list now n)
      (ap exprs_of_list (from_end expr_tree es i past)) w

  pub values-end : list ≡ placed_values names first (exprs_of_list (map expr_tree es))
  values-end = sym (all-walked.values ∙ append-nil list)

  pub calls-end : now ≡ before ++ all_placed_calls names first (exprs_of_list (map expr_tree es))
  calls-end = sym (all-walked.calls ∙ append-nil now)

  pub count-end : n ≡ first + call_counts (exprs_of_list (map expr_tree es))
  count-end = let whole = all-walked.count in omega (arith, whole)

-- the calls of a call of a function: those of its arguments, then itself
module _ (names : Naming) (n f : ℕ) (es : code.ExprTrees) where
  abbrev last-call : ℕ → List ExprTree → EquationTree
  last-call k values = call 0 (k ∷ []) (names.callee (function_name f)) values

  whole-calls : placed_calls names n (pure f es)
      ≡ all_placed_calls names n es
      ++ last-call (names.place (names.part_name (n + call_counts es + 1))) (placed_values names n es) ∷ []
  whole-calls =
      map-append (renamed_equation names.place names.callee)
      (all_calls_from names.leaf_name function_name names.part_name n es)
      (call 0 (names.part_name (n + call_counts es + 1) ∷ []) (function_name f)
      (values_from names.leaf_name function_name names.part_name n es) ∷ [])

  pub calls-of-pure : (before now later : List EquationTree) (k m : ℕ) (values : List ExprTree) →
      now ≡ before ++ all_placed_calls names n es → m ≡ n + call_counts es →
      values ≡ placed_values names n es → k ≡ names.place (names.part_name (m + 1)) →
      later ≡ now ++ call 0 (k ∷ []) (names.callee (function_name f)) values ∷ [] →
      later ≡ before ++ placed_calls names n (pure f es)
  calls-of-pure before now later k m values made counted valued placed called =
      let place : k ≡ names.place (names.part_name (n + call_counts es + 1)) =
      placed ∙ ap (λ c. names.place (names.part_name (c + 1))) counted in
      called ∙ (λ i. made i ++ last-call (place i) (valued i) ∷ [])
      ∙ append_assoc before (all_placed_calls names n es)
      (last-call (names.place (names.part_name (n + call_counts es + 1))) (placed_values names n es) ∷ [])
      ∙ ap (λ l. before ++ l) (sym whole-calls)

  pub value-of-pure : (k m : ℕ) → m ≡ n + call_counts es → k ≡ names.place (names.part_name (m + 1)) →
      name k ≡ placed_value names n (pure f es)
  value-of-pure k m counted placed = ap name (placed ∙ ap (λ c. names.place (names.part_name (c + 1))) counted)
