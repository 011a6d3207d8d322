-- Rows of expressions and lists of statements that are walked from their begin.
use Rattle.std.specs.Prelude.{◌≡◌, ◌≢◌, ℕ, zero, suc, ◌+◌, ◌<◌, ◌≤◌, Bool, true, false, List, [], ◌∷◌, ◌++◌, length, map, flat_map}
use Rattle.std.proofs.Common.{refl, sym, ap, subst, ◌∙◌, arith, take, get_or}
use Rattle.std.proofs.lemmas.Bool.{and_from, and_parts, and_left, and_right}
use Rattle.std.proofs.lemmas.List.{append_assoc, take_all}
use Rattle.c_syntax.specs.declared.code.Expr.{Expr}
use Rattle.c_syntax.specs.declared.code.Stmt.{Stmt}
use Rattle.c_syntax.specs.Tree.{ExprTrees, more_exprs, exprs_of_list, stmts_of_list}
use Rattle.c_syntax.specs.Plain.{expr_tree, stmt_tree}
use Rattle.c_renaming.proofs.lemmas.OneByOne.{done-more, done-all}
use Rattle.emit_fused.specs.Same.{same_expr, same_exprs}
use Rattle.emit_fused.specs.Kept.{expr_fields, exprs_fields, stmt_keeps, stmts_keep}
use Rattle.emit_fused.specs.Simplified.{simplified_expr, simplified_exprs}

-- ---- Rows that are compared

abbrev pub row : List Expr → ExprTrees
row xs = exprs_of_list (map expr_tree xs)

pub rows-differ : (xs ys : List Expr) → length xs ≢ length ys → same_exprs (row xs) (row ys) ≡ false
rows-differ [] [] differ = absurd (differ refl)
rows-differ [] (y ∷ ys) differ = refl
rows-differ (x ∷ xs) [] differ = refl
rows-differ (x ∷ xs) (y ∷ ys) differ =
    and_right (same_expr (expr_tree x) (expr_tree y)) (same_exprs (row xs) (row ys)) (rows-differ xs ys (λ e. differ (ap suc e)))

-- two that differ at one place
pub rows-stop : (xs ys : List Expr) (i : ℕ) (x y : Expr) → i < length xs → i < length ys → x ≡ get_or xs i x → y ≡ get_or ys i y →
    same_expr (expr_tree x) (expr_tree y) ≡ false → same_exprs (row xs) (row ys) ≡ false
rows-stop [] ys i x y h g one other differ = absurd (omega (arith, h))
rows-stop (z ∷ xs) [] i x y h g one other differ = absurd (omega (arith, g))
rows-stop (z ∷ xs) (w ∷ ys) zero x y h g one other differ =
    and_left (same_expr (expr_tree z) (expr_tree w)) (same_exprs (row xs) (row ys))
    ((λ j. same_expr (expr_tree (sym one j)) (expr_tree (sym other j))) ∙ differ)
rows-stop (z ∷ xs) (w ∷ ys) (suc i) x y h g one other differ =
    and_right (same_expr (expr_tree z) (expr_tree w)) (same_exprs (row xs) (row ys))
    (rows-stop xs ys i x y (omega (arith, h)) (omega (arith, g)) one other differ)

-- one more place at which they don't
rows-more : (xs ys : List Expr) (i : ℕ) (x y : Expr) → i < length xs → i < length ys → x ≡ get_or xs i x → y ≡ get_or ys i y →
    same_expr (expr_tree x) (expr_tree y) ≡ true → same_exprs (row (take i xs)) (row (take i ys)) ≡ true →
    same_exprs (row (take (suc i) xs)) (row (take (suc i) ys)) ≡ true
rows-more [] ys i x y h g one other same before = absurd (omega (arith, h))
rows-more (z ∷ xs) [] i x y h g one other same before = absurd (omega (arith, g))
rows-more (z ∷ xs) (w ∷ ys) zero x y h g one other same before =
    and_from (same_expr (expr_tree z) (expr_tree w)) true
    ((λ j. same_expr (expr_tree (sym one j)) (expr_tree (sym other j))) ∙ same) refl
rows-more (z ∷ xs) (w ∷ ys) (suc i) x y h g one other same before =
    let parts = and_parts (same_expr (expr_tree z) (expr_tree w)) (same_exprs (row (take i xs)) (row (take i ys))) before in
    and_from (same_expr (expr_tree z) (expr_tree w)) (same_exprs (row (take (suc i) xs)) (row (take (suc i) ys))) parts.0
    (rows-more xs ys i x y (omega (arith, h)) (omega (arith, g)) one other same parts.1)

pub rows-next : (xs ys : List Expr) (i : ℕ) (x y : Expr) → i < length xs → i < length ys → x ≡ get_or xs i x → y ≡ get_or ys i y →
    same_expr (expr_tree x) (expr_tree y) ≡ true → same_exprs (row (take i xs)) (row (take i ys)) ≡ true →
    same_exprs (row (take (i + 1) xs)) (row (take (i + 1) ys)) ≡ true
rows-next xs ys i x y h g one other same before =
    let next : suc i ≡ i + 1 = omega arith in
    subst (λ j. same_exprs (row (take j xs)) (row (take j ys)) ≡ true) next (rows-more xs ys i x y h g one other same before)

pub rows-done : (xs ys : List Expr) (i : ℕ) → length xs ≤ i → length xs ≡ length ys →
    same_exprs (row (take i xs)) (row (take i ys)) ≡ true → same_exprs (row xs) (row ys) ≡ true
rows-done xs ys i all same before =
    (λ j. same_exprs (row (sym (take_all i xs all) j)) (row (sym (take_all i ys (omega (arith, all, same))) j))) ∙ before

-- ---- Statements that keep fields

module _ (fields : List ℕ) where
  abbrev pub keeps_all : List Stmt → Bool
  keeps_all ss = stmts_keep fields (stmts_of_list (map stmt_tree ss))

  pub keep-stops : (ss : List Stmt) (i : ℕ) (s : Stmt) → i < length ss → s ≡ get_or ss i s → stmt_keeps fields (stmt_tree s) ≡ false →
      keeps_all ss ≡ false
  keep-stops [] i s h read not_kept = absurd (omega (arith, h))
  keep-stops (x ∷ ss) zero s h read not_kept =
      and_left (stmt_keeps fields (stmt_tree x)) (keeps_all ss) (ap (λ y. stmt_keeps fields (stmt_tree y)) (sym read) ∙ not_kept)
  keep-stops (x ∷ ss) (suc i) s h read not_kept =
      and_right (stmt_keeps fields (stmt_tree x)) (keeps_all ss) (keep-stops ss i s (omega (arith, h)) read not_kept)

  keep-more : (ss : List Stmt) (i : ℕ) (s : Stmt) → i < length ss → s ≡ get_or ss i s → stmt_keeps fields (stmt_tree s) ≡ true →
      keeps_all (take i ss) ≡ true → keeps_all (take (suc i) ss) ≡ true
  keep-more [] i s h read kept before = absurd (omega (arith, h))
  keep-more (x ∷ ss) zero s h read kept before =
      and_from (stmt_keeps fields (stmt_tree x)) true (ap (λ y. stmt_keeps fields (stmt_tree y)) (sym read) ∙ kept) refl
  keep-more (x ∷ ss) (suc i) s h read kept before =
      let parts = and_parts (stmt_keeps fields (stmt_tree x)) (keeps_all (take i ss)) before in
      and_from (stmt_keeps fields (stmt_tree x)) (keeps_all (take (suc i) ss)) parts.0
      (keep-more ss i s (omega (arith, h)) read kept parts.1)

  pub keep-next : (ss : List Stmt) (i : ℕ) (s : Stmt) → i < length ss → s ≡ get_or ss i s → stmt_keeps fields (stmt_tree s) ≡ true →
      keeps_all (take i ss) ≡ true → keeps_all (take (i + 1) ss) ≡ true
  keep-next ss i s h read kept before =
      let next : suc i ≡ i + 1 = omega arith in
      subst (λ j. keeps_all (take j ss) ≡ true) next (keep-more ss i s h read kept before)

  pub keep-done : (ss : List Stmt) (i : ℕ) → length ss ≤ i → keeps_all (take i ss) ≡ true → keeps_all ss ≡ true
  keep-done ss i all before = ap keeps_all (sym (take_all i ss all)) ∙ before

-- ---- Fields that expressions read

exprs-flat : (es : List Expr) → flat_map (λ e. expr_fields (expr_tree e)) es ≡ exprs_fields (row es)
exprs-flat [] = refl
exprs-flat (e ∷ es) = ap (λ ks. expr_fields (expr_tree e) ++ ks) (exprs-flat es)

-- those of one expression after those of others
abbrev push : List ℕ → List ℕ → List ℕ
push before ks = before ++ ks

push-append : (before ks js : List ℕ) → push before (ks ++ js) ≡ push (push before ks) js
push-append before ks js = sym (append_assoc before ks js)

pub fields-more : (es : List Expr) (i : ℕ) (e : Expr) (before middle last : List ℕ) → i < length es → e ≡ get_or es i e →
    middle ≡ before ++ flat_map (λ x. expr_fields (expr_tree x)) (take i es) → last ≡ middle ++ expr_fields (expr_tree e) →
    last ≡ before ++ flat_map (λ x. expr_fields (expr_tree x)) (take (i + 1) es)
fields-more es i e before middle last inside read made more =
    done-more push push-append (λ x. expr_fields (expr_tree x)) es i e before middle last inside read made more

pub fields-done : (es : List Expr) (i : ℕ) (before last : List ℕ) → length es ≤ i →
    last ≡ before ++ flat_map (λ x. expr_fields (expr_tree x)) (take i es) → last ≡ before ++ exprs_fields (row es)
fields-done es i before last all made =
    done-all push push-append (λ x. expr_fields (expr_tree x)) es i before last (exprs_fields (row es)) all (exprs-flat es) made

-- ---- Expressions that are simplified

exprs-one-by-one : (es : List Expr) → exprs_of_list (map (λ e. simplified_expr (expr_tree e)) es) ≡ simplified_exprs (row es)
exprs-one-by-one [] = refl
exprs-one-by-one (e ∷ es) = ap (more_exprs (simplified_expr (expr_tree e))) (exprs-one-by-one es)

pub exprs-simplified : (es list : List Expr) (i : ℕ) → length es ≤ i →
    map expr_tree list ≡ map (λ e. simplified_expr (expr_tree e)) (take i es) → row list ≡ simplified_exprs (row es)
exprs-simplified es list i all made =
    ap exprs_of_list (made ∙ ap (map (λ e. simplified_expr (expr_tree e))) (take_all i es all)) ∙ exprs-one-by-one es
