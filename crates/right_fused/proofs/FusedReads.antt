-- What expressions read without factors and divisors that are 1, they read before.
use Rattle.std.specs.Prelude.{◌≡◌, Bool, true, false, if◌then◌else◌, List, [], ◌∷◌, ◌++◌, map, pos}
use Rattle.std.specs.List.{AllByRecursion}
use Rattle.std.proofs.Common.{refl, sym, ap, subst}
use Rattle.emit_pruned.proofs.lemmas.Numbers.{all-left, all-right, all-both}
use Rattle.c_syntax.specs.declared.code.BinOp.{BinOp}
use Rattle.c_syntax.specs.declared.code.BinOp.TheVariants.{Add, Sub, Mul, Div, Rem}
use Rattle.c_syntax.specs.declared.Leaf.{Leaf}
use Rattle.c_syntax.specs.Tree.{ExprTree, literal, neg, read, binary, pick, pure, item, ExprTrees, no_exprs, more_exprs, CondTree, compare, both, either, negated, list_of_exprs}
use Rattle.emit_shape.specs.Reads.{expr_leaves, exprs_leaves, cond_leaves, IndexSite, expr_indices, exprs_indices, cond_indices}
use Rattle.emit_fused.specs.Simplified.{is_one, simplified_binary, simplified_expr, simplified_exprs, simplified_cond}

-- ---- An operator between two

-- what is read of what an operator is applied to is read of what is left of it
module _ {X : Type 0} (reads : ExprTree → List X) (P : X → Type 0)
    (sides : (op : BinOp) (a b : ExprTree) → reads (binary op a b) ≡ reads a ++ reads b) (nothing : reads (literal (pos 0)) ≡ []) where
  whole : (op : BinOp) (a b : ExprTree) → AllByRecursion P (reads a) → AllByRecursion P (reads b) → AllByRecursion P (reads (binary op a b))
  whole op a b h g = subst (AllByRecursion P) (sym (sides op a b)) (all-both P (reads a) (reads b) h g)

  pub of-binary : (op : BinOp) (a b : ExprTree) → AllByRecursion P (reads a) → AllByRecursion P (reads b) →
      AllByRecursion P (reads (simplified_binary op a b))
  of-binary Mul a b h g = by (is_one b)
    where
      by : (t : Bool) → AllByRecursion P (reads (if t then a else binary Mul a b))
      by true = h
      by false = whole Mul a b h g
  of-binary Rem a b h g = by (is_one b)
    where
      by : (t : Bool) → AllByRecursion P (reads (if t then literal (pos 0) else binary Rem a b))
      by true = subst (AllByRecursion P) (sym nothing) tt
      by false = whole Rem a b h g
  of-binary Add a b h g = whole Add a b h g
  of-binary Sub a b h g = whole Sub a b h g
  of-binary Div a b h g = whole Div a b h g

-- ---- Leaves

module _ (P : Leaf → Type 0) where
  mutual
    pub leaves-left : (e : ExprTree) → AllByRecursion P (expr_leaves e) → AllByRecursion P (expr_leaves (simplified_expr e))
    leaves-left (literal value) h = h
    leaves-left (neg e) h = leaves-left e h
    leaves-left (read leaf) h = h
    leaves-left (binary op a b) h =
        of-binary expr_leaves P (λ other x y. refl) refl op (simplified_expr a) (simplified_expr b)
        (leaves-left a (all-left P (expr_leaves a) (expr_leaves b) h))
        (leaves-left b (all-right P (expr_leaves a) (expr_leaves b) h))
    leaves-left (pick test a b) h =
        let front = all-left P (cond_leaves test ++ expr_leaves a) (expr_leaves b) h in
        all-both P (cond_leaves (simplified_cond test) ++ expr_leaves (simplified_expr a)) (expr_leaves (simplified_expr b))
        (all-both P (cond_leaves (simplified_cond test)) (expr_leaves (simplified_expr a))
        (cond-leaves-left test (all-left P (cond_leaves test) (expr_leaves a) front))
        (leaves-left a (all-right P (cond_leaves test) (expr_leaves a) front)))
        (leaves-left b (all-right P (cond_leaves test ++ expr_leaves a) (expr_leaves b) h))
    leaves-left (pure k es) h = all-leaves-left es h
    leaves-left (item f index) h = (h.0, leaves-left index h.1)

    all-leaves-left : (es : ExprTrees) → AllByRecursion P (exprs_leaves es) → AllByRecursion P (exprs_leaves (simplified_exprs es))
    all-leaves-left no_exprs h = h
    all-leaves-left (more_exprs e es) h =
        all-both P (expr_leaves (simplified_expr e)) (exprs_leaves (simplified_exprs es))
        (leaves-left e (all-left P (expr_leaves e) (exprs_leaves es) h))
        (all-leaves-left es (all-right P (expr_leaves e) (exprs_leaves es) h))

    cond-leaves-left : (c : CondTree) → AllByRecursion P (cond_leaves c) → AllByRecursion P (cond_leaves (simplified_cond c))
    cond-leaves-left (compare how a b) h =
        all-both P (expr_leaves (simplified_expr a)) (expr_leaves (simplified_expr b))
        (leaves-left a (all-left P (expr_leaves a) (expr_leaves b) h))
        (leaves-left b (all-right P (expr_leaves a) (expr_leaves b) h))
    cond-leaves-left (both a b) h =
        all-both P (cond_leaves (simplified_cond a)) (cond_leaves (simplified_cond b))
        (cond-leaves-left a (all-left P (cond_leaves a) (cond_leaves b) h))
        (cond-leaves-left b (all-right P (cond_leaves a) (cond_leaves b) h))
    cond-leaves-left (either a b) h =
        all-both P (cond_leaves (simplified_cond a)) (cond_leaves (simplified_cond b))
        (cond-leaves-left a (all-left P (cond_leaves a) (cond_leaves b) h))
        (cond-leaves-left b (all-right P (cond_leaves a) (cond_leaves b) h))
    cond-leaves-left (negated a) h = cond-leaves-left a h

-- ---- Indices

abbrev pub simplified_index : IndexSite → IndexSite
simplified_index i = record { field = i.field; index = simplified_expr i.index }

module _ (P Q : IndexSite → Type 0) (next : (i : IndexSite) → P i → Q (simplified_index i)) where
  mutual
    pub indices-left : (e : ExprTree) → AllByRecursion P (expr_indices e) → AllByRecursion Q (expr_indices (simplified_expr e))
    indices-left (literal value) h = h
    indices-left (neg e) h = indices-left e h
    indices-left (read leaf) h = h
    indices-left (binary op a b) h =
        of-binary expr_indices Q (λ other x y. refl) refl op (simplified_expr a) (simplified_expr b)
        (indices-left a (all-left P (expr_indices a) (expr_indices b) h))
        (indices-left b (all-right P (expr_indices a) (expr_indices b) h))
    indices-left (pick test a b) h =
        let front = all-left P (cond_indices test ++ expr_indices a) (expr_indices b) h in
        all-both Q (cond_indices (simplified_cond test) ++ expr_indices (simplified_expr a)) (expr_indices (simplified_expr b))
        (all-both Q (cond_indices (simplified_cond test)) (expr_indices (simplified_expr a))
        (cond-indices-left test (all-left P (cond_indices test) (expr_indices a) front))
        (indices-left a (all-right P (cond_indices test) (expr_indices a) front)))
        (indices-left b (all-right P (cond_indices test ++ expr_indices a) (expr_indices b) h))
    indices-left (pure k es) h = all-indices-left es h
    indices-left (item f index) h = (next (record { field = f; index = index }) h.0, indices-left index h.1)

    pub all-indices-left : (es : ExprTrees) → AllByRecursion P (exprs_indices es) → AllByRecursion Q (exprs_indices (simplified_exprs es))
    all-indices-left no_exprs h = h
    all-indices-left (more_exprs e es) h =
        all-both Q (expr_indices (simplified_expr e)) (exprs_indices (simplified_exprs es))
        (indices-left e (all-left P (expr_indices e) (exprs_indices es) h))
        (all-indices-left es (all-right P (expr_indices e) (exprs_indices es) h))

    cond-indices-left : (c : CondTree) → AllByRecursion P (cond_indices c) → AllByRecursion Q (cond_indices (simplified_cond c))
    cond-indices-left (compare how a b) h =
        all-both Q (expr_indices (simplified_expr a)) (expr_indices (simplified_expr b))
        (indices-left a (all-left P (expr_indices a) (expr_indices b) h))
        (indices-left b (all-right P (expr_indices a) (expr_indices b) h))
    cond-indices-left (both a b) h =
        all-both Q (cond_indices (simplified_cond a)) (cond_indices (simplified_cond b))
        (cond-indices-left a (all-left P (cond_indices a) (cond_indices b) h))
        (cond-indices-left b (all-right P (cond_indices a) (cond_indices b) h))
    cond-indices-left (either a b) h =
        all-both Q (cond_indices (simplified_cond a)) (cond_indices (simplified_cond b))
        (cond-indices-left a (all-left P (cond_indices a) (cond_indices b) h))
        (cond-indices-left b (all-right P (cond_indices a) (cond_indices b) h))
    cond-indices-left (negated a) h = cond-indices-left a h

-- ---- Lists

pub exprs-list : (es : ExprTrees) → list_of_exprs (simplified_exprs es) ≡ map simplified_expr (list_of_exprs es)
exprs-list no_exprs = refl
exprs-list (more_exprs e es) = ap (λ rest. simplified_expr e ∷ rest) (exprs-list es)
