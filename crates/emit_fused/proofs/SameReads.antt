-- A test comes to the same in two instances that are alike in the fields that it reads.
use Rattle.std.specs.Prelude.{◌≡◌, ℕ, List, ◌∷◌, ◌++◌, ℤ, neg_ℤ, not, false, true, if◌then◌else◌}
use Rattle.std.specs.List.{AllByRecursion}
use Rattle.std.proofs.Common.{refl, ap, ◌∙◌}
use Rattle.c_syntax.specs.declared.code.CType.TheVariants.{I64}
use Rattle.c_syntax.specs.declared.code.Leaf.{Leaf}
use Rattle.c_syntax.specs.declared.code.Leaf.TheVariants as leaf
use Rattle.c_syntax.specs.declared.fault.Why.TheVariants.{Overflow}
use Rattle.c_syntax.specs.Tree.{ExprTree, literal, neg, read, binary, pick, pure, item, ExprTrees, no_exprs, more_exprs, CondTree, compare, both, either, negated}
use Rattle.c_semantics.specs.Cells.{Cells, cell_at, cell_value, cell_fields, cell_items, number_at}
use Rattle.c_semantics.specs.Values.{Answer, gives, and_then, within, operate, Function, function_at, reads, leaf_reads, index_in, eval, eval_all, eval_cond, compares}
use Rattle.base_core.specs.Numbers.{int_at}
use Rattle.c_renaming.proofs.lemmas.TwoLists.{all-left, all-right}
use Rattle.emit_fused.specs.Kept.{leaf_fields, expr_fields, exprs_fields, cond_fields}

-- two instances hold the same in a field
abbrev pub SameAt : Cells → Cells → ℕ → Type 0
SameAt cells others f = cell_at others f ≡ cell_at cells f

module _ (cells others : Cells) (values : List ℤ) where
  abbrev Same : List ℕ → Type 0
  Same fields = AllByRecursion (SameAt cells others) fields

  leaf-same : (l : Leaf) → Same (leaf_fields l) → leaf_reads values others l ≡ leaf_reads values cells l
  leaf-same (leaf.Param k) h = refl
  leaf-same (leaf.Own f) h = ap cell_value h.0
  leaf-same (leaf.Child f g) h = ap (λ c. number_at (cell_fields c) g) h.0

  module _ (functions : List Function) (line : ℕ) where
    mutual
      pub eval-same : (e : ExprTree) → Same (expr_fields e) →
          eval functions (reads values others) line e ≡ eval functions (reads values cells) line e
      eval-same (literal value) h = refl
      eval-same (neg e) h =
          let one = eval-same e h in
          (λ i steps. and_then (one i steps) (λ v count. within I64 Overflow line (neg_ℤ v) count))
      eval-same (read l) h =
          let one = leaf-same l h in
          (λ i steps. gives (one i) steps)
      eval-same (binary op a b) h =
          let one = eval-same a (all-left (SameAt cells others) (expr_fields a) (expr_fields b) h) in
          let other = eval-same b (all-right (SameAt cells others) (expr_fields a) (expr_fields b) h) in
          (λ i steps. and_then (one i steps) (λ x count. and_then (other i count) (λ y end. operate op line x y end)))
      eval-same (pick test a b) h =
          let before = all-left (SameAt cells others) (cond_fields test ++ expr_fields a) (expr_fields b) h in
          let first = cond-same test (all-left (SameAt cells others) (cond_fields test) (expr_fields a) before) in
          let one = eval-same a (all-right (SameAt cells others) (cond_fields test) (expr_fields a) before) in
          let other = eval-same b (all-right (SameAt cells others) (cond_fields test ++ expr_fields a) (expr_fields b) h) in
          (λ i steps. and_then (first i steps) (λ holds. if holds then one i else other i))
      eval-same (pure k es) h =
          let given = eval_all-same es h in
          (λ i steps. and_then (given i steps) (function_at functions k))
      eval-same (item f index) h =
          let array : List ℤ → ℕ → Answer ℤ =
          λ array steps. and_then (and_then (eval functions (reads values others) line index steps) (index_in line array))
          (λ j count. gives (int_at array j) count) in
          let at = eval-same index h.1 in
          (λ i. array (cell_items (h.0 i)))
          ∙ (λ i steps. and_then (and_then (at i steps) (index_in line (cell_items (cell_at cells f))))
          (λ j count. gives (int_at (cell_items (cell_at cells f)) j) count))

      pub eval_all-same : (es : ExprTrees) → Same (exprs_fields es) →
          eval_all functions (reads values others) line es ≡ eval_all functions (reads values cells) line es
      eval_all-same no_exprs h = refl
      eval_all-same (more_exprs e es) h =
          let one = eval-same e (all-left (SameAt cells others) (expr_fields e) (exprs_fields es) h) in
          let rest = eval_all-same es (all-right (SameAt cells others) (expr_fields e) (exprs_fields es) h) in
          (λ i steps. and_then (one i steps) (λ v count. and_then (rest i count) (λ vs end. gives (v ∷ vs) end)))

      pub cond-same : (c : CondTree) → Same (cond_fields c) →
          eval_cond functions (reads values others) line c ≡ eval_cond functions (reads values cells) line c
      cond-same (compare how a b) h =
          let one = eval-same a (all-left (SameAt cells others) (expr_fields a) (expr_fields b) h) in
          let other = eval-same b (all-right (SameAt cells others) (expr_fields a) (expr_fields b) h) in
          (λ i steps. and_then (one i steps) (λ x count. and_then (other i count) (λ y end. gives (compares how x y) end)))
      cond-same (both a b) h =
          let one = cond-same a (all-left (SameAt cells others) (cond_fields a) (cond_fields b) h) in
          let other = cond-same b (all-right (SameAt cells others) (cond_fields a) (cond_fields b) h) in
          (λ i steps. and_then (one i steps) (λ holds. if holds then other i else gives false))
      cond-same (either a b) h =
          let one = cond-same a (all-left (SameAt cells others) (cond_fields a) (cond_fields b) h) in
          let other = cond-same b (all-right (SameAt cells others) (cond_fields a) (cond_fields b) h) in
          (λ i steps. and_then (one i steps) (λ holds. if holds then gives true else other i))
      cond-same (negated a) h =
          let one = cond-same a h in
          (λ i steps. and_then (one i steps) (λ holds count. gives (not holds) count))
