-- Lawful code whose parameters are moved gives what it gave, where the same is passed.
use Rattle.std.specs.Prelude.{◌≡◌, ℕ, ◌<◌, List, [], ◌∷◌, ℤ, neg_ℤ, not, if◌then◌else◌}
use Rattle.std.proofs.Common.{true, false, refl}
use Rattle.c_syntax.specs.declared.code.CType.{CType}
use Rattle.c_syntax.specs.declared.code.CType.TheVariants.{I64}
use Rattle.c_syntax.specs.declared.code.Leaf.TheVariants.{Param, Own, Child}
use Rattle.c_syntax.specs.declared.fault.Why.TheVariants.{Overflow, Range}
use Rattle.c_syntax.specs.Tree.{ExprTree, literal, neg, read, binary, pick, pure, item, ExprTrees, no_exprs, more_exprs, CondTree, compare, both, either, negated}
use Rattle.c_syntax.specs.Lawful.{Reach, IsLawfulExpr, AreLawfulExprs, IsLawfulCond}
use Rattle.c_semantics.specs.Cells.{Cells, items_at}
use Rattle.c_semantics.specs.Values.{gives, and_then, within, operate, Function, function_at, reads, index_in, eval, eval_all, eval_cond, compares}
use Rattle.c_semantics.specs.Machine.{arguments}
use Rattle.base_core.specs.Numbers.{int_at}
use Rattle.emit_inlined.specs.Inlined.{moved_expr, moved_exprs, moved_cond}

-- these arguments are passed to a body, and those to the code in which it is, which has each at its parameter
module _ (param place : ℕ → ℕ) (reach : Reach) (passed around : List ℤ)
    (same : (k : ℕ) → k < reach.params → int_at around (param k) ≡ int_at passed k) (functions : List Function) where
  -- ---- Expressions

  module _ (cells : Cells) (line : ℕ) where
    mutual
      pub expr-moved : (e : ExprTree) → IsLawfulExpr reach e →
          eval functions (reads around cells) line (moved_expr param place e) ≡ eval functions (reads passed cells) line e
      expr-moved (literal value) h = refl
      expr-moved (neg e) h = λ i steps. and_then (expr-moved e h i steps) (λ v count. within I64 Overflow line (neg_ℤ v) count)
      expr-moved (read (Param k)) h = λ i steps. gives (same k h i) steps
      expr-moved (read (Own f)) h = refl
      expr-moved (read (Child f g)) h = refl
      expr-moved (binary op a b) h =
          let one = expr-moved a h.0 in
          let other = expr-moved b h.1 in
          (λ i steps. and_then (one i steps) (λ x count. and_then (other i count) (λ y end. operate op line x y end)))
      expr-moved (pick test a b) h =
          let first = cond-moved test h.0 in
          let one = expr-moved a h.1 in
          let other = expr-moved b h.2 in
          (λ i steps. and_then (first i steps) (λ holds. if holds then one i else other i))
      expr-moved (pure k es) (f, there, count, all) = λ i steps. and_then (exprs-moved es all i steps) (function_at functions k)
      expr-moved (item f index) h =
          let at = expr-moved index h.1 in
          (λ i steps. and_then (and_then (at i steps) (index_in line (items_at cells f)))
          (λ j count. gives (int_at (items_at cells f) j) count))

      pub exprs-moved : (es : ExprTrees) → AreLawfulExprs reach es →
          eval_all functions (reads around cells) line (moved_exprs param place es) ≡ eval_all functions (reads passed cells) line es
      exprs-moved no_exprs h = refl
      exprs-moved (more_exprs e es) h =
          let one = expr-moved e h.0 in
          let rest = exprs-moved es h.1 in
          (λ i steps. and_then (one i steps) (λ v count. and_then (rest i count) (λ vs end. gives (v ∷ vs) end)))

      pub cond-moved : (c : CondTree) → IsLawfulCond reach c →
          eval_cond functions (reads around cells) line (moved_cond param place c) ≡ eval_cond functions (reads passed cells) line c
      cond-moved (compare how a b) h =
          let one = expr-moved a h.0 in
          let other = expr-moved b h.1 in
          (λ i steps. and_then (one i steps) (λ x count. and_then (other i count) (λ y end. gives (compares how x y) end)))
      cond-moved (both a b) h =
          let one = cond-moved a h.0 in
          let other = cond-moved b h.1 in
          (λ i steps. and_then (one i steps) (λ holds. if holds then other i else gives false))
      cond-moved (either a b) h =
          let one = cond-moved a h.0 in
          let other = cond-moved b h.1 in
          (λ i steps. and_then (one i steps) (λ holds. if holds then gives true else other i))
      cond-moved (negated a) h = λ i steps. and_then (cond-moved a h i steps) (λ holds count. gives (not holds) count)

    pub arguments-moved : (types : List CType) (es : ExprTrees) → AreLawfulExprs reach es →
        arguments functions (reads around cells) line types (moved_exprs param place es)
        ≡ arguments functions (reads passed cells) line types es
    arguments-moved types no_exprs h = refl
    arguments-moved [] (more_exprs e es) h = refl
    arguments-moved (t ∷ types) (more_exprs e es) h =
        let one = expr-moved e h.0 in
        let rest = arguments-moved types es h.1 in
        (λ i steps. and_then (and_then (one i steps) (within t Range line))
        (λ v count. and_then (rest i count) (λ vs end. gives (v ∷ vs) end)))
