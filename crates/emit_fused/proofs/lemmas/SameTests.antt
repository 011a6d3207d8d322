-- Tests that are written alike are the same.
use Rattle.std.specs.Prelude.{◌≡◌, ◌==◌, true, ◌&&◌, ℤ, ◌⊎◌}
use Rattle.std.specs.Ordering.{int_eq}
use Rattle.std.proofs.Common.{refl, ap, ap₂, arith, inl, inr}
use Rattle.std.proofs.lemmas.Bool.{and_parts, eqb-true, or_cases}
use Rattle.std.proofs.lemmas.Int.{ints}
use Rattle.base_core.specs.declared.base.Compare.{Compare}
use Rattle.base_core.specs.declared.base.Compare.TheVariants.{Eq, Ne, Lt, Le, Ge, Gt}
use Rattle.c_syntax.specs.declared.code.BinOp.{BinOp}
use Rattle.c_syntax.specs.declared.code.BinOp.TheVariants.{Add, Sub, Mul, Div, Rem}
use Rattle.c_syntax.specs.declared.code.Leaf.{Leaf}
use Rattle.c_syntax.specs.declared.code.Leaf.TheVariants.{Param, Own, Child}
use Rattle.c_syntax.specs.Tree.{ExprTree, literal, neg, read, binary, pick, pure, item, ExprTrees, no_exprs, more_exprs, CondTree, compare, both, either, negated}
use Rattle.emit_fused.specs.Same.{same_leaf, same_op, same_compare, same_expr, same_exprs, same_cond, is_not_of, opposite}

-- ---- Leaves, operators and comparisons

pub same-leaf : (k l : Leaf) → same_leaf k l ≡ true → k ≡ l
same-leaf (Param j) (Param k) h = ap Param (eqb-true j k h)
same-leaf (Own f) (Own g) h = ap Own (eqb-true f g h)
same-leaf (Child f g) (Child h i) e =
    let parts = and_parts (f == h) (g == i) e in
    ap₂ Child (eqb-true f h parts.0) (eqb-true g i parts.1)
same-leaf _ _ h = absurd (let wrong : ⊥ = cc h in wrong)

same-op : (op other : BinOp) → same_op op other ≡ true → op ≡ other
same-op Add Add h = refl
same-op Sub Sub h = refl
same-op Mul Mul h = refl
same-op Div Div h = refl
same-op Rem Rem h = refl
same-op _ _ h = absurd (let wrong : ⊥ = cc h in wrong)

same-compare : (how other : Compare) → same_compare how other ≡ true → how ≡ other
same-compare Eq Eq h = refl
same-compare Ne Ne h = refl
same-compare Lt Lt h = refl
same-compare Le Le h = refl
same-compare Ge Ge h = refl
same-compare Gt Gt h = refl
same-compare _ _ h = absurd (let wrong : ⊥ = cc h in wrong)

pub same-number : (v w : ℤ) → int_eq v w ≡ true → v ≡ w
same-number v w h = grind (arith, ints)

-- ---- Expressions and conditions

mutual
  pub same-expr : (a b : ExprTree) → same_expr a b ≡ true → a ≡ b
  same-expr (literal v) (literal w) h = ap literal (same-number v w h)
  same-expr (neg a) (neg b) h = ap neg (same-expr a b h)
  same-expr (read k) (read l) h = ap read (same-leaf k l h)
  same-expr (binary op a b) (binary other c d) h =
      let parts = and_parts (same_op op other) (same_expr a c && same_expr b d) h in
      let sides = and_parts (same_expr a c) (same_expr b d) parts.1 in
      let ops = same-op op other parts.0 in
      let left = same-expr a c sides.0 in
      let right = same-expr b d sides.1 in
      (λ i. binary (ops i) (left i) (right i))
  same-expr (pick test a b) (pick other c d) h =
      let parts = and_parts (same_cond test other) (same_expr a c && same_expr b d) h in
      let sides = and_parts (same_expr a c) (same_expr b d) parts.1 in
      let tests = same-cond test other parts.0 in
      let left = same-expr a c sides.0 in
      let right = same-expr b d sides.1 in
      (λ i. pick (tests i) (left i) (right i))
  same-expr (pure k es) (pure j ds) h =
      let parts = and_parts (k == j) (same_exprs es ds) h in
      ap₂ pure (eqb-true k j parts.0) (same-exprs es ds parts.1)
  same-expr (item f a) (item g b) h =
      let parts = and_parts (f == g) (same_expr a b) h in
      ap₂ item (eqb-true f g parts.0) (same-expr a b parts.1)
  same-expr _ _ h = absurd (let wrong : ⊥ = cc h in wrong)

  pub same-exprs : (es ds : ExprTrees) → same_exprs es ds ≡ true → es ≡ ds
  same-exprs no_exprs no_exprs h = refl
  same-exprs (more_exprs e es) (more_exprs d ds) h =
      let parts = and_parts (same_expr e d) (same_exprs es ds) h in
      ap₂ more_exprs (same-expr e d parts.0) (same-exprs es ds parts.1)
  same-exprs _ _ h = absurd (let wrong : ⊥ = cc h in wrong)

  pub same-cond : (a b : CondTree) → same_cond a b ≡ true → a ≡ b
  same-cond (compare how a b) (compare other c d) h =
      let parts = and_parts (same_compare how other) (same_expr a c && same_expr b d) h in
      let sides = and_parts (same_expr a c) (same_expr b d) parts.1 in
      let hows = same-compare how other parts.0 in
      let left = same-expr a c sides.0 in
      let right = same-expr b d sides.1 in
      (λ i. compare (hows i) (left i) (right i))
  same-cond (both a b) (both c d) h =
      let parts = and_parts (same_cond a c) (same_cond b d) h in
      ap₂ both (same-cond a c parts.0) (same-cond b d parts.1)
  same-cond (either a b) (either c d) h =
      let parts = and_parts (same_cond a c) (same_cond b d) h in
      ap₂ either (same-cond a c parts.0) (same-cond b d parts.1)
  same-cond (negated a) (negated b) h = ap negated (same-cond a b h)
  same-cond _ _ h = absurd (let wrong : ⊥ = cc h in wrong)

-- ---- Opposites

pub not-of : (a b : CondTree) → is_not_of a b ≡ true → a ≡ negated b
not-of (negated a) b h = ap negated (same-cond a b h)
not-of _ b h = absurd (let wrong : ⊥ = cc h in wrong)

pub opposites : (a b : CondTree) → opposite a b ≡ true → (a ≡ negated b) ⊎ (b ≡ negated a)
opposites a b h = by (or_cases (is_not_of a b) (is_not_of b a) h)
  where
    by : (is_not_of a b ≡ true) ⊎ (is_not_of b a ≡ true) → (a ≡ negated b) ⊎ (b ≡ negated a)
    by (inl e) = inl (not-of a b e)
    by (inr e) = inr (not-of b a e)
