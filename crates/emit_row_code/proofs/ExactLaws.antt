-- Sums and products of leaves are exact.
use Rattle.std.proofs.Common.{◌≡◌, refl, sym, ap, ◌∙◌, subst, ℕ, suc, ◌+◌, ◌*◌, ◌^◌, ◌≤◌, ◌==◌, max, Bool, true, false, List, [], ◌∷◌, length, map, fold, ℤ, pos, ◌+ℤ◌, ◌*ℤ◌, unsigned_abs, arith}
use Rattle.std.specs.Int.{bit_at}
use Rattle.std.specs.List.{AllZip}
use Rattle.std.proofs.Math.Nat.{mul-le-mul, mul_assoc, one-le-mul, le-mul_of_pos_right, le-max_left, le-max_right}
use Rattle.std.proofs.lemmas.Int.{ints, unsigned_abs-mul}
use Rattle.diagram_blocks.specs.Value.{signed_term, exact_sum, exact_product}
use Rattle.base_fixed_point.specs.Conversion.{over_units}
use Rattle.diagram_blocks.specs.Laws.{sum_magnitude, product_magnitude}
use Rattle.c_syntax.specs.declared.BinOp.TheVariants.{Add, Mul}
use Rattle.c_syntax.specs.declared.Leaf.{Leaf}
use Rattle.c_syntax.specs.Tree.{ExprTree, literal, read, binary}
use Rattle.c_semantics.specs.Values.{Function, Reads}
use Rattle.c_semantics.specs.EvaluationLaws.{Gives}
use Rattle.c_semantics.proofs.lemmas.WithoutSteps.{gives_literal, gives_read, gives_add, gives_mul, gives_neg}
use Rattle.emit_row_code.specs.RowCode.{nought, aligned, signed, term_codes, sum_code, product_code}
use Rattle.emit_row_code.proofs.lemmas.BalancedLaws.{balanced_related, balanced_total, total}
use Rattle.emit_row_code.proofs.IntegerProducts.{product_assoc}
use Rattle.emit_row_code.proofs.lemmas.Conversions.{aligned_gives}

-- a part of a sum or a product: its number, and how large this may be
pub record Part : Type 0 where
  pub value : ℤ
  pub most : ℕ

abbrev part : ℤ → ℕ → Part
part v n = record { value = v; most = n }

part_is : (a b : ℤ) (m n : ℕ) → a ≡ b → m ≡ n → part a m ≡ part b n
part_is a b m n p q = λ i. record { value = p i; most = q i }

-- ---- Sums

abbrev add_parts : Part → Part → Part
add_parts p q = record { value = p.value +ℤ q.value; most = p.most + q.most }

abbrev no_part : Part
no_part = record { value = pos 0; most = 0 }

add_assoc : (p q r : Part) → add_parts (add_parts p q) r ≡ add_parts p (add_parts q r)
add_assoc p q r =
    part_is _ _ _ _ (let e : (p.value +ℤ q.value) +ℤ r.value ≡ p.value +ℤ (q.value +ℤ r.value) = omega (arith, ints) in
    e) (let e : p.most + q.most + r.most ≡ p.most + (q.most + r.most) = omega arith in e)

add_none : (p : Part) → add_parts p no_part ≡ p
add_none p =
    part_is _ _ _ _ (let e : p.value +ℤ pos 0 ≡ p.value = omega (arith, ints) in
    e) (let e : p.most + 0 ≡ p.most = omega arith in e)

-- the terms that leaves give
module _ (reads : Reads) (minus F : ℕ) where
  abbrev term_parts : ℕ → List ℕ → List Leaf → List Part
  term_parts i [] leaves = []
  term_parts i (f ∷ fs) [] = []
  term_parts i (f ∷ fs) (l ∷ leaves) =
      record {
        value = signed_term (bit_at minus i == 1) (over_units (reads.leaf l) f F);
        most = unsigned_abs (over_units (reads.leaf l) f F);
      } ∷ term_parts (suc i) fs leaves

  term_parts_value : (i : ℕ) (fs : List ℕ) (leaves : List Leaf) →
      (total add_parts no_part (term_parts i fs leaves)).value ≡ exact_sum minus F i fs (map reads.leaf leaves)
  term_parts_value i [] [] = refl
  term_parts_value i [] (l ∷ leaves) = refl
  term_parts_value i (f ∷ fs) [] = refl
  term_parts_value i (f ∷ fs) (l ∷ leaves) =
      ap (λ n. signed_term (bit_at minus i == 1) (over_units (reads.leaf l) f F) +ℤ n)
      (term_parts_value (suc i) fs leaves)

  term_parts_most : (i : ℕ) (fs : List ℕ) (leaves : List Leaf) →
      (total add_parts no_part (term_parts i fs leaves)).most ≡ sum_magnitude F fs (map reads.leaf leaves)
  term_parts_most i [] leaves = refl
  term_parts_most i (f ∷ fs) [] = refl
  term_parts_most i (f ∷ fs) (l ∷ leaves) =
      ap (λ n. unsigned_abs (over_units (reads.leaf l) f F) + n) (term_parts_most (suc i) fs leaves)

  term_parts_length : (i : ℕ) (fs : List ℕ) (leaves : List Leaf) → length (term_parts i fs leaves) ≤ length fs
  term_parts_length i [] leaves = omega arith
  term_parts_length i (f ∷ fs) [] = omega arith
  term_parts_length i (f ∷ fs) (l ∷ leaves) = let rest = term_parts_length (suc i) fs leaves in omega arith

module _ (functions : List Function) (reads : Reads) (line : ℕ) where
  abbrev Is : ExprTree → ℤ → Type 0
  Is e x = Gives functions reads line e x

  -- a term within its bound, where that is small
  abbrev IsTerm : ExprTree → Part → Type 0
  IsTerm e p = p.most ≤ 2 ^ 62 → Is e p.value × (unsigned_abs p.value ≤ p.most)

  terms_add : (a b : ExprTree) (p q : Part) → IsTerm a p → IsTerm b q → IsTerm (binary Add a b) (add_parts p q)
  terms_add a b p q f g small =
      let first = f (omega (arith, small)) in
      let second = g (omega (arith, small)) in
      let both : unsigned_abs (p.value +ℤ q.value) ≤ p.most + q.most = omega (arith, ints, first.1, second.1) in
      (gives_add functions reads line a b p.value q.value first.0 second.0 (omega (arith, both, small)), both)

  signed_gives : (minus : Bool) (e : ExprTree) (v : ℤ) → Is e v → unsigned_abs v ≤ 2 ^ 62 →
      Is (signed minus e) (signed_term minus v) × (unsigned_abs (signed_term minus v) ≤ unsigned_abs v)
  signed_gives true e v h small = (gives_neg functions reads line e v h (omega (arith, ints, small)), omega (arith, ints))
  signed_gives false e v h small = (h, omega arith)

  terms_related : (minus F i : ℕ) (fs : List ℕ) (leaves : List Leaf) →
      AllZip IsTerm (term_codes minus F i fs leaves) (term_parts reads minus F i fs leaves)
  terms_related minus F i [] leaves = tt
  terms_related minus F i (f ∷ fs) [] = tt
  terms_related minus F i (f ∷ fs) (l ∷ leaves) = (
    (λ small. signed_gives (bit_at minus i == 1) (aligned (read l) f F) (over_units (reads.leaf l) f F)
        (aligned_gives functions reads line (read l) (reads.leaf l) f F (gives_read functions reads line l) small)
        small),
    terms_related minus F (suc i) fs leaves,
  )

  -- the exact sum, which is no larger than its terms together
  pub sum_gives : (minus F : ℕ) (fs : List ℕ) (leaves : List Leaf) → length fs ≤ 16 → sum_magnitude F fs (map reads.leaf leaves) ≤ 2 ^ 62 →
      Is (sum_code minus F fs leaves) (exact_sum minus F 0 fs (map reads.leaf leaves))
      × (unsigned_abs (exact_sum minus F 0 fs (map reads.leaf leaves)) ≤ sum_magnitude F fs (map reads.leaf leaves))
  sum_gives minus F fs leaves few small =
      let parts = term_parts reads minus F 0 fs leaves in
      let tree =
      balanced_related (binary Add) add_parts IsTerm terms_add nought no_part
      (λ bound. (gives_literal functions reads line (pos 0), omega arith)) (term_codes minus F 0 fs leaves) parts
      (terms_related minus F 0 fs leaves) in
      let whole =
      balanced_total add_parts no_part add_assoc add_none parts
      (omega (arith, few, term_parts_length reads minus F 0 fs leaves)) in
      let is_term = subst (IsTerm (sum_code minus F fs leaves)) whole tree in
      let same = term_parts_most reads minus F 0 fs leaves in
      let bounded = is_term (omega (arith, small, same)) in
      subst (λ v. Is (sum_code minus F fs leaves) v × (unsigned_abs v ≤ sum_magnitude F fs (map reads.leaf leaves)))
      (term_parts_value reads minus F 0 fs leaves) (bounded.0, omega (arith, bounded.1, same))

-- ---- Products

abbrev mul_parts : Part → Part → Part
mul_parts p q = record { value = p.value *ℤ q.value; most = p.most * q.most }

abbrev one_part : Part
one_part = record { value = pos 1; most = 1 }

mul_parts_assoc : (p q r : Part) → mul_parts (mul_parts p q) r ≡ mul_parts p (mul_parts q r)
mul_parts_assoc p q r = part_is _ _ _ _ (product_assoc p.value q.value r.value) (mul_assoc p.most q.most r.most)

mul_one : (p : Part) → mul_parts p one_part ≡ p
mul_one p = part_is _ _ _ _ (let e : p.value *ℤ pos 1 ≡ p.value = omega (arith, ints) in e) (let e : p.most * 1 ≡ p.most = omega arith in e)

module _ (reads : Reads) where
  abbrev factor_parts : List Leaf → List Part
  factor_parts [] = []
  factor_parts (l ∷ leaves) = record { value = reads.leaf l; most = max 1 (unsigned_abs (reads.leaf l)) } ∷ factor_parts leaves

  product_from : (leaves : List Leaf) (x : ℤ) →
      x *ℤ (total mul_parts one_part (factor_parts leaves)).value ≡ fold ◌*ℤ◌ x (map reads.leaf leaves)
  product_from [] x = omega (arith, ints)
  product_from (l ∷ leaves) x =
      let rest = (total mul_parts one_part (factor_parts leaves)).value in
      sym (product_assoc x (reads.leaf l) rest) ∙ product_from leaves (x *ℤ reads.leaf l)

  factor_parts_value : (leaves : List Leaf) → (total mul_parts one_part (factor_parts leaves)).value ≡ exact_product (map reads.leaf leaves)
  factor_parts_value leaves =
      (let e : (total mul_parts one_part (factor_parts leaves)).value
      ≡ pos 1 *ℤ (total mul_parts one_part (factor_parts leaves)).value = omega (arith, ints) in e)
      ∙ product_from leaves (pos 1)

  factor_parts_most : (leaves : List Leaf) →
      (total mul_parts one_part (factor_parts leaves)).most ≡ product_magnitude (map reads.leaf leaves)
  factor_parts_most [] = refl
  factor_parts_most (l ∷ leaves) = ap (λ n. max 1 (unsigned_abs (reads.leaf l)) * n) (factor_parts_most leaves)

  factor_parts_length : (leaves : List Leaf) → length (factor_parts leaves) ≡ length leaves
  factor_parts_length [] = refl
  factor_parts_length (l ∷ leaves) = ap suc (factor_parts_length leaves)

module _ (functions : List Function) (reads : Reads) (line : ℕ) where
  abbrev Has : ExprTree → ℤ → Type 0
  Has e x = Gives functions reads line e x

  -- a factor within its bound, where that is small; no bound is 0
  abbrev IsFactor : ExprTree → Part → Type 0
  IsFactor e p = (1 ≤ p.most) × (p.most ≤ 2 ^ 62 → Has e p.value × (unsigned_abs p.value ≤ p.most))

  factors_multiply : (a b : ExprTree) (p q : Part) → IsFactor a p → IsFactor b q → IsFactor (binary Mul a b) (mul_parts p q)
  factors_multiply a b p q f g = (
    one-le-mul f.0 g.0,
    λ small.
        let swapped : q.most * p.most ≡ p.most * q.most = omega arith in
        let first = f.1 (omega (arith, small, le-mul_of_pos_right p.most g.0)) in
        let second = g.1 (omega (arith, small, le-mul_of_pos_right q.most f.0, swapped)) in
        let both : unsigned_abs (p.value *ℤ q.value) ≤ p.most * q.most =
        omega (arith, unsigned_abs-mul p.value q.value, mul-le-mul first.1 second.1) in
        (gives_mul functions reads line a b p.value q.value first.0 second.0 (omega (arith, both, small)), both),
  )

  factors_related : (leaves : List Leaf) → AllZip IsFactor (map read leaves) (factor_parts reads leaves)
  factors_related [] = tt
  factors_related (l ∷ leaves) = (
    (
      le-max_left 1 (unsigned_abs (reads.leaf l)),
      λ small. (gives_read functions reads line l, le-max_right 1 (unsigned_abs (reads.leaf l))),
    ),
    factors_related leaves,
  )

  -- the exact product, which is no larger than its factors together
  pub product_gives : (leaves : List Leaf) → length leaves ≤ 16 → product_magnitude (map reads.leaf leaves) ≤ 2 ^ 62 →
      Has (product_code leaves) (exact_product (map reads.leaf leaves))
      × (unsigned_abs (exact_product (map reads.leaf leaves)) ≤ product_magnitude (map reads.leaf leaves))
  product_gives leaves few small =
      let parts = factor_parts reads leaves in
      let tree =
      balanced_related (binary Mul) mul_parts IsFactor factors_multiply (literal (pos 1)) one_part (
        omega arith,
        λ bound. (gives_literal functions reads line (pos 1), omega arith),
      ) (map read leaves) parts
      (factors_related leaves) in
      let whole = balanced_total mul_parts one_part mul_parts_assoc mul_one parts (omega (arith, few, factor_parts_length reads leaves)) in
      let is_factor = subst (IsFactor (product_code leaves)) whole tree in
      let same = factor_parts_most reads leaves in
      let bounded = is_factor.1 (omega (arith, small, same)) in
      subst (λ v. Has (product_code leaves) v × (unsigned_abs v ≤ product_magnitude (map reads.leaf leaves)))
      (factor_parts_value reads leaves) (bounded.0, omega (arith, bounded.1, same))
