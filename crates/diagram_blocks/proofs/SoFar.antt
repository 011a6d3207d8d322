-- Steps of the loops that add and multiply exact numbers.
use Rattle.std.proofs.Common.{◌≡◌, refl, sym, ap, ◌∙◌, subst, ℕ, suc, ◌+◌, ◌*◌, ◌^◌, ◌<◌, ◌≤◌, max, Bool, true, false, List, [], ◌∷◌, drop, take, length, get_or, ℤ, pos, ◌+ℤ◌, ◌-ℤ◌, ◌*ℤ◌, unsigned_abs, ◌/◌, bit_and, eq-eqb, true-eqb, ◌==◌, arith}
use Rattle.std.specs.Int.{bit_at}
use Rattle.std.proofs.lemmas.Int.{ints, unsigned_abs-mul}
use Rattle.std.proofs.lemmas.List.Sums.{fold_more}
use Rattle.std.proofs.lemmas.Nat.Bits.{shr_and_one}
use Rattle.std.proofs.Math.Seq.{drop-cons}
use Rattle.std.proofs.Math.Nat.{mul-le-mul_left, mul-le-mul_right, le-max_left, le-max_right, mul_assoc, one-le-mul, le-mul_of_pos_right}
use Rattle.diagram_blocks.specs.Value.{signed_term, exact_sum, exact_product}
use Rattle.base_fixed_point.specs.Conversion.{over_units}
use Rattle.diagram_blocks.specs.Laws.{sum_magnitude, product_magnitude}

drop_next : {X : Type 0} (xs : List X) (i : ℕ) (d : X) → i < length xs → drop i xs ≡ get_or xs i d ∷ drop (i + 1) xs
drop_next xs i d h = drop-cons xs i d h ∙ ap (λ k. get_or xs i d ∷ drop k xs) (let e : suc i ≡ i + 1 = omega arith in e)

-- ---- Products

product_magnitude-pos : (vs : List ℤ) → 1 ≤ product_magnitude vs
product_magnitude-pos [] = omega arith
product_magnitude-pos (v ∷ vs) = one-le-mul (le-max_left 1 (unsigned_abs v)) (product_magnitude-pos vs)

-- p is the product of the first i factors, and with the rest its magnitude stays within that of all
pub record IsProductSoFar (vs : List ℤ) (i : ℕ) (p : ℤ) : Type 0 where
  pub value : p ≡ exact_product (take i vs)
  pub magnitude : unsigned_abs p * product_magnitude (drop i vs) ≤ product_magnitude vs

pub product_begins : (vs : List ℤ) → IsProductSoFar vs 0 (pos 1)
product_begins vs = record { value = refl; magnitude = omega arith }

product-within : (a v m : ℕ) → a * v * m ≤ a * (max 1 v * m)
product-within a v m = omega (arith, mul-le-mul_right m (mul-le-mul_left a (le-max_right 1 v)), mul_assoc a (max 1 v) m)

pub product_goes_on : (vs : List ℤ) (i : ℕ) (p d : ℤ) → i < length vs → IsProductSoFar vs i p →
    IsProductSoFar vs (i + 1) (p *ℤ get_or vs i d)
product_goes_on vs i p d h so_far =
    let v = get_or vs i d in
    let rest = drop (i + 1) vs in
    record {
      value = ap (λ q. q *ℤ v) so_far.value ∙ sym (fold_more ◌*ℤ◌ (pos 1) vs i d h);
      magnitude =
          omega (
            arith,
            ap (λ k. k * product_magnitude rest) (unsigned_abs-mul p v),
            product-within (unsigned_abs p) (unsigned_abs v) (product_magnitude rest),
            ap (λ l. unsigned_abs p * product_magnitude l) (drop_next vs i d h),
            so_far.magnitude,
          );
    }

-- a product so far is within the magnitude of all
pub product_so_far-le : (vs : List ℤ) (i : ℕ) (p : ℤ) → IsProductSoFar vs i p → unsigned_abs p ≤ product_magnitude vs
product_so_far-le vs i p so_far = omega (arith, le-mul_of_pos_right (unsigned_abs p) (product_magnitude-pos (drop i vs)), so_far.magnitude)

-- ---- Sums

-- s is the sum of the first i terms, and with the rest its magnitude stays within that of all
pub record IsSumSoFar (minus F : ℕ) (fs : List ℕ) (vs : List ℤ) (i : ℕ) (s : ℤ) : Type 0 where
  pub value : s +ℤ exact_sum minus F i (drop i fs) (drop i vs) ≡ exact_sum minus F 0 fs vs
  pub magnitude : unsigned_abs s + sum_magnitude F (drop i fs) (drop i vs) ≤ sum_magnitude F fs vs

pub sum_begins : (minus F : ℕ) (fs : List ℕ) (vs : List ℤ) → IsSumSoFar minus F fs vs 0 (pos 0)
sum_begins minus F fs vs = record { value = omega (arith, ints); magnitude = omega arith }

signed-abs : (minus : Bool) (v : ℤ) → unsigned_abs (signed_term minus v) ≡ unsigned_abs v
signed-abs true v = omega (arith, ints)
signed-abs false v = refl

abs-add : (a b : ℤ) → unsigned_abs (a +ℤ b) ≤ unsigned_abs a + unsigned_abs b
abs-add a b = omega (arith, ints)

pub sum_goes_on : (minus F : ℕ) (fs : List ℕ) (vs : List ℤ) (i : ℕ) (s : ℤ) (f : ℕ) (v : ℤ) → i < length fs →
    i < length vs → IsSumSoFar minus F fs vs i s →
    (let term = over_units (get_or vs i v) (get_or fs i f) F in
    IsSumSoFar minus F fs vs (i + 1) (s +ℤ signed_term (bit_at minus i == 1) term))
sum_goes_on minus F fs vs i s f v hf hv so_far =
    let term = over_units (get_or vs i v) (get_or fs i f) F in
    let next = signed_term (bit_at minus i == 1) term in
    let split_f = drop_next fs i f hf in
    let split_v = drop_next vs i v hv in
    let rest = exact_sum minus F (i + 1) (drop (i + 1) fs) (drop (i + 1) vs) in
    let here : exact_sum minus F i (drop i fs) (drop i vs) ≡ next +ℤ rest =
    rw (split_f, split_v) (ap (λ k. next +ℤ exact_sum minus F k (drop (i + 1) fs) (drop (i + 1) vs)) (let e : suc i
    ≡ i + 1 = omega arith in e)) in
    let size : sum_magnitude F (drop i fs) (drop i vs)
    ≡ unsigned_abs term + sum_magnitude F (drop (i + 1) fs) (drop (i + 1) vs) = rw (split_f, split_v) refl in
    record {
      value = omega (arith, ints, here, so_far.value);
      magnitude = omega (arith, size, so_far.magnitude, abs-add s next, signed-abs (bit_at minus i == 1) term);
    }

-- the term at i is within the magnitude of all
pub term-le : (minus F : ℕ) (fs : List ℕ) (vs : List ℤ) (i : ℕ) (s : ℤ) (f : ℕ) (v : ℤ) → i < length fs →
    i < length vs → IsSumSoFar minus F fs vs i s →
    unsigned_abs s + unsigned_abs (over_units (get_or vs i v) (get_or fs i f) F) ≤ sum_magnitude F fs vs
term-le minus F fs vs i s f v hf hv so_far =
    let term = over_units (get_or vs i v) (get_or fs i f) F in
    let split_f = drop_next fs i f hf in
    let split_v = drop_next vs i v hv in
    let size : sum_magnitude F (drop i fs) (drop i vs)
    ≡ unsigned_abs term + sum_magnitude F (drop (i + 1) fs) (drop (i + 1) vs) = rw (split_f, split_v) refl in
    omega (arith, size, so_far.magnitude)

not_one : (n : ℕ) → (n ≡ 1 → ⊥) → (n == 1) ≡ false
not_one n h = by (n == 1) refl
  where
    by : (r : Bool) → (n == 1) ≡ r → (n == 1) ≡ false
    by false e = e
    by true e = absurd (h (true-eqb n 1 (sym e)))

-- the step of the loop by its test
pub sum_subtracts : (minus F : ℕ) (fs : List ℕ) (vs : List ℤ) (i : ℕ) (s next term : ℤ) → i < length fs →
    i < length vs → IsSumSoFar minus F fs vs i s →
    bit_and (minus / 2 ^ i) 1 ≡ 1 → term ≡ over_units (get_or vs i (pos 0)) (get_or fs i 0) F → next ≡ s -ℤ term →
    IsSumSoFar minus F fs vs (i + 1) next
sum_subtracts minus F fs vs i s next term hf hv so_far test e n =
    let set : (bit_at minus i == 1) ≡ true = eq-eqb _ _ (sym (shr_and_one minus i) ∙ test) in
    let step = sum_goes_on minus F fs vs i s 0 (pos 0) hf hv so_far in
    let value : next ≡ s +ℤ signed_term (bit_at minus i == 1) (over_units (get_or vs i (pos 0)) (get_or fs i 0) F) =
    rw set (omega (arith, ints, e, n)) in
    subst (IsSumSoFar minus F fs vs (i + 1)) (sym value) step

pub sum_adds : (minus F : ℕ) (fs : List ℕ) (vs : List ℤ) (i : ℕ) (s next term : ℤ) → i < length fs → i < length vs →
    IsSumSoFar minus F fs vs i s →
    (bit_and (minus / 2 ^ i) 1 ≡ 1 → ⊥) → term ≡ over_units (get_or vs i (pos 0)) (get_or fs i 0) F →
    next ≡ s +ℤ term → IsSumSoFar minus F fs vs (i + 1) next
sum_adds minus F fs vs i s next term hf hv so_far test e n =
    let clear : (bit_at minus i == 1) ≡ false = not_one (bit_at minus i) (λ one. test (shr_and_one minus i ∙ one)) in
    let step = sum_goes_on minus F fs vs i s 0 (pos 0) hf hv so_far in
    let value : next ≡ s +ℤ signed_term (bit_at minus i == 1) (over_units (get_or vs i (pos 0)) (get_or fs i 0) F) =
    rw clear (omega (arith, ints, e, n)) in
    subst (IsSumSoFar minus F fs vs (i + 1)) (sym value) step
